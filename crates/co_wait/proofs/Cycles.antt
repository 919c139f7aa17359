-- Waits that were followed until a transaction came again are the walk, and close to the cycle.
use Rattle.std.proofs.Common.{◌≡◌, ◌≢◌, ℕ, zero, suc, ◌<◌, ◌≤◌, ◌⊎◌, inl, inr, true, false, List, [], ◌∷◌, ◌++◌, map, take, drop, length, get_or, nat_eq, refl, sym, ap, ◌∙◌, subst, drop-cons, arith, Result, Ok, Err, Vec, Global}
use Rattle.std.specs.Prelude.{AllPairs, Any, Contains, HoldsAt, IfOk}
use Rattle.std.specs.declared.alloc.AllocError.{AllocError}
use Rattle.std.specs.List.{list_any}
use Rattle.std.proofs.lemmas.Bool.{cases_order, cases_Bool, eqb-true, eq-eqb}
use Rattle.std.proofs.lemmas.List.{get_or-map, length-map, map-append, take-append-drop}
use Rattle.std.proofs.lemmas.List.Elements.{All-contains}
use Rattle.std.proofs.lemmas.List.Folds.{Any-from_list_any, list_any-from_Any}
use Rattle.co_state.specs.Table.{Table}
use Rattle.co_wait.specs.declared.search.Pause.{Pause}
use Rattle.co_wait.specs.declared.search.Progress.{Progress}
use Rattle.co_wait.specs.declared.wait.Wait.{Wait}
use Rattle.co_wait.specs.Chains.{IsWaitBefore, IsInWaits, IsChain, IsRank, IsSetAside}
use Rattle.co_wait.specs.Knots.{IsNextOnWalk, IsWalkFrom, lead_of, ComesAgain, AreOfDistinct, IsTurned, IsCycle}
use Rattle.co_wait.specs.Searching.{IsAtPlace, IsKnownToEnd, IsSoFar, IsPausedAt, LeadFrom, ArePausedApart, HasComeAgain, BeginsWithTxn, IsRingOf}
use Rattle.co_wait.proofs.Places.{one_of, same_at, ordered_at}

-- ---- whose chains do not end

-- a transaction with a chain of each length is not set aside
pub never_ends : (waits : List Wait) (t : ℕ) → ((n : ℕ) → (chain : List Wait) × IsChain waits t chain × (length chain ≡ n)) → IsSetAside waits t → ⊥
never_ends waits t chains aside =
    let long = chains (suc aside.0) in
    let below : length long.0 ≤ aside.0 = aside.1.longest long.0 long.1 in
    let is : length long.0 ≡ suc aside.0 = long.2 in
    absurd (omega arith)

-- each transaction of the path has a wait to one of the path
any_more : (path : List Pause) (p : Pause) (u : ℕ) → Any (λ q. q.wait.held ≡ u) path → Any (λ q. q.wait.held ≡ u) (p ∷ path)
any_more path p u any = (suc any.0, any.1, omega (arith, any.2), any.3, any.4)

leads_on : (path : List Pause) (first t : ℕ) → LeadFrom first path t → (p : Pause) → Contains path p → (p.wait.by ≡ t) ⊎ Any (λ q. q.wait.held ≡ p.wait.by) path
leads_on [] first t lead p c = absurd (let lt : c.0 < 0 = c.1 in omega arith)
leads_on (q ∷ path) first t lead p c = by (leads_on path q.wait.by t lead.1) c.0 c.1 c.2
  where
    here : (rest : List Pause) → LeadFrom q.wait.by rest t → (q.wait.by ≡ t) ⊎ Any (λ r. r.wait.held ≡ q.wait.by) (q ∷ rest)
    here [] l = inl l
    here (r ∷ rest) l = inr (1, r, omega arith, refl, l.0)

    later : (p.wait.by ≡ t) ⊎ Any (λ r. r.wait.held ≡ p.wait.by) path → (p.wait.by ≡ t) ⊎ Any (λ r. r.wait.held ≡ p.wait.by) (q ∷ path)
    later (inl e) = inl e
    later (inr any) = inr (any_more path q p.wait.by any)

    by : ((r : Pause) → Contains path r → (r.wait.by ≡ t) ⊎ Any (λ s. s.wait.held ≡ r.wait.by) path) → (k : ℕ) → k < length (q ∷ path) → get_or (q ∷ path) k p ≡ p → (p.wait.by ≡ t) ⊎ Any (λ r. r.wait.held ≡ p.wait.by) (q ∷ path)
    by rest zero lt is = subst (λ (x : Pause). (x.wait.by ≡ t) ⊎ Any (λ r. r.wait.held ≡ x.wait.by) (q ∷ path)) is (here path lead.1)
    by rest (suc k) lt is = later (rest p (k, omega (arith, lt), is))

module _ (waits : List Wait) (first : ℕ) (known : Table Progress) (path : List Pause) (t : ℕ) (met : HasComeAgain waits first known path t) where
  of_path : ℕ → Type 0
  of_path u = Any (λ q. q.wait.held ≡ u) path

  onward : (p : Pause) → Contains path p → Any (λ q. q.wait.held ≡ p.wait.by) path
  onward p c = by (leads_on path first t met.lead p c)
    where
      by : (p.wait.by ≡ t) ⊎ Any (λ q. q.wait.held ≡ p.wait.by) path → Any (λ q. q.wait.held ≡ p.wait.by) path
      by (inl e) = subst (λ u. Any (λ q. q.wait.held ≡ u) path) (sym e) met.again
      by (inr any) = any

  paused_at : (p : Pause) → Contains path p → IsPausedAt waits known p
  paused_at p c = All-contains (IsPausedAt waits known) path p met.paused c

  long_chain : (n u : ℕ) → Any (λ q. q.wait.held ≡ u) path → (chain : List Wait) × IsChain waits u chain × (length chain ≡ n)
  long_chain zero u any = ([], tt, refl)
  long_chain (suc n) u any =
      let p = any.1 in
      let c : Contains path any.1 = (any.0, any.2, any.3) in
      let rest = long_chain n any.1.wait.by (onward any.1 c) in
      (any.1.wait ∷ rest.0, (one_of waits any.1.place any.1.wait (paused_at any.1 c).here, any.4, rest.1), ap suc rest.2)

  pub path_left : (u : ℕ) → Any (λ q. q.wait.held ≡ u) path → ¬ IsSetAside waits u
  path_left u any = never_ends waits u (λ n. long_chain n u any)

  pub taken : AllPairs IsWaitBefore waits → (p : Pause) → Contains path p → IsNextOnWalk waits p.wait
  taken ordered p c = record {
    one = one_of waits p.place p.wait paused.here;
    left = path_left p.wait.by (onward p c);
    least = λ v d own lesser. least v d own lesser (cases_order d.0 p.place);
  }
    where
      paused : IsPausedAt waits known p
      paused = paused_at p c

      not_below : (v : Wait) → p.wait.held ≡ v.held → v.member < p.wait.member → IsWaitBefore p.wait v → ⊥
      not_below v own lesser (inl lt) = omega (arith, own)
      not_below v own lesser (inr at) = let lt : p.wait.member < v.member = at.1 in omega arith

      least : (v : Wait) (d : Contains waits v) → v.held ≡ p.wait.held → v.member < p.wait.member → (d.0 ≡ p.place) ⊎ ((d.0 < p.place) ⊎ (p.place < d.0)) → IsSetAside waits v.by
      least v d own lesser (inl e) =
          let same : p.wait ≡ v = same_at waits p.place p.wait v paused.here (subst (λ k. IsAtPlace waits k v) e (d.1, d.2)) in
          let members : p.wait.member ≡ v.member = ap (λ (x : Wait). x.member) same in
          absurd (omega (arith, lesser))
      least v d own lesser (inr (inl lt)) = let passed = paused.gone.passed d.0 v lt (d.1, d.2) own in (passed.0, met.so_far.ranked v.by passed.0 passed.1)
      least v d own lesser (inr (inr gt)) = absurd (not_below v (sym own) lesser (ordered_at waits ordered p.place d.0 p.wait v gt paused.here (d.1, d.2)))

-- ---- the walk

walk_along : (waits : List Wait) (path : List Pause) (first t : ℕ) → LeadFrom first path t → ((p : Pause) → Contains path p → IsNextOnWalk waits p.wait) → IsWalkFrom waits first (map (λ p. p.wait) path)
walk_along waits [] first t lead taken = tt
walk_along waits (p ∷ path) first t lead taken =
    (lead.0, taken p (0, omega arith, refl), walk_along waits path p.wait.by t lead.1 (λ q c. taken q (suc c.0, omega (arith, c.1), c.2)))

walk_leads : (path : List Pause) (first t : ℕ) → LeadFrom first path t → lead_of first (map (λ p. p.wait) path) ≡ t
walk_leads [] first t lead = lead
walk_leads (p ∷ path) first t lead = walk_leads path p.wait.by t lead.1

pub lead_of-append : (front back : List Wait) (t : ℕ) → lead_of t (front ++ back) ≡ lead_of (lead_of t front) back
lead_of-append [] back t = refl
lead_of-append (w ∷ front) back t = lead_of-append front back w.by

again_from : (ring : List Wait) (t u : ℕ) → BeginsWithTxn t ring → lead_of u ring ≡ t → ComesAgain ring
again_from [] t u begins leads = begins
again_from (w ∷ ring) t u begins leads = leads ∙ sym begins

pub distinct_waits : (path : List Pause) → ArePausedApart path → AreOfDistinct (map (λ p. p.wait) path)
distinct_waits path apart i j d lt in_range same =
    let size : length (map (λ p. p.wait) path) ≡ length path = length-map path (λ (p : Pause). p.wait) in
    let e : Pause = record { wait = d; place = 0; longest = 0 } in
    apart i j e lt (omega (arith, size))
    (ap (λ (w : Wait). w.held) (sym (get_or-map (λ (p : Pause). p.wait) path i e d (omega (arith, size)))) ∙ same ∙ ap (λ (w : Wait). w.held) (get_or-map (λ (p : Pause). p.wait) path j e d (omega (arith, size))))

-- ---- the least transaction that is left

-- some wait is of the transaction, or none
found_one : (waits : List Wait) (t : ℕ) (w : Wait) → Contains waits w → w.held ≡ t → list_any (λ w. nat_eq w.held t) waits ≡ true
found_one waits t w c own = list_any-from_Any (λ w. nat_eq w.held t) waits (c.0, w, c.1, c.2, eq-eqb w.held t own)

pub waits_or_not : (waits : List Wait) (t : ℕ) → Any (λ w. w.held ≡ t) waits ⊎ ((w : Wait) → Contains waits w → w.held ≢ t)
waits_or_not waits t = by (cases_Bool (list_any (λ w. nat_eq w.held t) waits))
  where
    by : (list_any (λ w. nat_eq w.held t) waits ≡ true) ⊎ (list_any (λ w. nat_eq w.held t) waits ≡ false) → Any (λ w. w.held ≡ t) waits ⊎ ((w : Wait) → Contains waits w → w.held ≢ t)
    by (inl found) = let any = Any-from_list_any (λ w. nat_eq w.held t) waits found in inl (any.0, any.1, any.2, any.3, eqb-true any.1.held t any.4)
    by (inr missing) = inr (λ w c own. let z : true ≡ false = sym (found_one waits t w c own) ∙ missing in cc)

pub no_chain : (waits : List Wait) (t : ℕ) → ((w : Wait) → Contains waits w → w.held ≢ t) → IsRank waits t 0
no_chain waits t none = record { reached = ([], tt, refl); longest = λ chain h. empty chain h }
  where
    empty : (chain : List Wait) → IsChain waits t chain → length chain ≤ 0
    empty [] h = omega arith
    empty (w ∷ chain) h = absurd (none w h.0 h.1)

pub aside_below : (waits : List Wait) (known : Table Progress) (first : ℕ) → IsSoFar waits known → ((w : Wait) → Contains waits w → w.held < first → IsKnownToEnd known w.held) → (u : ℕ) → u < first → IsSetAside waits u
aside_below waits known first so_far before u lt = by (waits_or_not waits u)
  where
    by : Any (λ w. w.held ≡ u) waits ⊎ ((w : Wait) → Contains waits w → w.held ≢ u) → IsSetAside waits u
    by (inl any) =
        let ended = before any.1 (any.0, any.2, any.3) (subst (λ n. n < first) (sym any.4) lt) in
        subst (IsSetAside waits) any.4 (ended.0, so_far.ranked any.1.held ended.0 ended.1)
    by (inr none) = (0, no_chain waits u none)

-- ---- the cycle

first_of_path : (path : List Pause) (first t : ℕ) → LeadFrom first path t → Any (λ q. q.wait.held ≡ t) path → Any (λ q. q.wait.held ≡ first) path
first_of_path [] first t lead any = absurd (let lt : any.0 < 0 = any.2 in omega arith)
first_of_path (p ∷ path) first t lead any = (0, p, omega arith, refl, lead.0)

pub cycle_from : (waits : List Wait) (first : ℕ) (known : Table Progress) (path : List Pause) (t : ℕ) (ring legs : List Wait) → AllPairs IsWaitBefore waits → HasComeAgain waits first known path t → IsInWaits waits first →
    ((w : Wait) → Contains waits w → w.held < first → IsKnownToEnd known w.held) → IsRingOf path t ring → IsTurned ring legs → IsCycle waits legs
cycle_from waits first known path t ring legs ordered met one before from turned = record {
  start = first;
  before = from.before;
  ring = ring;
  least = record {
    one = one;
    left = path_left waits first known path t met first (first_of_path path first t met.lead met.again);
    least = λ u among lt. aside_below waits known first met.so_far before u lt;
  };
  walk = subst (IsWalkFrom waits first) from.cut (walk_along waits path first t met.lead (taken waits first known path t met ordered));
  first_time = subst AreOfDistinct from.cut (distinct_waits path met.apart);
  again = again_from ring t (lead_of first from.before) from.first (sym (lead_of-append from.before ring first) ∙ ap (lead_of first) (sym from.cut) ∙ walk_leads path first t met.lead);
  turned = turned;
}

-- what was followed from the place of a transaction on
pub ring_at : (path : List Pause) (t place : ℕ) (ring : List Wait) → place < length path → HoldsAt (λ p. p.wait.held ≡ t) path place → ring ≡ map (λ p. p.wait) (drop place path) → IsRingOf path t ring
ring_at path t place ring lt here is = record {
  before = map (λ p. p.wait) (take place path);
  cut = ap (map (λ p. p.wait)) (sym (take-append-drop place path)) ∙ map-append (λ (p : Pause). p.wait) (take place path) (drop place path) ∙ ap (λ back. map (λ p. p.wait) (take place path) ++ back) (sym is);
  first = subst (BeginsWithTxn t) (sym (is ∙ ap (map (λ p. p.wait)) (drop-cons path place d lt))) (here d);
}
  where
    d : Pause
    d = record { wait = record { member = 0; held = 0; by = 0 }; place = 0; longest = 0 }

pub ring_result : (path : List Pause) (t place : ℕ) (result : Result (Vec Wait Global) AllocError) → place < length path → HoldsAt (λ p. p.wait.held ≡ t) path place → IfOk result (λ ring. ring.items ≡ map (λ p. p.wait) (drop place path)) →
    IfOk result (λ ring. IsRingOf path t ring.items)
ring_result path t place (Ok ring) lt here is = ring_at path t place ring.items lt here is
ring_result path t place (Err e) lt here is = tt
