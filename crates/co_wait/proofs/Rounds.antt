-- A cycle goes round from any of its waits, and under an order none does.
use Rattle.std.proofs.Common.{◌≡◌, ◌≢◌, ℕ, zero, suc, ◌<◌, ◌≤◌, inl, inr, List, [], ◌∷◌, ◌++◌, length, get_or, refl, sym, ap, ◌∙◌, subst, arith}
use Rattle.std.specs.Prelude.{All, Contains}
use Rattle.std.proofs.lemmas.List.Elements.{All-nil, All-cons, All-head, All-tail, All-append}
use Rattle.co_wait.specs.declared.knot.Knot.{Knot}
use Rattle.co_wait.specs.declared.knot.Knot.TheVariants.{Cycle, Order}
use Rattle.co_wait.specs.declared.knot.Rank.{Rank}
use Rattle.co_wait.specs.declared.wait.Wait.{Wait}
use Rattle.co_wait.specs.Chains.{IsInWaits, IsRank}
use Rattle.co_wait.specs.Holding.{LeadOn, GoRound, CycleHolds, OrderHolds, KnotHolds}
use Rattle.co_wait.specs.Knots.{IsOrder, IsWalkFrom, lead_of, ComesAgain, AreOfDistinct, LeastIsFirst, IsCycle, IsKnot}
use Rattle.co_wait.specs.Testing.{rank_of}
use Rattle.co_wait.proofs.Tests.{rank_found, some_rank}

-- ---- under an order

module _ (waits : List Wait) (ranks : List Rank) (h : OrderHolds waits ranks) where
  same_rank : (r s : Rank) → Contains ranks r → Contains ranks s → r.txn ≡ s.txn → r.rank ≡ s.rank
  same_rank r s cr cs e = some_rank (sym (rank_found ranks r h.once cr) ∙ ap (rank_of ranks) e ∙ rank_found ranks s h.once cs)

  its_rank : (t : ℕ) → IsInWaits waits t → (r : Rank) × Contains ranks r × (r.txn ≡ t)
  its_rank t one = let any = (h.whole t).0 one in (any.1, (any.0, any.2, any.3), any.4)

  no_higher : (legs : List Wait) (t u : ℕ) (r s : Rank) → All (Contains waits) legs → LeadOn t legs u → Contains ranks r → r.txn ≡ t → Contains ranks s → s.txn ≡ u → s.rank ≤ r.rank
  no_higher [] t u r s own lead cr at cs to = let e : r.rank ≡ s.rank = same_rank r s cr cs (at ∙ lead ∙ sym to) in omega arith
  no_higher (w ∷ legs) t u r s own lead cr at cs to =
      let c : Contains waits w = All-head (Contains waits) w legs own in
      let q = its_rank w.by (c.0, w, c.1, c.2, inr refl) in
      let less : q.0.rank < r.rank = h.falls w r q.0 c cr q.1 (at ∙ lead.0) q.2 in
      let rest : s.rank ≤ q.0.rank = no_higher legs w.by u q.0 s (All-tail (Contains waits) w legs own) lead.1 q.1 q.2 cs to in
      omega arith

  never_round : (legs : List Wait) → All (Contains waits) legs → GoRound legs → ⊥
  never_round [] own round = round
  never_round (w ∷ legs) own round =
      let c : Contains waits w = All-head (Contains waits) w legs own in
      let r = its_rank w.held (c.0, w, c.1, c.2, inl refl) in
      let q = its_rank w.by (c.0, w, c.1, c.2, inr refl) in
      let less : q.0.rank < r.0.rank = h.falls w r.0 q.0 c r.1 q.1 r.2 q.2 in
      let rest : r.0.rank ≤ q.0.rank = no_higher legs w.by w.held q.0 r.0 (All-tail (Contains waits) w legs own) round q.1 q.2 r.1 r.2 in
      omega arith

pub no_round : (waits : List Wait) (ranks : List Rank) (legs : List Wait) → OrderHolds waits ranks → All (Contains waits) legs → GoRound legs → ⊥
no_round waits ranks legs h own round = never_round waits ranks h legs own round

-- ---- the order holds

falls_by_rank : (waits : List Wait) (w : Wait) (high low : ℕ) → Contains waits w → IsRank waits w.held high → IsRank waits w.by low → low < high
falls_by_rank waits w high low c of_held of_by =
    let size : length of_by.reached.0 ≡ low = of_by.reached.2 in
    let le : length (w ∷ of_by.reached.0) ≤ high = of_held.longest (w ∷ of_by.reached.0) (c, refl, of_by.reached.1) in
    omega arith

order_holds_of : (waits : List Wait) (ranks : List Rank) → IsOrder waits ranks → OrderHolds waits ranks
order_holds_of waits ranks order = record {
  once = λ i j d lt in_range same. let less : (get_or ranks i d).txn < (get_or ranks j d).txn = order.ascending i j d lt in_range in omega (arith, same);
  whole = order.whole;
  falls = λ w r s c cr cs own onward. falls_by_rank waits w r.rank s.rank c (subst (λ t. IsRank waits t r.rank) own (rank_at r cr)) (subst (λ t. IsRank waits t s.rank) onward (rank_at s cs));
}
  where
    rank_at : (r : Rank) → Contains ranks r → IsRank waits r.txn r.rank
    rank_at r c = subst (λ (x : Rank). IsRank waits x.txn x.rank) c.2 (order.ranked c.0 r c.1)

-- ---- the cycle holds

walk_leads : (waits walk : List Wait) (t : ℕ) → IsWalkFrom waits t walk → LeadOn t walk (lead_of t walk)
walk_leads waits [] t h = refl
walk_leads waits (w ∷ walk) t h = (sym h.0, walk_leads waits walk w.by h.2)

walk_own : (waits walk : List Wait) (t : ℕ) → IsWalkFrom waits t walk → All (Contains waits) walk
walk_own waits [] t h = All-nil (Contains waits)
walk_own waits (w ∷ walk) t h = All-cons (Contains waits) w walk h.1.one (walk_own waits walk w.by h.2)

lead_parts : (front back : List Wait) (t u : ℕ) → LeadOn t (front ++ back) u → (m : ℕ) × LeadOn t front m × LeadOn m back u
lead_parts [] back t u lead = (t, refl, lead)
lead_parts (w ∷ front) back t u lead = let p = lead_parts front back w.by u lead.1 in (p.0, (lead.0, p.1), p.2)

lead_joined : (front back : List Wait) (t m u : ℕ) → LeadOn t front m → LeadOn m back u → LeadOn t (front ++ back) u
lead_joined [] back t m u first second = subst (λ n. LeadOn n back u) (sym first) second
lead_joined (w ∷ front) back t m u first second = (first.0, lead_joined front back w.by m u first.1 second)

module _ (P : Wait → Type 0) where
  pub all_front : (front back : List Wait) → All P (front ++ back) → All P front
  all_front [] back all = All-nil P
  all_front (w ∷ front) back all = All-cons P w front (All-head P w (front ++ back) all) (all_front front back (All-tail P w (front ++ back) all))

  pub all_back : (front back : List Wait) → All P (front ++ back) → All P back
  all_back [] back all = all
  all_back (w ∷ front) back all = all_back front back (All-tail P w (front ++ back) all)

-- lists of distinct transactions, by their first one
pub distinct_head : (w : Wait) (ws : List Wait) → AreOfDistinct (w ∷ ws) → All (λ v. w.held ≢ v.held) ws
distinct_head w ws all k d lt = all 0 (suc k) d (omega arith) (omega (arith, lt))

pub distinct_tail : (w : Wait) (ws : List Wait) → AreOfDistinct (w ∷ ws) → AreOfDistinct ws
distinct_tail w ws all i j d lt in_range = all (suc i) (suc j) d (omega arith) (omega (arith, in_range))

distinct_cons : (w : Wait) (ws : List Wait) → All (λ v. w.held ≢ v.held) ws → AreOfDistinct ws → AreOfDistinct (w ∷ ws)
distinct_cons w ws first rest zero zero d lt in_range = absurd (omega arith)
distinct_cons w ws first rest zero (suc j) d lt in_range = first j d (omega (arith, in_range))
distinct_cons w ws first rest (suc i) zero d lt in_range = absurd (omega arith)
distinct_cons w ws first rest (suc i) (suc j) d lt in_range = rest i j d (omega arith) (omega (arith, in_range))

pub distinct_back : (front back : List Wait) → AreOfDistinct (front ++ back) → AreOfDistinct back
distinct_back [] back all = all
distinct_back (w ∷ front) back all = distinct_back front back (distinct_tail w (front ++ back) all)

distinct_front : (front back : List Wait) → AreOfDistinct (front ++ back) → AreOfDistinct front
distinct_front [] back all = λ i j d lt in_range. absurd (let past : j < 0 = in_range in omega arith)
distinct_front (w ∷ front) back all =
    distinct_cons w front (all_front (λ v. w.held ≢ v.held) front back (distinct_head w (front ++ back) all)) (distinct_front front back (distinct_tail w (front ++ back) all))

pub distinct_across : (front back : List Wait) → AreOfDistinct (front ++ back) → All (λ v. All (λ w. v.held ≢ w.held) back) front
distinct_across [] back all = All-nil (λ v. All (λ w. v.held ≢ w.held) back)
distinct_across (w ∷ front) back all =
    All-cons (λ v. All (λ w. v.held ≢ w.held) back) w front (all_back (λ v. w.held ≢ v.held) front back (distinct_head w (front ++ back) all)) (distinct_across front back (distinct_tail w (front ++ back) all))

-- apart the other way round
apart_back : (front back : List Wait) → All (λ v. All (λ w. v.held ≢ w.held) back) front → All (λ w. All (λ v. w.held ≢ v.held) front) back
apart_back front back all k d lt i e in_range same = all i e in_range k d lt (sym same)

distinct_joined : (front back : List Wait) → AreOfDistinct front → AreOfDistinct back → All (λ v. All (λ w. v.held ≢ w.held) back) front → AreOfDistinct (front ++ back)
distinct_joined [] back first second across = second
distinct_joined (w ∷ front) back first second across =
    distinct_cons w (front ++ back) (All-append (λ v. w.held ≢ v.held) front back (distinct_head w front first) (All-head (λ v. All (λ w. v.held ≢ w.held) back) w front across))
    (distinct_joined front back (distinct_tail w front first) second (All-tail (λ v. All (λ w. v.held ≢ w.held) back) w front across))

turned_distinct : (front back : List Wait) → AreOfDistinct (front ++ back) → AreOfDistinct (back ++ front)
turned_distinct front back all =
    distinct_joined back front (distinct_back front back all) (distinct_front front back all) (apart_back front back (distinct_across front back all))

round_by : (ring : List Wait) (t : ℕ) → LeadOn t ring t → LeastIsFirst ring → GoRound ring
round_by [] t lead first = first
round_by (w ∷ ring) t lead first = subst (LeadOn w.by ring) lead.0 lead.1

comes_back : (ring : List Wait) (t : ℕ) → LeadOn t ring (lead_of t ring) → ComesAgain ring → LeadOn t ring t
comes_back [] t lead again = absurd again
comes_back (w ∷ ring) t lead again = subst (LeadOn t (w ∷ ring)) (again ∙ sym lead.0) lead

cycle_holds_of : (waits legs : List Wait) → IsCycle waits legs → CycleHolds waits legs
cycle_holds_of waits legs cycle = record {
  own = subst (All (Contains waits)) (sym cycle.turned.joined)
      (All-append (Contains waits) cycle.turned.back cycle.turned.front (all_back (Contains waits) cycle.turned.front cycle.turned.back own_ring) (all_front (Contains waits) cycle.turned.front cycle.turned.back own_ring));
  distinct = subst AreOfDistinct (sym cycle.turned.joined) (turned_distinct cycle.turned.front cycle.turned.back (subst AreOfDistinct cycle.turned.cut (distinct_back cycle.before cycle.ring cycle.first_time)));
  round = round_by legs parts.0 (subst (λ list. LeadOn parts.0 list parts.0) (sym cycle.turned.joined) (lead_joined cycle.turned.back cycle.turned.front parts.0 at.0 parts.0 parts.2 parts.1)) cycle.turned.least;
}
  where
    own_ring : All (Contains waits) (cycle.turned.front ++ cycle.turned.back)
    own_ring = subst (All (Contains waits)) cycle.turned.cut (all_back (Contains waits) cycle.before cycle.ring (walk_own waits (cycle.before ++ cycle.ring) cycle.start cycle.walk))

    at : (m : ℕ) × LeadOn cycle.start cycle.before m × LeadOn m cycle.ring (lead_of cycle.start (cycle.before ++ cycle.ring))
    at = lead_parts cycle.before cycle.ring cycle.start (lead_of cycle.start (cycle.before ++ cycle.ring)) (walk_leads waits (cycle.before ++ cycle.ring) cycle.start cycle.walk)

    ends : (ring : List Wait) (m u : ℕ) → LeadOn m ring u → lead_of m ring ≡ u
    ends [] m u lead = lead
    ends (w ∷ ring) m u lead = ends ring w.by u lead.1

    around : LeadOn at.0 cycle.ring at.0
    around = comes_back cycle.ring at.0 (subst (LeadOn at.0 cycle.ring) (sym (ends cycle.ring at.0 (lead_of cycle.start (cycle.before ++ cycle.ring)) at.2)) at.2) cycle.again

    parts : (m : ℕ) × LeadOn at.0 cycle.turned.front m × LeadOn m cycle.turned.back at.0
    parts = lead_parts cycle.turned.front cycle.turned.back at.0 at.0 (subst (λ list. LeadOn at.0 list at.0) cycle.turned.cut around)

pub knot_holds_of : (waits : List Wait) (knot : Knot) → IsKnot waits knot → KnotHolds waits knot
knot_holds_of waits (Cycle legs) h = cycle_holds_of waits legs h
knot_holds_of waits (Order ranks) h = order_holds_of waits ranks h
