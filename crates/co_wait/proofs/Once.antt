-- Waits have one knot: ranks are one, the walk has one next wait, and the ring is turned in one way.
use Rattle.std.proofs.Common.{◌≡◌, ◌≢◌, ℕ, zero, suc, ◌<◌, ◌≤◌, ◌⊎◌, inl, inr, List, [], ◌∷◌, ◌++◌, length, get_or, refl, sym, ap, ◌∙◌, subst, append_assoc, append-nil, arith}
use Rattle.std.specs.Prelude.{All, AllPairs, Any, Contains}
use Rattle.std.proofs.lemmas.Bool.{cases_order}
use Rattle.std.proofs.lemmas.List.Elements.{All-append, All-cons, All-head, All-tail, All-contains}
use Rattle.co_wait.specs.declared.knot.Knot.{Knot}
use Rattle.co_wait.specs.declared.knot.Knot.TheVariants.{Cycle, Order}
use Rattle.co_wait.specs.declared.knot.Rank.{Rank}
use Rattle.co_wait.specs.declared.wait.Wait.{Wait}
use Rattle.co_wait.specs.Chains.{IsWaitBefore, IsRank}
use Rattle.co_wait.specs.Knots.{IsOrder, IsLeastLeft, IsNextOnWalk, IsWalkFrom, lead_of, ComesAgain, AreOfDistinct, LeastIsFirst, IsTurned, IsCycle, IsKnot}
use Rattle.co_wait.specs.Searching.{BeginsWithTxn}
use Rattle.co_wait.proofs.Places.{ordered_at, same_at}
use Rattle.co_wait.proofs.Rounds.{all_back, all_front, distinct_across, distinct_head, distinct_tail, distinct_back}
use Rattle.co_wait.proofs.Cycles.{lead_of-append}

-- ---- the order

rank_once : (waits : List Wait) (t r s : ℕ) → IsRank waits t r → IsRank waits t s → r ≡ s
rank_once waits t r s one other =
    let low : length one.reached.0 ≤ s = other.longest one.reached.0 one.reached.1 in
    let high : length other.reached.0 ≤ r = one.longest other.reached.0 other.reached.1 in
    let a : length one.reached.0 ≡ r = one.reached.2 in
    let b : length other.reached.0 ≡ s = other.reached.2 in
    omega arith

-- the first one is the least
least_of : (r : Rank) (ranks : List Rank) (s : Rank) → AllPairs (λ r s. r.txn < s.txn) (r ∷ ranks) → Any (λ q. q.txn ≡ s.txn) (r ∷ ranks) → r.txn ≤ s.txn
least_of r ranks s up any = by any.0 any.1 any.2 any.3 any.4
  where
    by : (k : ℕ) (q : Rank) → k < length (r ∷ ranks) → get_or (r ∷ ranks) k q ≡ q → q.txn ≡ s.txn → r.txn ≤ s.txn
    by zero q lt is e = let same : r.txn ≡ q.txn = ap (λ (x : Rank). x.txn) is in omega (arith, e)
    by (suc k) q lt is e =
        let less : r.txn < (get_or ranks k q).txn = up 0 (suc k) q (omega arith) lt in
        let same : (get_or ranks k q).txn ≡ q.txn = ap (λ (x : Rank). x.txn) is in
        omega (arith, e)

rising_tail : (r : Rank) (ranks : List Rank) → AllPairs (λ r s. r.txn < s.txn) (r ∷ ranks) → AllPairs (λ r s. r.txn < s.txn) ranks
rising_tail r ranks up i j d lt in_range = up (suc i) (suc j) d (omega arith) (omega (arith, in_range))

-- what stands behind the first one stands behind the other first one
behind : (r s : Rank) (ranks others : List Rank) → r.txn ≡ s.txn → AllPairs (λ r s. r.txn < s.txn) (r ∷ ranks) → ((t : ℕ) → Any (λ q. q.txn ≡ t) (r ∷ ranks) → Any (λ q. q.txn ≡ t) (s ∷ others)) →
    (t : ℕ) → Any (λ q. q.txn ≡ t) ranks → Any (λ q. q.txn ≡ t) others
behind r s ranks others same up to t any = by (to t (suc any.0, any.1, omega (arith, any.2), any.3, any.4))
  where
    above : r.txn < t
    above =
        let less : r.txn < (get_or ranks any.0 any.1).txn = up 0 (suc any.0) any.1 (omega arith) (omega (arith, any.2)) in
        let here : (get_or ranks any.0 any.1).txn ≡ any.1.txn = ap (λ (x : Rank). x.txn) any.3 in
        let at : any.1.txn ≡ t = any.4 in
        omega arith

    at_place : (k : ℕ) (q : Rank) → k < length (s ∷ others) → get_or (s ∷ others) k q ≡ q → q.txn ≡ t → Any (λ q. q.txn ≡ t) others
    at_place zero q lt is e = let here : s.txn ≡ q.txn = ap (λ (x : Rank). x.txn) is in absurd (omega (arith, above, same, e))
    at_place (suc k) q lt is e = (k, q, omega (arith, lt), is, e)

    by : Any (λ q. q.txn ≡ t) (s ∷ others) → Any (λ q. q.txn ≡ t) others
    by found = at_place found.0 found.1 found.2 found.3 found.4

same_head : (waits : List Wait) (r s : Rank) → r.txn ≤ s.txn → s.txn ≤ r.txn → IsRank waits r.txn r.rank → IsRank waits s.txn s.rank → r ≡ s
same_head waits r s low high a b =
    let same : r.txn ≡ s.txn = omega arith in
    let rank : r.rank ≡ s.rank = rank_once waits s.txn r.rank s.rank (subst (λ t. IsRank waits t r.rank) same a) b in
    λ i. record { txn = same i; rank = rank i }

ranks_once : (waits : List Wait) (ranks others : List Rank) → AllPairs (λ r s. r.txn < s.txn) ranks → AllPairs (λ r s. r.txn < s.txn) others →
    ((t : ℕ) → Any (λ r. r.txn ≡ t) ranks → Any (λ r. r.txn ≡ t) others) → ((t : ℕ) → Any (λ r. r.txn ≡ t) others → Any (λ r. r.txn ≡ t) ranks) →
    All (λ r. IsRank waits r.txn r.rank) ranks → All (λ r. IsRank waits r.txn r.rank) others → ranks ≡ others
ranks_once waits [] [] up up' to from a b = refl
ranks_once waits [] (s ∷ others) up up' to from a b = absurd (let any = from s.txn (0, s, omega arith, refl, refl) in let lt : any.0 < 0 = any.2 in omega arith)
ranks_once waits (r ∷ ranks) [] up up' to from a b = absurd (let any = to r.txn (0, r, omega arith, refl, refl) in let lt : any.0 < 0 = any.2 in omega arith)
ranks_once waits (r ∷ ranks) (s ∷ others) up up' to from a b =
    let low = least_of r ranks s up (from s.txn (0, s, omega arith, refl, refl)) in
    let high = least_of s others r up' (to r.txn (0, r, omega arith, refl, refl)) in
    let e = same_head waits r s low high (All-head (λ r. IsRank waits r.txn r.rank) r ranks a) (All-head (λ r. IsRank waits r.txn r.rank) s others b) in
    let rest = ranks_once waits ranks others (rising_tail r ranks up) (rising_tail s others up')
    (behind r s ranks others (ap (λ (x : Rank). x.txn) e) up to) (behind s r others ranks (sym (ap (λ (x : Rank). x.txn) e)) up' from)
    (All-tail (λ r. IsRank waits r.txn r.rank) r ranks a) (All-tail (λ r. IsRank waits r.txn r.rank) s others b) in
    λ i. e i ∷ rest i

-- ---- the walk

not_both : (v w : Wait) → v.held ≡ w.held → v.member ≡ w.member → IsWaitBefore v w → ⊥
not_both v w held member (inl lt) = omega (arith, held)
not_both v w held member (inr at) = let lt : v.member < w.member = at.1 in omega (arith, member)

wait_once : (waits : List Wait) → AllPairs IsWaitBefore waits → (v w : Wait) → Contains waits v → Contains waits w → v.held ≡ w.held → v.member ≡ w.member → v ≡ w
wait_once waits ordered v w c d held member = by (cases_order c.0 d.0)
  where
    by : (c.0 ≡ d.0) ⊎ ((c.0 < d.0) ⊎ (d.0 < c.0)) → v ≡ w
    by (inl e) = same_at waits d.0 v w (subst (λ k. (k < length waits) × (get_or waits k v ≡ v)) e (c.1, c.2)) (d.1, d.2)
    by (inr (inl lt)) = absurd (not_both v w held member (ordered_at waits ordered c.0 d.0 v w lt (c.1, c.2) (d.1, d.2)))
    by (inr (inr gt)) = absurd (not_both w v (sym held) (sym member) (ordered_at waits ordered d.0 c.0 w v gt (d.1, d.2) (c.1, c.2)))

next_once : (waits : List Wait) → AllPairs IsWaitBefore waits → (v w : Wait) → IsNextOnWalk waits v → IsNextOnWalk waits w → v.held ≡ w.held → v ≡ w
next_once waits ordered v w one other held = by (cases_order v.member w.member)
  where
    by : (v.member ≡ w.member) ⊎ ((v.member < w.member) ⊎ (w.member < v.member)) → v ≡ w
    by (inl e) = wait_once waits ordered v w one.one other.one held e
    by (inr (inl lt)) = absurd (one.left (other.least v one.one held lt))
    by (inr (inr gt)) = absurd (other.left (one.least w other.one (sym held) gt))

-- a walk that has come again goes on no more
no_more_walk : (done ws : List Wait) (w : Wait) (t : ℕ) → w.held ≡ t → AreOfDistinct (done ++ w ∷ ws) → Any (λ v. v.held ≡ t) (done ++ []) → ⊥
no_more_walk done ws w t own apart again =
    let across = distinct_across done (w ∷ ws) apart in
    let found = subst (λ list. Any (λ v. v.held ≡ t) list) (append-nil done) again in
    let here = All-contains (λ v. All (λ x. v.held ≢ x.held) (w ∷ ws)) done found.1 across (found.0, found.2, found.3) in
    All-head (λ x. found.1.held ≢ x.held) w ws here (found.4 ∙ sym own)

walks_once : (waits : List Wait) → AllPairs IsWaitBefore waits → (one other done : List Wait) (t : ℕ) → IsWalkFrom waits t one → IsWalkFrom waits t other → AreOfDistinct (done ++ one) → AreOfDistinct (done ++ other) →
    Any (λ v. v.held ≡ lead_of t one) (done ++ one) → Any (λ v. v.held ≡ lead_of t other) (done ++ other) → one ≡ other
walks_once waits ordered [] [] done t h k apart apart' again again' = refl
walks_once waits ordered [] (w ∷ other) done t h k apart apart' again again' = absurd (no_more_walk done other w t k.0 apart' again)
walks_once waits ordered (w ∷ one) [] done t h k apart apart' again again' = absurd (no_more_walk done one w t h.0 apart again')
walks_once waits ordered (w ∷ one) (v ∷ other) done t h k apart apart' again again' =
    let same = next_once waits ordered w v h.1 k.1 (h.0 ∙ sym k.0) in
    let rest = walks_once waits ordered one other (done ++ w ∷ []) w.by h.2 (subst (λ (x : Wait). IsWalkFrom waits x.by other) (sym same) k.2)
    (subst AreOfDistinct (sym (append_assoc done (w ∷ []) one)) apart)
    (subst AreOfDistinct (sym (append_assoc done (w ∷ []) other)) (subst (λ x. AreOfDistinct (done ++ x ∷ other)) (sym same) apart'))
    (subst (Any (λ x. x.held ≡ lead_of w.by one)) (sym (append_assoc done (w ∷ []) one)) again)
    (subst (Any (λ x. x.held ≡ lead_of w.by other)) (sym (append_assoc done (w ∷ []) other)) (subst (λ (y : Wait). Any (λ x. x.held ≡ lead_of y.by other) (done ++ y ∷ other)) (sym same) again')) in
    λ i. same i ∷ rest i

-- ---- the ring

begins_at : (before ring : List Wait) (t : ℕ) → ComesAgain ring → BeginsWithTxn (lead_of t (before ++ ring)) ring
begins_at before [] t again = again
begins_at before (w ∷ ring) t again = sym again ∙ sym (lead_of-append before (w ∷ ring) t)

has_again : (before ring : List Wait) (u : ℕ) → BeginsWithTxn u ring → Any (λ v. v.held ≡ u) (before ++ ring)
has_again [] [] u begins = absurd begins
has_again [] (w ∷ ring) u begins = (0, w, omega arith, refl, begins)
has_again (v ∷ before) ring u begins = let any = has_again before ring u begins in (suc any.0, any.1, omega (arith, any.2), any.3, any.4)

not_later : (before ring : List Wait) (w : Wait) (u : ℕ) → w.held ≡ u → BeginsWithTxn u ring → All (λ v. w.held ≢ v.held) (before ++ ring) → ⊥
not_later before [] w u own begins apart = begins
not_later before (v ∷ ring) w u own begins apart = All-head (λ v. w.held ≢ v.held) v ring (all_back (λ v. w.held ≢ v.held) before (v ∷ ring) apart) (own ∙ sym begins)

cons_head : (v w : Wait) (vs ws : List Wait) → v ∷ vs ≡ w ∷ ws → v ≡ w
cons_head v w vs ws e = cc

cons_tail : (v w : Wait) (vs ws : List Wait) → v ∷ vs ≡ w ∷ ws → vs ≡ ws
cons_tail v w vs ws e = cc

rings_once : (one other ring ring' : List Wait) (u : ℕ) → one ++ ring ≡ other ++ ring' → AreOfDistinct (one ++ ring) → BeginsWithTxn u ring → BeginsWithTxn u ring' → (one ≡ other) × (ring ≡ ring')
rings_once [] [] ring ring' u e apart begins begins' = (refl, e)
rings_once [] (v ∷ other) [] ring' u e apart begins begins' = absurd begins
rings_once [] (v ∷ other) (w ∷ ring) ring' u e apart begins begins' =
    absurd (not_later other ring' w u begins begins' (subst (All (λ x. w.held ≢ x.held)) (cons_tail w v ring (other ++ ring') e) (distinct_head w ring apart)))
rings_once (v ∷ one) [] ring [] u e apart begins begins' = absurd begins'
rings_once (v ∷ one) [] ring (w ∷ ring') u e apart begins begins' =
    absurd (not_later one ring v u (ap (λ (x : Wait). x.held) (cons_head v w (one ++ ring) ring' e) ∙ begins') begins (distinct_head v (one ++ ring) apart))
rings_once (v ∷ one) (w ∷ other) ring ring' u e apart begins begins' =
    let rest = rings_once one other ring ring' u (cons_tail v w (one ++ ring) (other ++ ring') e) (distinct_tail v (one ++ ring) apart) begins begins' in
    let same = cons_head v w (one ++ ring) (other ++ ring') e in
    ((λ i. same i ∷ rest.0 i), rest.1)

-- ---- the turn

-- the transaction of the first leg, above which are all
head_of : (legs : List Wait) → LeastIsFirst legs → (u : ℕ) × BeginsWithTxn u legs × All (λ v. u ≤ v.held) legs
head_of [] least = absurd least
head_of (w ∷ legs) least = (w.held, refl, All-cons (λ v. w.held ≤ v.held) w legs (omega arith) least)

no_higher_head : (legs : List Wait) (u a : ℕ) → BeginsWithTxn u legs → All (λ v. a ≤ v.held) legs → a ≤ u
no_higher_head [] u a begins all = absurd begins
no_higher_head (w ∷ legs) u a begins all = let le : a ≤ w.held = All-head (λ v. a ≤ v.held) w legs all in omega (arith, begins)

module _ (P : Wait → Type 0) (ring legs : List Wait) (turned : IsTurned ring legs) where
  of_ring : All P ring → All P legs
  of_ring all =
      let parts = subst (All P) turned.cut all in
      subst (All P) (sym turned.joined) (All-append P turned.back turned.front (all_back P turned.front turned.back parts) (all_front P turned.front turned.back parts))

  of_legs : All P legs → All P ring
  of_legs all =
      let parts = subst (All P) turned.joined all in
      subst (All P) (sym turned.cut) (All-append P turned.front turned.back (all_back P turned.back turned.front parts) (all_front P turned.back turned.front parts))

-- a cut before the first leg
cut_at : (ring legs front back : List Wait) (u : ℕ) → ring ≡ front ++ back → legs ≡ back ++ front → BeginsWithTxn u legs →
    (f : List Wait) × (b : List Wait) × (ring ≡ f ++ b) × (legs ≡ b ++ f) × BeginsWithTxn u b
cut_at ring legs front [] u cut joined begins =
    let whole : ring ≡ legs = cut ∙ append-nil front ∙ sym joined in
    ([], legs, whole, sym (append-nil legs), begins)
cut_at ring legs front (w ∷ back) u cut joined begins = (front, w ∷ back, cut, joined, subst (BeginsWithTxn u) joined begins)

turns_once : (ring legs others : List Wait) → AreOfDistinct ring → IsTurned ring legs → IsTurned ring others → legs ≡ others
turns_once ring legs others apart one other = by (head_of legs one.least) (head_of others other.least)
  where
    by : (u : ℕ) × BeginsWithTxn u legs × All (λ v. u ≤ v.held) legs → (u : ℕ) × BeginsWithTxn u others × All (λ v. u ≤ v.held) others → legs ≡ others
    by h k =
        let low : h.0 ≤ k.0 = no_higher_head others k.0 h.0 k.1 (of_ring (λ v. h.0 ≤ v.held) ring others other (of_legs (λ v. h.0 ≤ v.held) ring legs one h.2)) in
        let high : k.0 ≤ h.0 = no_higher_head legs h.0 k.0 h.1 (of_ring (λ v. k.0 ≤ v.held) ring legs one (of_legs (λ v. k.0 ≤ v.held) ring others other k.2)) in
        let same : h.0 ≡ k.0 = omega arith in
        let a = cut_at ring legs one.front one.back h.0 one.cut one.joined h.1 in
        let b = cut_at ring others other.front other.back k.0 other.cut other.joined k.1 in
        let parts = rings_once a.0 b.0 a.1 b.1 h.0 (sym a.2 ∙ b.2) (subst AreOfDistinct a.2 apart) a.4 (subst (λ u. BeginsWithTxn u b.1) (sym same) b.4) in
        a.3 ∙ ap (λ list. list ++ a.0) parts.1 ∙ ap (λ list. b.1 ++ list) parts.0 ∙ sym b.3

-- ---- the knot

start_once : (waits : List Wait) (t u : ℕ) → IsLeastLeft waits t → IsLeastLeft waits u → t ≡ u
start_once waits t u one other = by (cases_order t u)
  where
    by : (t ≡ u) ⊎ ((t < u) ⊎ (u < t)) → t ≡ u
    by (inl e) = e
    by (inr (inl lt)) = absurd (one.left (other.least t one.one lt))
    by (inr (inr gt)) = absurd (other.left (one.least u other.one gt))

cycles_once : (waits : List Wait) → AllPairs IsWaitBefore waits → (legs others : List Wait) → IsCycle waits legs → IsCycle waits others → legs ≡ others
cycles_once waits ordered legs others one other =
    let start = start_once waits one.start other.start one.least other.least in
    let walk = subst (λ t. IsWalkFrom waits t (other.before ++ other.ring)) (sym start) other.walk in
    let same = walks_once waits ordered (one.before ++ one.ring) (other.before ++ other.ring) [] one.start one.walk walk one.first_time other.first_time
    (has_again one.before one.ring (lead_of one.start (one.before ++ one.ring)) (begins_at one.before one.ring one.start one.again))
    (has_again other.before other.ring (lead_of one.start (other.before ++ other.ring)) (begins_at other.before other.ring one.start other.again)) in
    let rings = rings_once one.before other.before one.ring other.ring (lead_of one.start (one.before ++ one.ring)) same one.first_time (begins_at one.before one.ring one.start one.again)
    (subst (λ list. BeginsWithTxn (lead_of one.start list) other.ring) (sym same) (begins_at other.before other.ring one.start other.again)) in
    turns_once one.ring legs others (distinct_back one.before one.ring one.first_time) one.turned (subst (λ ring. IsTurned ring others) (sym rings.1) other.turned)

no_cycle_too : (waits : List Wait) (ranks : List Rank) (legs : List Wait) → IsOrder waits ranks → IsCycle waits legs → ⊥
no_cycle_too waits ranks legs order cycle =
    let any = (order.whole cycle.start).0 cycle.least.one in
    cycle.least.left (any.1.rank, subst (λ t. IsRank waits t any.1.rank) any.4 (subst (λ (r : Rank). IsRank waits r.txn r.rank) any.3 (order.ranked any.0 any.1 any.2)))

pub one_knot : (waits : List Wait) (one other : Knot) → AllPairs IsWaitBefore waits → IsKnot waits one → IsKnot waits other → one ≡ other
one_knot waits (Order ranks) (Order others) ordered h k =
    ap Order (ranks_once waits ranks others h.ascending k.ascending (λ t any. (k.whole t).0 ((h.whole t).1 any)) (λ t any. (h.whole t).0 ((k.whole t).1 any)) h.ranked k.ranked)
one_knot waits (Order ranks) (Cycle legs) ordered h k = absurd (no_cycle_too waits ranks legs h k)
one_knot waits (Cycle legs) (Order ranks) ordered h k = absurd (no_cycle_too waits ranks legs k h)
one_knot waits (Cycle legs) (Cycle others) ordered h k = ap Cycle (cycles_once waits ordered legs others h k)
