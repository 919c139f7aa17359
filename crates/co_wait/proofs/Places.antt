-- Waits in their order, by their places.
use Rattle.std.proofs.Common.{◌≡◌, ◌≢◌, ℕ, ◌<◌, ◌≤◌, ◌⊎◌, inl, inr, true, false, List, length, get_or, nat_lt, sym, ap, ◌∙◌, subst, arith}
use Rattle.std.specs.Prelude.{AllPairs, Contains}
use Rattle.std.proofs.lemmas.List.{get_or_default}
use Rattle.std.proofs.lemmas.Bool.{cases_order}
use Rattle.std.proofs.lemmas.Bool.Decides.{nat_tests}
use Rattle.std.specs.List.Sorted.{IsPartitionedBy, IsPartitionPoint}
use Rattle.co_wait.specs.declared.wait.Wait.{Wait}
use Rattle.co_wait.specs.Chains.{IsWaitBefore}
use Rattle.co_wait.specs.Searching.{IsAtPlace, BeginsAt, HasNoneAt}

-- what stands at a place, at any default
pub at_default : (waits : List Wait) (i : ℕ) (w d : Wait) → IsAtPlace waits i w → get_or waits i d ≡ w
at_default waits i w d at = get_or_default waits i d w at.0 ∙ at.1

pub stands : (waits : List Wait) (i : ℕ) (d : Wait) → i < length waits → IsAtPlace waits i (get_or waits i d)
stands waits i d lt = (lt, get_or_default waits i (get_or waits i d) d lt)

pub one_of : (waits : List Wait) (i : ℕ) (w : Wait) → IsAtPlace waits i w → Contains waits w
one_of waits i w at = (i, at.0, at.1)

pub same_at : (waits : List Wait) (i : ℕ) (v w : Wait) → IsAtPlace waits i v → IsAtPlace waits i w → v ≡ w
same_at waits i v w at there = sym (at_default waits i v w at) ∙ there.1

pub ordered_at : (waits : List Wait) → AllPairs IsWaitBefore waits → (i j : ℕ) (v w : Wait) → i < j → IsAtPlace waits i v → IsAtPlace waits j w → IsWaitBefore v w
ordered_at waits ordered i j v w lt at there =
    subst (λ x. IsWaitBefore v x) (at_default waits j w v there) (subst (λ x. IsWaitBefore x (get_or waits j v)) at.1 (ordered i j v lt there.0))

pub rises : (v w : Wait) → IsWaitBefore v w → v.held ≤ w.held
rises v w (inl lt) = omega arith
rises v w (inr at) = let e : v.held ≡ w.held = at.0 in omega arith

pub held_rises : (waits : List Wait) → AllPairs IsWaitBefore waits → (i j : ℕ) (v w : Wait) → i < j → IsAtPlace waits i v → IsAtPlace waits j w → v.held ≤ w.held
held_rises waits ordered i j v w lt at there = rises v w (ordered_at waits ordered i j v w lt at there)

-- a search by halves finds where a transaction's waits begin
still_lesser : (v w : Wait) (t : ℕ) → v.held ≤ w.held → nat_lt w.held t ≡ true → nat_lt v.held t ≡ true
still_lesser v w t up passes = grind (arith, nat_tests, up, passes)

pub partitioned : (waits : List Wait) (t : ℕ) → AllPairs IsWaitBefore waits → IsPartitionedBy (λ w. nat_lt w.held t) waits
partitioned waits t ordered i j d le lt passes = by (cases_order i j)
  where
    by : (i ≡ j) ⊎ ((i < j) ⊎ (j < i)) → nat_lt (get_or waits i d).held t ≡ true
    by (inl e) = ap (λ k. nat_lt (get_or waits k d).held t) e ∙ passes
    by (inr (inl before)) = still_lesser (get_or waits i d) (get_or waits j d) t (rises (get_or waits i d) (get_or waits j d) (ordered i j d before lt)) passes
    by (inr (inr after)) = absurd (omega arith)

pub begins : (waits : List Wait) (t place : ℕ) → place ≤ length waits → IsPartitionPoint (λ w. nat_lt w.held t ≡ true) (λ w. nat_lt w.held t ≡ false) waits place → BeginsAt waits t place
begins waits t place within point = record {
  within = within;
  behind = λ i w lt at. let here : nat_lt (get_or waits i w).held t ≡ true = point.0 i w (omega arith) lt in grind (arith, nat_tests, sym (ap (λ (x : Wait). x.held) at.1), here);
  ahead = λ i w le at. let here : nat_lt (get_or waits i w).held t ≡ false = point.1 i w le at.0 in grind (arith, nat_tests, sym (ap (λ (x : Wait). x.held) at.1), here);
}

-- where a transaction has no wait at a place, and none of a lesser one follows, it has none behind
pub none_behind : (waits : List Wait) → AllPairs IsWaitBefore waits → (t place : ℕ) → HasNoneAt waits t place → ((i : ℕ) (w : Wait) → place ≤ i → IsAtPlace waits i w → t ≤ w.held) →
    (i : ℕ) (w : Wait) → IsAtPlace waits i w → w.held ≡ t → i < place
none_behind waits ordered t place (inl past) ahead i w at own = let lt : i < length waits = at.0 in omega arith
none_behind waits ordered t place (inr other) ahead i w at own = by other.0 other.1 other.2 (cases_order i place)
  where
    by : (v : Wait) → IsAtPlace waits place v → v.held ≢ t → (i ≡ place) ⊎ ((i < place) ⊎ (place < i)) → i < place
    by v there apart (inl e) = absurd (apart (ap (λ (x : Wait). x.held) (same_at waits place v w there (subst (λ k. IsAtPlace waits k w) e at)) ∙ own))
    by v there apart (inr (inl lt)) = lt
    by v there apart (inr (inr after)) =
        let above : t ≤ v.held = ahead place v (omega arith) there in
        let up : v.held ≤ w.held = held_rises waits ordered place i v w after there at in
        absurd (apart (omega arith))
