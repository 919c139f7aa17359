-- Waits go up where each comes before all that follow.
use Rattle.std.proofs.Common.{◌≡◌, ℕ, zero, suc, ◌<◌, ◌⊎◌, inl, inr, true, ◌&&◌, ◌==◌, nat_lt, List, [], ◌∷◌, refl, arith}
use Rattle.std.specs.Prelude.{All, AllPairs}
use Rattle.std.proofs.lemmas.Bool.{and_parts, and_from, or_cases, or_left, or_right, eqb-true, eq-eqb}
use Rattle.std.proofs.lemmas.Bool.Decides.{nat_tests}
use Rattle.std.proofs.lemmas.List.Elements.{All-nil, All-cons, All-weaker}
use Rattle.co_wait.specs.declared.wait.Wait.{Wait}
use Rattle.co_wait.specs.Chains.{IsWaitBefore}
use Rattle.co_wait.specs.Testing.{is_wait_before, goes_up, ascends}

less_true : (a b : ℕ) → nat_lt a b ≡ true → a < b
less_true a b h = grind (arith, nat_tests, h)

true_less : (a b : ℕ) → a < b → nat_lt a b ≡ true
true_less a b h = grind (arith, nat_tests, h)

before_from : (w v : Wait) → is_wait_before w v ≡ true → IsWaitBefore w v
before_from w v h = by (or_cases (nat_lt w.held v.held) ((w.held == v.held) && nat_lt w.member v.member) h)
  where
    by : (nat_lt w.held v.held ≡ true) ⊎ (((w.held == v.held) && nat_lt w.member v.member) ≡ true) → IsWaitBefore w v
    by (inl e) = inl (less_true w.held v.held e)
    by (inr e) = let two = and_parts (w.held == v.held) (nat_lt w.member v.member) e in inr (eqb-true w.held v.held two.0, less_true w.member v.member two.1)

from_before : (w v : Wait) → IsWaitBefore w v → is_wait_before w v ≡ true
from_before w v (inl lt) = or_left _ _ (true_less w.held v.held lt)
from_before w v (inr at) = or_right _ _ (and_from _ _ (eq-eqb w.held v.held at.0) (true_less w.member v.member at.1))

before_both : (u v w : Wait) → IsWaitBefore u v → IsWaitBefore v w → IsWaitBefore u w
before_both u v w (inl a) (inl b) = inl (omega arith)
before_both u v w (inl a) (inr b) = inl (let e : v.held ≡ w.held = b.0 in omega arith)
before_both u v w (inr a) (inl b) = inl (let e : u.held ≡ v.held = a.0 in omega arith)
before_both u v w (inr a) (inr b) =
    let e : u.held ≡ v.held = a.0 in
    let f : v.held ≡ w.held = b.0 in
    let x : u.member < v.member = a.1 in
    let y : v.member < w.member = b.1 in
    inr (omega arith, omega arith)

pairs_cons : (w : Wait) (waits : List Wait) → All (IsWaitBefore w) waits → AllPairs IsWaitBefore waits → AllPairs IsWaitBefore (w ∷ waits)
pairs_cons w waits first rest zero zero d lt in_range = absurd (omega arith)
pairs_cons w waits first rest zero (suc j) d lt in_range = first j d (omega (arith, in_range))
pairs_cons w waits first rest (suc i) zero d lt in_range = absurd (omega arith)
pairs_cons w waits first rest (suc i) (suc j) d lt in_range = rest i j d (omega arith) (omega (arith, in_range))

up_from : (w : Wait) (waits : List Wait) → goes_up w waits ≡ true → All (IsWaitBefore w) waits × AllPairs IsWaitBefore (w ∷ waits)
up_from w [] h = (All-nil (IsWaitBefore w), pairs_cons w [] (All-nil (IsWaitBefore w)) (λ i j d lt in_range. absurd (let past : j < 0 = in_range in omega arith)))
up_from w (v ∷ waits) h =
    let two = and_parts (is_wait_before w v) (goes_up v waits) h in
    let rest = up_from v waits two.1 in
    let here = before_from w v two.0 in
    let all = All-cons (IsWaitBefore w) v waits here (All-weaker (IsWaitBefore v) (IsWaitBefore w) (λ x b. before_both w v x here b) waits rest.0) in
    (all, pairs_cons w (v ∷ waits) all rest.1)

pairs_from : (w : Wait) (waits : List Wait) → goes_up w waits ≡ true → AllPairs IsWaitBefore (w ∷ waits)
pairs_from w waits h = (up_from w waits h).1

from_pairs : (w : Wait) (waits : List Wait) → AllPairs IsWaitBefore (w ∷ waits) → goes_up w waits ≡ true
from_pairs w [] all = refl
from_pairs w (v ∷ waits) all =
    and_from (is_wait_before w v) (goes_up v waits) (from_before w v (all 0 1 w (omega arith) (omega arith)))
    (from_pairs v waits (λ i j d lt in_range. all (suc i) (suc j) d (omega arith) (omega (arith, in_range))))

pub pairs_from_test : (waits : List Wait) → ascends waits ≡ true → AllPairs IsWaitBefore waits
pairs_from_test [] h = λ i j d lt in_range. absurd (let past : j < 0 = in_range in omega arith)
pairs_from_test (w ∷ waits) h = pairs_from w waits h

pub test_from_pairs : (waits : List Wait) → AllPairs IsWaitBefore waits → ascends waits ≡ true
test_from_pairs [] all = refl
test_from_pairs (w ∷ waits) all = from_pairs w waits all
