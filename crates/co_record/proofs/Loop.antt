-- The same step again and again, as a loop does it.
use Rattle.std.proofs.Common.{◌≡◌, ℕ, suc, ◌-◌, ◌+◌, ◌≤◌, ◌<◌, Result, Ok, Err, sym, ap, ◌∙◌, arith}
use Rattle.co_record.specs.declared.miss.Miss.{Miss}
use Rattle.std.specs.Prelude.{Option, None, List}
use Rattle.std.specs.declared.cmp.Ordering.{Ordering}
use Rattle.co_record.specs.Reading.{◌>>=◌, Reader, steps, next_at, items_end}

pub goes_on : {X : Type 0} (step : X → Result X Miss) (count i : ℕ) (x y : X) (total : Result X Miss) → i < count → step x ≡ Ok y
    → steps step (count - i) x ≡ total → steps step (count - (i + 1)) y ≡ total
unfolding steps
goes_on step count i x y total lt h so_far =
    let k : count - i ≡ suc (count - (i + 1)) = omega arith in
    let one : steps step (count - i) x ≡ steps step (count - (i + 1)) y = ap (λ n. steps step n x) k ∙ ap (λ r. r >>= steps step (count - (i + 1))) h in
    sym one ∙ so_far

pub ends : {X : Type 0} (step : X → Result X Miss) (count i : ℕ) (x : X) (e : Miss) (total : Result X Miss) → i < count → step x ≡ Err e
    → steps step (count - i) x ≡ total → total ≡ Err e
unfolding steps
ends step count i x e total lt h so_far =
    let k : count - i ≡ suc (count - (i + 1)) = omega arith in
    let one : steps step (count - i) x ≡ Err e = ap (λ n. steps step n x) k ∙ ap (λ r. r >>= steps step (count - (i + 1))) h in
    sym so_far ∙ one

pub is_done : {X : Type 0} (step : X → Result X Miss) (count i : ℕ) (x : X) (total : Result X Miss) → count ≤ i → steps step (count - i) x ≡ total → total ≡ Ok x
unfolding steps
is_done step count i x total le so_far =
    let k : count - i ≡ 0 = omega arith in
    sym so_far ∙ ap (λ n. steps step n x) k

-- a list of elements that ends early, and one that is done
pub items_fail : {A : Type 0} (read : Reader A) (cmp : A → A → Ordering) (count i : ℕ) (before : Option A) (rest bytes : List ℕ) (e : Miss) → i < count → next_at read cmp (before, rest) ≡ Err e
    → steps (next_at read cmp) (count - i) (before, rest) ≡ steps (next_at read cmp) count (None, bytes) → items_end read cmp count bytes ≡ Err e
items_fail read cmp count i before rest bytes e lt h so_far =
    ap (λ r. r >>= λ x. Ok x.1) (ends (next_at read cmp) count i (before, rest) e _ lt h so_far)

pub items_done : {A : Type 0} (read : Reader A) (cmp : A → A → Ordering) (count i : ℕ) (before : Option A) (rest bytes : List ℕ) → count ≤ i
    → steps (next_at read cmp) (count - i) (before, rest) ≡ steps (next_at read cmp) count (None, bytes) → items_end read cmp count bytes ≡ Ok rest
items_done read cmp count i before rest bytes le so_far =
    ap (λ r. r >>= λ x. Ok x.1) (is_done (next_at read cmp) count i (before, rest) _ le so_far)
