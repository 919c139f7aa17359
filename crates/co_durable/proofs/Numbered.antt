-- The nodes of a federation are valid, and so many.
use Rattle.std.proofs.Common.{◌≡◌, ℕ, zero, suc, ◌+◌, ◌-◌, ◌≤◌, ◌<◌, List, [], ◌∷◌, ◌++◌, length, get_or, refl, sym, ap, ◌∙◌, arith}
use Rattle.std.specs.List.{AllByRecursion}
use Rattle.std.proofs.lemmas.List.{length_push}
use Rattle.co_base.specs.Nodes.{IsValidNode}
use Rattle.co_base.specs.Limits.{most_coordinators, most_members}
use Rattle.co_durable.specs.Nodes.{numbered, member_nodes, coord_nodes}
use Rattle.co_durable.proofs.Pairs.{all_append}

pub members_valid : (count : ℕ) → count ≤ most_members → AllByRecursion IsValidNode (member_nodes count)
members_valid zero h = tt
members_valid (suc count) h = all_append IsValidNode (member_nodes count) _ (members_valid count (omega (arith, h))) ((omega arith, h), tt)

pub coords_valid : (count : ℕ) → count ≤ most_coordinators → AllByRecursion IsValidNode (coord_nodes count)
coords_valid zero h = tt
coords_valid (suc count) h = all_append IsValidNode (coord_nodes count) _ (coords_valid count (omega (arith, h))) ((omega arith, h), tt)

pub so_many : {A : Type 0} (one : ℕ → A) (count : ℕ) → length (numbered one count) ≡ count
so_many one zero = refl
so_many one (suc count) = length_push (numbered one count) (one (suc count)) ∙ (let e : length (numbered one count) + 1 ≡ suc count = omega (arith, so_many one count) in e)

-- so many of a sort behind a number, from the front
abbrev pub front : {A : Type 0} → (ℕ → A) → ℕ → ℕ → List A
front one p zero = []
front one p (suc k) = one (suc p) ∷ front one (suc p) k

front_push : {A : Type 0} (one : ℕ → A) (p k : ℕ) → front one p (suc k) ≡ front one p k ++ one (suc (p + k)) ∷ []
front_push one p zero = ap (λ n. one (suc n) ∷ []) (let e : p ≡ p + 0 = omega arith in e)
front_push {A} one p (suc k) =
    ap (λ (t : List A). one (suc p) ∷ t) (front_push one (suc p) k) ∙ ap (λ n. one (suc p) ∷ (front one (suc p) k ++ one (suc n) ∷ [])) (let e : suc p + k ≡ p + suc k = omega arith in e)

pub numbered_front : {A : Type 0} (one : ℕ → A) (count : ℕ) → numbered one count ≡ front one 0 count
numbered_front one zero = refl
numbered_front {A} one (suc count) =
    ap (λ (t : List A). t ++ one (suc count) ∷ []) (numbered_front one count) ∙ ap (λ n. front one 0 count ++ one (suc n) ∷ []) (let e : count ≡ 0 + count = omega arith in e) ∙ sym (front_push one 0 count)

front_at : {A : Type 0} (one : ℕ → A) (d : A) (p k i : ℕ) → i < k → get_or (front one p k) i d ≡ one (suc (p + i))
front_at one d p zero i h = absurd (omega (arith, h))
front_at one d p (suc k) zero h = ap (λ n. one (suc n)) (let e : p ≡ p + 0 = omega arith in e)
front_at one d p (suc k) (suc i) h = front_at one d (suc p) k i (omega (arith, h)) ∙ ap one (let e : suc (suc p + i) ≡ suc (p + suc i) = omega arith in e)

-- the one of a number
pub numbered_at : {A : Type 0} (one : ℕ → A) (d : A) (count n : ℕ) → 1 ≤ n → n ≤ count → get_or (numbered one count) (n - 1) d ≡ one n
numbered_at {A} one d count n from to =
    ap (λ (t : List A). get_or t (n - 1) d) (numbered_front one count) ∙ front_at one d 0 count (n - 1) (omega (arith, from, to)) ∙ ap one (let e : suc (0 + (n - 1)) ≡ n = omega (arith, from) in e)
