-- Nodes by their numbers, and lists that go with them.
use Rattle.std.proofs.Common.{◌≡◌, ◌==◌, Bool, true, false, ℕ, zero, suc, ◌<◌, List, [], ◌∷◌, ◌++◌, refl, sym, ap, subst, ◌∙◌, append_assoc, arith}
use Rattle.std.proofs.lemmas.Bool.{eqb-true, eqb-false}
use Rattle.std.specs.List.{AllByRecursion}
use Rattle.co_base.specs.declared.node.Node.{Node}
use Rattle.co_durable.specs.Nodes.{numbered}
use Rattle.co_durable.specs.Pairs.{EachPair, FirstWhere}
use Rattle.co_durable.proofs.Numbered.{front, numbered_front}
use Rattle.co_opening.specs.From.{AllFrom}

-- behind so many nodes stands the next one, and then others
record Behind (node : ℕ → Node) (place count : ℕ) : Type 0 where
  pub more : List Node
  pub split : numbered node count ≡ numbered node place ++ node (suc place) ∷ more

behind : (node : ℕ → Node) (place count : ℕ) → place < count → Behind node place count
behind node place zero h = absurd (omega (arith, h))
behind node place (suc count) h = by (behind node place count) (place == count) refl
  where
    by : (place < count → Behind node place count) → (b : Bool) → (place == count) ≡ b → Behind node place (suc count)
    by before true e = record { more = []; split = ap (λ n. numbered node n ++ node (suc n) ∷ []) (sym (eqb-true place count e)) }
    by before false e =
        let other : place ≡ count → ⊥ = eqb-false place count e in
        let b = before (omega (arith, h, other)) in
        record {
          more = b.more ++ node (suc count) ∷ [];
          split = ap (λ (t : List Node). t ++ node (suc count) ∷ []) b.split ∙ append_assoc (numbered node place) (node (suc place) ∷ b.more) (node (suc count) ∷ []);
        }

-- the node behind so many good ones is the first bad one
pub first_numbered : (IsGood IsBad : Node → Type 0) (node : ℕ → Node) (place count : ℕ) → place < count → AllByRecursion IsGood (numbered node place) → IsBad (node (suc place)) → FirstWhere IsGood IsBad (numbered node count)
first_numbered IsGood IsBad node place count h good bad =
    let b = behind node place count h in
    record { before = numbered node place; first = node (suc place); behind = b.more; split = b.split; good = good; bad = bad }

from_front : {B : Type 0} (R : Node → B → Type 0) (node : ℕ → Node) (p k : ℕ) (ys : List B) → EachPair R (front node p k) ys → AllFrom (λ q y. R (node (suc q)) y) p ys
from_front R node p zero [] pairs = tt
from_front R node p zero (y ∷ ys) pairs = absurd pairs
from_front R node p (suc k) [] pairs = tt
from_front R node p (suc k) (y ∷ ys) pairs = (pairs.0, from_front R node (suc p) k ys pairs.1)

-- what goes with the nodes goes with their numbers
pub by_number : {B : Type 0} (R : Node → B → Type 0) (node : ℕ → Node) (count : ℕ) (ys : List B) → EachPair R (numbered node count) ys → AllFrom (λ q y. R (node (suc q)) y) 0 ys
by_number R node count ys pairs = from_front R node 0 count ys (subst (λ (l : List Node). EachPair R l ys) (numbered_front node count) pairs)
