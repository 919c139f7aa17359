-- When a knot holds of waits.
use Rattle.std.specs.Prelude.{ℕ, ◌≡◌, ◌≢◌, ◌<◌, ◌↔◌, List, [], ◌∷◌, All, AllPairs, Any, Contains}
use Rattle.co_wait.specs.declared.knot.Rank.{Rank}
use Rattle.co_wait.specs.declared.knot.Knot.{Knot}
use Rattle.co_wait.specs.declared.knot.Knot.TheVariants.{Cycle, Order}
use Rattle.co_wait.specs.declared.wait.Wait.{Wait}
use Rattle.co_wait.specs.Chains.{IsInWaits}
use Rattle.co_wait.specs.Knots.{AreOfDistinct}

-- each one's `held` is the `by` of the one before it, from this transaction to that one
abbrev pub LeadOn : ℕ → List Wait → ℕ → Type 0
LeadOn t [] u = t ≡ u
LeadOn t (w ∷ legs) u = (t ≡ w.held) × LeadOn w.by legs u

-- there is a leg, each one's `by` is the next one's `held`, and the last one's is the first one's
abbrev pub GoRound : List Wait → Type 0
GoRound [] = ⊥
GoRound (w ∷ legs) = LeadOn w.by legs w.held

-- The legs are waits of distinct transactions that go round.
pub record CycleHolds (waits legs : List Wait) : Type 0 where
  pub own : All (Contains waits) legs
  pub distinct : AreOfDistinct legs
  pub round : GoRound legs

-- Each transaction of the waits stands there once, and no other; and each wait leads to one of a lesser rank.
pub record OrderHolds (waits : List Wait) (ranks : List Rank) : Type 0 where
  pub once : AllPairs (λ r s. r.txn ≢ s.txn) ranks
  pub whole : (t : ℕ) → IsInWaits waits t ↔ Any (λ r. r.txn ≡ t) ranks
  pub falls : (w : Wait) (r s : Rank) → Contains waits w → Contains ranks r → Contains ranks s → r.txn ≡ w.held → s.txn ≡ w.by → s.rank < r.rank

abbrev pub KnotHolds : List Wait → Knot → Type 0
KnotHolds waits (Cycle legs) = CycleHolds waits legs
KnotHolds waits (Order ranks) = OrderHolds waits ranks
