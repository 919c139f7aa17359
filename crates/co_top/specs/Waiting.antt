-- The held votes at the end of a schedule, and what is written of them.
use Rattle.std.specs.Prelude.{ℕ, ◌≡◌, ◌↔◌, List, [], All, AllPairs, Contains}
use Rattle.co_base.specs.declared.node.Node.TheVariants as node
use Rattle.co_cluster.specs.Listed.{IsWait}
use Rattle.co_law_runs.specs.OnlyTimers.{EndsForGood}
use Rattle.co_plain.specs.Federation.{Federation}
use Rattle.co_wait.specs.Chains.{IsWaitBefore}
use Rattle.co_wait.specs.Holding.{GoRound, KnotHolds}
use Rattle.co_wait.specs.Knots.{IsKnot}
use Rattle.co_wait.specs.Text.{waits_text}
use Rattle.co_wait.specs.declared.knot.Knot.{Knot}
use Rattle.co_wait.specs.declared.knot.Knot.TheVariants.{Cycle, Order}
use Rattle.co_wait.specs.declared.wait.Wait.{Wait}
use Rattle.co_top.specs.Following.{RanFresh, FollowsAs}
use Rattle.co_top.specs.Ran.{end_of}
use Rattle.co_top.specs.Views.{SourceView, SinkView}
use Rattle.co_top.specs.declared.status.Status.{Status}

-- What the knot of held votes tells of a federation. With an order no list of waits goes round: no votes hold one another. With a cycle the timer of each leg's transaction ends it at its
-- member, for good. It speaks of the transaction that a vote is held for, the least one in its way, and of no other.
abbrev pub KnotTells : Federation → List Wait → Knot → Type 0
KnotTells s waits (Order ranks) = (legs : List Wait) → All (Contains waits) legs → GoRound legs → ⊥
KnotTells s waits (Cycle legs) = All (λ w. EndsForGood s w.held (node.Member w.member)) legs

-- These are the held votes of a federation in their order, and their knot.
pub record IsKnotOf (s : Federation) (waits : List Wait) (knot : Knot) : Type 0 where
  pub ascending : AllPairs IsWaitBefore waits
  pub listed : (w : Wait) → Contains waits w ↔ IsWait s w
  pub one : IsKnot waits knot
  pub holds : KnotHolds waits knot
  pub tells : KnotTells s waits knot

-- Every line of the input was done over fresh logs, and these are the held votes of what they left, and their knot.
pub record HasWaits (input : List ℕ) : Type 0 where
  pub fresh : RanFresh input
  pub whole : fresh.ran.rest ≡ []
  pub waits : List Wait
  pub knot : Knot
  pub is : IsKnotOf (end_of fresh.ran) waits knot

-- what is written of them
abbrev pub text_of_waits : (input : List ℕ) → HasWaits input → List ℕ
text_of_waits input h = waits_text h.waits h.knot

-- the command `waits`
abbrev pub WaitsAs : SourceView → SourceView → SinkView → SinkView → Status → Type 0
WaitsAs = FollowsAs HasWaits text_of_waits
