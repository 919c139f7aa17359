use Rattle.std.proofs.Common.{map}
use Rattle.co_order_check.specs.Facts.{AreShut}
use Rattle.co_order_check.specs.Ranks.{Ranks}
use Rattle.co_order_check.proofs.refutation.steps_hold.Given as goal

abbrev pub invariant-loop-step : goal.invariant-loop-step
invariant-loop-step l = AreShut l.history (map (λ v. v.items) l.open.items) → Ranks l.history → ⊥
