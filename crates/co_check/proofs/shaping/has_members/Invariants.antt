use Rattle.std.proofs.Common.{◌≡◌}
use Rattle.co_check.specs.Shape.{has_members}
use Rattle.co_check.proofs.shaping.has_members.Given as goal

abbrev pub invariant-loop-left : goal.invariant-loop-left
invariant-loop-left l = has_members l.seen l.left ≡ has_members l.fn.seen l.fn.count

abbrev pub decreases-loop-left : goal.decreases-loop-left
decreases-loop-left l = l.left
