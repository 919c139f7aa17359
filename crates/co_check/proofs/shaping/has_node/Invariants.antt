use Rattle.std.proofs.Common.{◌≡◌, drop}
use Rattle.co_check.specs.Shape.{has_node}
use Rattle.co_check.proofs.shaping.has_node.Given as goal

abbrev pub invariant-loop-other : goal.invariant-loop-other
invariant-loop-other l = has_node (drop l.other-index l.seen) l.node ≡ has_node l.fn.seen l.fn.node
