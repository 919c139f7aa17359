use Rattle.std.proofs.Common.{◌≡◌}
use Rattle.co_durable.specs.Nodes.{member_nodes}
use Rattle.co_durable.proofs.nodes.member_nodes.Given as goal

abbrev pub invariant-loop-place : goal.invariant-loop-place
invariant-loop-place l = l.nodes.items ≡ member_nodes l.place
