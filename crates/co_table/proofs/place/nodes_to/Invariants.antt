use Rattle.std.proofs.Common.{◌≡◌, ◌++◌}
use Rattle.co_table.specs.Place.{coords_to, members_to}
use Rattle.co_table.proofs.place.nodes_to.Given as goal

abbrev pub invariant-loop-number : goal.invariant-loop-number
invariant-loop-number l = l.nodes.items ≡ coords_to l.number

abbrev pub invariant-loop-number-2 : goal.invariant-loop-number-2
invariant-loop-number-2 l = l.nodes.items ≡ coords_to l.coords ++ members_to l.number
