-- The two sorts of nodes.
use Rattle.std.specs.Prelude.{ℕ, List}
use Rattle.co_base.specs.Limits.{most_coordinators, most_members}
use Rattle.co_base.specs.declared.node.Node.{Node}
use Rattle.co_base.specs.declared.node.Node.TheVariants as node
use Rattle.co_durable.specs.Nodes.{numbered}
use Rattle.co_opening.specs.declared.sort.Sort.{Sort}
use Rattle.co_opening.specs.declared.sort.Sort.TheVariants.{Members, Coords}

abbrev pub node_in : Sort → ℕ → Node
node_in Members number = node.Member number
node_in Coords number = node.Coord number

-- there are at most so many of a sort
abbrev pub most_in : Sort → ℕ
most_in Members = most_members
most_in Coords = most_coordinators

abbrev pub nodes_in : Sort → ℕ → List Node
nodes_in sort count = numbered (node_in sort) count
