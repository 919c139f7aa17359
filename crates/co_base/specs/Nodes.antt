-- The nodes of a federation and the bytes that stand for them in logs.
use Rattle.std.specs.Prelude.{ℕ, Bool, false, ◌≤◌, ◌+◌, ◌==◌}
use Rattle.co_base.specs.declared.node.Node.{Node}
use Rattle.co_base.specs.declared.node.Node.TheVariants.{Member, Coord}
use Rattle.co_base.specs.Limits.{most_coordinators, most_members}

-- members are numbered 1 to 16, coordinators 1 to 8
abbrev pub IsValidNode : Node → Type 0
IsValidNode (Member number) = (1 ≤ number) × (number ≤ most_members)
IsValidNode (Coord number) = (1 ≤ number) × (number ≤ most_coordinators)

-- a member's byte is its number, a coordinator's is 128 and its number
abbrev pub node_byte : Node → ℕ
node_byte (Member number) = number
node_byte (Coord number) = 128 + number

-- whether two nodes are the same one
abbrev pub same_node : Node → Node → Bool
same_node (Member m) (Member n) = m == n
same_node (Member m) (Coord n) = false
same_node (Coord m) (Member n) = false
same_node (Coord m) (Coord n) = m == n
