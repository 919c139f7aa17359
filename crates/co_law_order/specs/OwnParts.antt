-- What one member has of a trace.
use Rattle.std.specs.Prelude.{◌||◌, ◌==◌, List, [], ◌∷◌, if◌then◌else◌}
use Rattle.co_base.specs.declared.node.Node.{Node}
use Rattle.co_base.specs.declared.node.Node.TheVariants as node
use Rattle.co_base.specs.Nodes.{same_node}
use Rattle.co_state.specs.Table.{Table, no_entries, look, put}
use Rattle.co_plain.specs.Numbers.{MemberNumber}
use Rattle.co_plain.specs.CommitmentOrder.{Trace, Began, Operated, Committed, decides_at}

-- The begins, the member's own operations and commit records, and those commit records elsewhere that decide. The table has who was
-- begun where so far.
abbrev pub own_part_from : Table Node → MemberNumber → List Trace → List Trace
own_part_from homes m [] = []
own_part_from homes m (Began t by ∷ rest) = Began t by ∷ own_part_from (put homes t by) m rest
own_part_from homes m (Operated t n o reply ∷ rest) =
    if n == m then Operated t n o reply ∷ own_part_from homes m rest else own_part_from homes m rest
own_part_from homes m (Committed at t ∷ rest) =
    if same_node at (node.Member m) || decides_at (look homes t) at then Committed at t ∷ own_part_from homes m rest
    else own_part_from homes m rest

abbrev pub own_part : MemberNumber → List Trace → List Trace
own_part m trace = own_part_from no_entries m trace
