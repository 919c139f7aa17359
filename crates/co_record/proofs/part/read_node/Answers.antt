use Rattle.std.proofs.Common.{refl}
use Rattle.co_record.proofs.Parts.{node_fails}
use Rattle.co_record.proofs.part.read_node.Goals as goal

pub returns-in-None : goal.returns-in-None
returns-in-None c = node_fails _ _ _ c.in_ok-byte.ensures (c.in-None.ensures.none.0 refl)
