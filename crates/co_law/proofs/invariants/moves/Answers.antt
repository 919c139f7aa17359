use Rattle.co_law.proofs.EveryInvariant.{moves_invariants}
use Rattle.co_law.proofs.invariants.moves.Goals as goal

pub returns : goal.returns
returns c = moves_invariants
