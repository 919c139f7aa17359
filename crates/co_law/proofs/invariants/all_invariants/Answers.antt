use Rattle.co_law.proofs.EveryInvariant.{every_invariant}
use Rattle.co_law.proofs.invariants.all_invariants.Goals as goal

pub returns : goal.returns
returns c = every_invariant
