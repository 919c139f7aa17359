use Rattle.co_law.proofs.WholeInvariants.{every_whole}
use Rattle.co_law.proofs.opening.whole_invariants.Goals as goal

pub returns : goal.returns
returns c = every_whole
