use Rattle.co_law.proofs.EveryInvariant.{each_by_itself}
use Rattle.co_law.proofs.invariants.all_have_what_each_keeps.Goals as goal

pub returns : goal.returns
returns c = each_by_itself
