use Rattle.co_law.proofs.EveryInvariant.{start_invariants}
use Rattle.co_law.proofs.invariants.opened_logs_have_all.Goals as goal

pub returns : goal.returns
returns c = start_invariants
