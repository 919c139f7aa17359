use Rattle.co_law.proofs.EveryInvariant.{step_invariants}
use Rattle.co_law.proofs.invariants.each_event_keeps_all.Goals as goal

pub returns : goal.returns
returns c = step_invariants
