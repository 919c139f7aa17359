use Rattle.co_law_exact.proofs.Decided.{decided_exactly}
use Rattle.co_law_exact.proofs.events.decisions_are_exact_events.Goals as goal

pub returns : goal.returns
returns c = decided_exactly
