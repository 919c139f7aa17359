use Rattle.co_law_exact.proofs.VoteEvents.{yes_events}
use Rattle.co_law_exact.proofs.events.yes_votes_are_exact_events.Goals as goal

pub returns : goal.returns
returns c = yes_events
