use Rattle.co_law_exact.proofs.VoteEvents.{no_events}
use Rattle.co_law_exact.proofs.events.no_votes_are_exact_events.Goals as goal

pub returns : goal.returns
returns c = no_events
