use Rattle.co_schedule.proofs.EventLaws.{event_found, lent_found}
use Rattle.co_schedule.proofs.reading.event_in.Goals as goal

pub returns-clause-found : goal.returns-clause-found
returns-clause-found c = event_found _ _ c.read_event.result _ _ c.of-words.ensures c.read_event.ensures.found

pub returns-clause-lent : goal.returns-clause-lent
returns-clause-lent c = lent_found _ _ c.read_event.result _ c.read_event.ensures.found
