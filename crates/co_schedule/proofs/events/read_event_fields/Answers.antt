use Rattle.co_schedule.proofs.EventLaws.{event_made}
use Rattle.co_schedule.proofs.Views.{IsLent-view}
use Rattle.co_schedule.proofs.events.read_event_fields.Goals as goal

pub event-requires : goal.event-requires
event-requires c = IsLent-view _ _ _ c.in-Ok.ensures.found.0

pub returns-in_ok-event-in-Ok-clause-found : goal.returns-in_ok-event-in-Ok-clause-found
returns-in_ok-event-in-Ok-clause-found c = event_made _ _ c.in-Ok.view _ _ c.in-Ok.ensures.found.0 c.in-Ok.ensures.found.1 c.in_ok-event-in-Ok.ensures
