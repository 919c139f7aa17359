use Rattle.co_trial.proofs.Starting.{none_run}
use Rattle.co_trial.proofs.running.trial_in.Goals as goal

pub run_events-requires-clause-stands : goal.run_events-requires-clause-stands
run_events-requires-clause-stands g c = let p = c.in_ok-world.ensures.opened in (p.0, p.1, none_run p.0 c.new-decisions.result c.new-decisions.ensures.count c.new-decisions.ensures.records, p.2)
