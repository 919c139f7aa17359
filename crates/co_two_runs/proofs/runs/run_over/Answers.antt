use Rattle.std.proofs.Common.{[], Some, codes, ap}
use Rattle.co_two_runs.proofs.Twice.{done_run, ended_run}
use Rattle.co_two_runs.proofs.runs.run_over.Goals as goal

pub returns : goal.returns
returns c = λ resume asked.
    let left = ap Some c.new-source.ensures.left in
    let held = ap Some c.new-out.ensures.held in
    let runs = c.run.ensures.run (codes "logs") resume asked in
    ended_run resume c.args.schedule.items _ _ _ _ _ _ c.args.home.now c.run.new.home c.run.result left c.new-source.ensures.faults held c.new-out.ensures.faults runs
    (λ is.
    done_run resume c.args.schedule.items [] _ _ c.args.home.now c.run.new.home c.run.result is (runs.end c.args.schedule.items [] left held)
    (c.run.ensures.headline (codes "logs") c.args.schedule.items [] resume asked left held is))
