use Rattle.std.proofs.Common.{true, false, ap, ◌∙◌}
use Rattle.co_top.specs.Command.{asked_by}
use Rattle.co_two_runs.proofs.Twice.{twice}
use Rattle.co_two_runs.proofs.runs.run_twice.Goals as goal

pub returns : goal.returns
returns c =
    twice c.args.first.items c.args.second.items c.args.home.now c.run_over-first.new.home c.run_over-second.new.home _
    (c.run_over-first.ensures false (ap asked_by c.deref.ensures.value ∙ c.in_ok-afresh.ensures))
    (c.run_over-second.ensures true (ap asked_by c.deref-2.ensures.value ∙ c.in_ok-resumed.ensures))
