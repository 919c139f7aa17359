use Rattle.std.proofs.Common.{sym, subst}
use Rattle.co_durable.specs.declared.fault.WorldFault.{WorldFault}
use Rattle.co_durable.specs.Recovering.{member_refuses, LogFalls}
use Rattle.co_durable.proofs.Recoveries.{member_falls}
use Rattle.co_opening.proofs.judging.member_past.Goals as goal

pub returns-in-Err-clause-refused : goal.returns-in-Err-clause-refused
returns-in-Err-clause-refused c =
    subst (λ (fault : WorldFault). LogFalls (member_refuses c.args.coords) fault c.args.log.now) (sym c.fallen.ensures)
    (member_falls c.args.coords c.args.log.now c.in-Err.fault (λ items has. c.in-Err.ensures items (c.views.ensures items has)))
