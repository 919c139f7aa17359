use Rattle.std.proofs.Common.{sym, subst}
use Rattle.co_durable.specs.declared.fault.WorldFault.{WorldFault}
use Rattle.co_durable.specs.Recovering.{coord_refuses, LogFalls}
use Rattle.co_durable.proofs.Recoveries.{coord_falls}
use Rattle.co_opening.proofs.judging.coord_past.Goals as goal

pub returns-in-Err-clause-refused : goal.returns-in-Err-clause-refused
returns-in-Err-clause-refused c =
    subst (λ (fault : WorldFault). LogFalls (coord_refuses c.args.members) fault c.args.log.now) (sym c.fallen.ensures)
    (coord_falls c.args.members c.args.log.now c.in-Err.fault (λ items has. c.in-Err.ensures items (c.views.ensures items has)))
