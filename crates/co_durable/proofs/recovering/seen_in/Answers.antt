use Rattle.std.proofs.Common.{ap, ◌∙◌, sym, subst}
use Rattle.co_plain.specs.MemberView.{numbers_from}
use Rattle.co_recover.specs.declared.past.CoordPast.{CoordPast}
use Rattle.co_durable.specs.declared.fault.WorldFault.{WorldFault}
use Rattle.co_durable.specs.Recovering.{coord_refuses, LogFalls}
use Rattle.co_durable.proofs.Recoveries.{coord_falls}
use Rattle.co_durable.proofs.Rows.{numbers_again}
use Rattle.co_durable.proofs.recovering.seen_in.Goals as goal

pub returns-in_ok-numbers_from-in-Ok-clause-seen : goal.returns-in_ok-numbers_from-in-Ok-clause-seen
returns-in_ok-numbers_from-in-Ok-clause-seen c = λ items has.
    let told = c.in-Ok.ensures items (c.views.ensures items has) in
    record {
      allowed = told.0;
      are = c.in_ok-numbers_from-in-Ok.ensures ∙ ap numbers_from (c.as_slice.ensures.value ∙ ap (λ (past : CoordPast). past.seen) told.1) ∙ numbers_again _;
    }

pub returns-in-Err-clause-refused : goal.returns-in-Err-clause-refused
returns-in-Err-clause-refused c =
    subst (λ (fault : WorldFault). LogFalls (coord_refuses c.args.members) fault c.args.log.now) (sym c.fallen.ensures)
    (coord_falls c.args.members c.args.log.now c.in-Err.fault (λ items has. c.in-Err.ensures items (c.views.ensures items has)))
