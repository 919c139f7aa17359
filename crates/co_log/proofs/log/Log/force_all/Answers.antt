use Rattle.std.proofs.Common.{◌++◌, List, sym, subst}
use Rattle.std.specs.Prelude.{Result}
use Rattle.co_base.specs.declared.mark.Mark.{Mark}
use Rattle.co_log.specs.Appending.{IsTooLong}
use Rattle.co_log.specs.Calls.{HasForced}
use Rattle.co_log.specs.declared.fault.LogFault.{LogFault}
use Rattle.co_log.proofs.Bounds.{held_within}
use Rattle.co_log.proofs.Currents.{err_is}
use Rattle.co_log.proofs.Spelled.{fits, forced_fits, unspelled_forced}
use Rattle.co_log.proofs.log.Log.force_all.Goals as goal

pub returns-in_err-batch-clause-called : goal.returns-in_err-batch-clause-called
returns-in_err-batch-clause-called g c =
    let log = c.args.self.now in
    let home = g.H.Home.seen c.args.home.now in
    let more = c.args.lent.now ++ c.args.back.now in
    let e = c.in_err-batch.field-0.0 in
    let within = held_within home log c.requires.ready.held c.lengths.ensures.within.0 c.lengths.ensures.within.1 in
    subst (λ (r : Result (List Mark) LogFault). HasForced (IsTooLong log.gate (log.waiting ++ more)) log log more home home r) (sym (err_is c.from_residual.result e c.from_residual.ensures.1))
    (unspelled_forced log more home c.requires.ready e c.in_err-batch.ensures within)

pub returns-clause-called : goal.returns-clause-called
returns-clause-called g c =
    let log = c.args.self.now in
    let more = c.args.lent.now ++ c.args.back.now in
    let made = c.in_ok-batch.ensures in
    forced_fits (IsTooLong log.gate (log.waiting ++ more)) log c.force_batch.new.self more (g.H.Home.seen c.args.home.now) (g.H.Home.seen c.force_batch.new.home) c.force_batch.result (fits log more c.in_ok-batch.batch made) (c.force_batch.ensures more made)
