use Rattle.std.proofs.Common.{sym, subst}
use Rattle.co_base.specs.Limits.{most_coordinators, most_members}
use Rattle.co_durable.specs.Durable.{IsDurable}
use Rattle.co_top.specs.Records.{HasCause, HoldsRecords}
use Rattle.co_top.proofs.Recording.{put_cause, put_holds, refusal_cause, refusal_holds}
use Rattle.co_top.proofs.records.records.Goals as goal

pub returns-in-Ok-clause-cause : goal.returns-in-Ok-clause-cause
returns-in-Ok-clause-cause g c =
    let file = (g.H.Home.seen c.args.home.now).file in
    subst (HasCause file) (sym c.status_of_put.ensures) (put_cause file c.put_records-put.result (_, c.in-Ok.ensures.durable))

pub returns-in-Ok-clause-durable : goal.returns-in-Ok-clause-durable
returns-in-Ok-clause-durable g c = λ held is.
    let file = (g.H.Home.seen c.args.home.now).file in
    subst (HoldsRecords file held (g.K.Sink.told c.put_records-put.new.out)) (sym c.status_of_put.ensures)
    (put_holds file held _ c.as_slice.result.now c.put_records-put.result (subst (IsDurable file most_members most_coordinators) (sym c.as_slice.ensures) c.in-Ok.ensures.durable)
    (c.put_records-put.ensures.put held is) (c.put_records-put.ensures.front held is))

pub returns-in-Err-clause-cause : goal.returns-in-Err-clause-cause
returns-in-Err-clause-cause g c =
    let file = (g.H.Home.seen c.args.home.now).file in
    subst (HasCause file) (sym c.of_world.ensures) (refusal_cause file c.in-Err.fault c.in-Err.ensures.refused)

pub returns-in-Err-clause-durable : goal.returns-in-Err-clause-durable
returns-in-Err-clause-durable g c = λ held is.
    let file = (g.H.Home.seen c.args.home.now).file in
    subst (HoldsRecords file held (g.K.Sink.told c.args.out.now)) (sym c.of_world.ensures) (refusal_holds file held _ c.in-Err.fault c.in-Err.ensures.refused is)
