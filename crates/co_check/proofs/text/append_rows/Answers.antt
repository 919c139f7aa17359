use Rattle.std.proofs.lemmas.Result.{err_from_is_err_and}
use Rattle.co_schedule.proofs.Begun.{begins_again}
use Rattle.co_check.proofs.text.append_rows.Goals as goal

pub returns-in_err-append_record-clause-err : goal.returns-in_err-append_record-clause-err
returns-in_err-append_record-clause-err c =
    let p = err_from_is_err_and c.from_residual.result c.from_residual.ensures.1 in
    rw p.1 (begins_again _ _ _ (_, c.loop-row.invariant) c.in_err-append_record.ensures.err)
