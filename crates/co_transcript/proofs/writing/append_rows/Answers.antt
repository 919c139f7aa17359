use Rattle.std.proofs.lemmas.Result.{err_from_is_err_and}
use Rattle.co_schedule.proofs.Begun.{begins_again}
use Rattle.co_transcript.proofs.writing.append_rows.Goals as goal

pub returns-in_err-append_word-clause-err : goal.returns-in_err-append_word-clause-err
returns-in_err-append_word-clause-err c =
    let p = err_from_is_err_and c.from_residual.result c.from_residual.ensures.1 in
    rw p.1 (begins_again _ _ _ c.loop-row.invariant.begins c.in_err-append_word.ensures.err)

pub returns-in_err-append_word-2-clause-err : goal.returns-in_err-append_word-2-clause-err
returns-in_err-append_word-2-clause-err c =
    let p = err_from_is_err_and c.from_residual-in_err-append_word-2.result c.from_residual-in_err-append_word-2.ensures.1 in
    let first = begins_again _ _ _ c.loop-row.invariant.begins (_, c.in_ok-append_word.ensures.ok) in
    rw p.1 (begins_again _ _ _ first c.in_err-append_word-2.ensures.err)
