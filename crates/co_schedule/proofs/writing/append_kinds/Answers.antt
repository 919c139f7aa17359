use Rattle.std.proofs.lemmas.Result.{err_from_is_err_and}
use Rattle.co_schedule.proofs.Begun.{begins_again}
use Rattle.co_schedule.proofs.writing.append_kinds.Goals as goal

pub returns-in_err-append_word-clause-err : goal.returns-in_err-append_word-clause-err
returns-in_err-append_word-clause-err c =
    let p = err_from_is_err_and c.from_residual.result c.from_residual.ensures.1 in
    rw p.1 (begins_again _ _ _ c.loop-kind.invariant.begins c.in_err-append_word.ensures.err)
