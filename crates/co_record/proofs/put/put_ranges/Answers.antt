use Rattle.std.proofs.lemmas.Result.{err_from_is_err_and}
use Rattle.co_record.proofs.Elements.{begins_more}
use Rattle.co_record.proofs.put.put_ranges.Goals as goal

pub returns-in_err-put_range-clause-err : goal.returns-in_err-put_range-clause-err
returns-in_err-put_range-clause-err c =
    let p = err_from_is_err_and c.from_residual.result c.from_residual.ensures.1 in
    rw p.1 (begins_more _ _ _ _ c.loop-item.invariant.text c.in_err-put_range.ensures.err)
