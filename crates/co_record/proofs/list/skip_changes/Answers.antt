use Rattle.std.proofs.lemmas.Result.{err_from_is_err_and}
use Rattle.co_record.specs.Reading.{next_at, change_at, change_cmp}
use Rattle.co_record.proofs.Loop.{goes_on, items_fail, items_done}
use Rattle.co_record.proofs.list.skip_changes.Goals as goal

pub returns-in_err-item : goal.returns-in_err-item
returns-in_err-item c =
    let p = err_from_is_err_and c.from_residual.result c.from_residual.ensures.1 in
    rw (p.1, p.2) (items_fail (change_at c.args.version) change_cmp _ c.loop.counter _ _ _ _ c.loop-test.true c.in_err-item.ensures c.loop.invariant)

pub loop-preserved : goal.loop-preserved
loop-preserved c = goes_on (next_at (change_at c.args.version) change_cmp) _ c.loop.counter _ _ _ c.loop-test.true c.in_ok-item.ensures c.loop.invariant

pub returns : goal.returns
returns c = items_done (change_at c.args.version) change_cmp _ c.loop.counter _ _ _ c.loop-test.false c.loop.invariant
