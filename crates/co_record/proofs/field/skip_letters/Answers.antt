use Rattle.std.proofs.lemmas.Result.{err_from_is_err_and}
use Rattle.co_record.proofs.Loop.{goes_on, ends, is_done}
use Rattle.co_record.specs.Reading.{past_letter}
use Rattle.co_record.proofs.field.skip_letters.Goals as goal

pub returns-in_err-rest : goal.returns-in_err-rest
returns-in_err-rest c =
    let p = err_from_is_err_and c.from_residual.result c.from_residual.ensures.1 in
    rw (p.1, p.2) (ends past_letter _ c.loop.counter c.loop.rest.now _ _ c.loop-test.true c.in_err-rest.ensures c.loop.invariant)

pub loop-preserved : goal.loop-preserved
loop-preserved c = goes_on past_letter _ c.loop.counter c.loop.rest.now _ _ c.loop-test.true c.in_ok-rest.ensures c.loop.invariant

pub returns : goal.returns
returns c = is_done past_letter _ c.loop.counter c.loop.rest.now _ c.loop-test.false c.loop.invariant
