use Rattle.std.proofs.Common.{◌-◌, length, arith}
use Rattle.std.proofs.lemmas.Result.{err_from_is_err_and}
use Rattle.co_base.proofs.Ordered.{sorted_none}
use Rattle.co_transcript.specs.Grammar.{rows_places}
use Rattle.co_transcript.proofs.FirstFault.{rows_begin, rows_step, rows_fault}
use Rattle.co_transcript.proofs.reading.read_rows.Goals as goal

pub loop-before-init : goal.loop-before-init
loop-before-init c = rw c.new-rows.ensures (rows_begin _ _ (sorted_none _))

pub loop-before-preserved : goal.loop-before-preserved
loop-before-preserved c =
    let now = c.in_ok-name.ensures in
    rows_step _ _ _ _ _ c.add_row.new.rows _ _ c.loop-before.invariant (omega arith) now.found now.last now.counted now.texts now.order (now.taken (rows_places (c.args.count - length c.add_row.new.rows)))

pub returns-in_err-name-clause-fault : goal.returns-in_err-name-clause-fault
returns-in_err-name-clause-fault c =
    let given = err_from_is_err_and c.from_residual.result c.from_residual.ensures.1 in
    rw (given.1, given.2) (rows_fault _ _ _ _ _ _ c.loop-before.invariant (omega arith) c.in_err-name.ensures.fault)
