use Rattle.std.proofs.Common.{◌≤◌, length, arith}
use Rattle.co_record.proofs.Walks.{done, no_fault, entered}
use Rattle.co_record.proofs.views.next_bytes.Goals as goal

pub returns-in-Some-Ok-clause-left : goal.returns-in-Some-Ok-clause-left
returns-in-Some-Ok-clause-left c =
    let e = rw c.in-Some-Ok.field-0-is at c.in-Some-Ok.ensures in
    let short : length c.args.rest.now ≤ 0 = omega arith in
    λ version items left. (entered version c.args.batches.now c.next.new.self c.args.at c.in-Some-Ok.batch.at c.args.rest.now c.in-Some-Ok.batch.records.now short e.text e.lent.1 e.moves.0 items left, e.lent.0.0)

pub returns-in-Some-Err-clause-left : goal.returns-in-Some-Err-clause-left
returns-in-Some-Err-clause-left c =
    let e = rw c.in-Some-Err.field-0-is at c.in-Some-Err.ensures in
    λ version. no_fault version c.args.batches.now c.next.new.self c.args.at c.args.rest.now c.in-Some-Err.field-0-0 e.text

pub returns-in-None-clause-left : goal.returns-in-None-clause-left
returns-in-None-clause-left c =
    let short : length c.args.rest.now ≤ 0 = omega arith in
    λ version. done version c.args.batches.now c.next.new.self c.args.at c.args.rest.now short c.in-None.ensures.text
