use Rattle.std.proofs.Common.{◌∙◌}
use Rattle.co_record.proofs.Walks.{first_version, no_version, broken_version}
use Rattle.co_record.proofs.views.text_version.Goals as goal

pub returns-in-Some-Ok-clause-text : goal.returns-in-Some-Ok-clause-text
returns-in-Some-Ok-clause-text c = λ batches text.
    let e = rw c.in-Some-Ok.field-0-is at c.in-Some-Ok.ensures in
    c.version_of.ensures ∙ first_version c.args.bytes.now c.new.result c.next.new.self c.in-Some-Ok.batch.records.now c.new.ensures e.text batches text

pub returns-in-Some-Err-clause-text : goal.returns-in-Some-Err-clause-text
returns-in-Some-Err-clause-text c =
    let e = rw c.in-Some-Err.field-0-is at c.in-Some-Err.ensures in
    broken_version c.args.bytes.now c.new.result c.next.new.self c.in-Some-Err.field-0-0 c.new.ensures e.text

pub returns-in-None-clause-text : goal.returns-in-None-clause-text
returns-in-None-clause-text c = no_version c.args.bytes.now c.new.result c.next.new.self c.new.ensures c.in-None.ensures.text
