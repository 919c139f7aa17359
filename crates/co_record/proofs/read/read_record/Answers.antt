use Rattle.std.proofs.Common.{length, Err, sym, ap, ◌∙◌, arith}
use Rattle.co_record.specs.Lent.{placed, record_of}
use Rattle.co_record.proofs.Records.{record_shrinks, stands, reads}
use Rattle.co_record.proofs.Slices.{are_slices}
use Rattle.co_record.proofs.read.read_record.Goals as goal

pub overflow_sub-result : goal.overflow_sub-result
overflow_sub-result c = record_shrinks c.args.version (omega (arith, c.requires.version.1)) _ _ _ (λ i. omega (arith, c.type_inv.bytes i)) c.in-Ok.ensures

pub returns-in-Ok-clause-found : goal.returns-in-Ok-clause-found
returns-in-Ok-clause-found c = stands c.args.version (omega (arith, c.requires.version.1)) _ _ _ (λ i. omega (arith, c.type_inv.bytes i)) c.in-Ok.ensures

pub returns-in-Ok-clause-slices : goal.returns-in-Ok-clause-slices
returns-in-Ok-clause-slices c =
    let s = stands c.args.version (omega (arith, c.requires.version.1)) _ _ _ (λ i. omega (arith, c.type_inv.bytes i)) c.in-Ok.ensures in
    are_slices c.args.version c.args.bytes.now (record_of c.in-Ok.view) _ s.text

pub returns-in-Ok-clause-only : goal.returns-in-Ok-clause-only
returns-in-Ok-clause-only c = λ item rest fits e. sym (reads c.args.version (omega (arith, c.requires.version.1)) c.args.bytes.now item rest fits e) ∙ ap (placed (length c.args.bytes.now)) c.in-Ok.ensures

pub returns-in-Err-clause-only : goal.returns-in-Err-clause-only
returns-in-Err-clause-only c = λ item rest fits e. sym (reads c.args.version (omega (arith, c.requires.version.1)) c.args.bytes.now item rest fits e) ∙ ap (placed (length c.args.bytes.now)) c.in-Err.ensures ∙ ap Err (sym c.fault_of.ensures)
