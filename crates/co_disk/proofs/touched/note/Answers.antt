use Rattle.std.proofs.Common.{◌≡◌, ◌∙◌, ap, length, take, drop, List, ℕ, arith}
use Rattle.std.proofs.lemmas.Bool.Decides.{nat_tests}
use Rattle.co_disk.proofs.Noted.{one_byte, one_more, set_overlaid}
use Rattle.co_disk.proofs.touched.note.Goals as goal

pub returns-then-is_none-clause-read : goal.returns-then-is_none-clause-read
returns-then-is_none-clause-read c = set_overlaid c.args.bytes.now.items c.args.at c.args.piece.now (omega arith) (omega arith)

pub returns-then-is_none-clause-kept : goal.returns-then-is_none-clause-kept
returns-then-is_none-clause-kept c =
    let none : length c.args.touched.now.items ≡ 0 = grind (arith, nat_tests, c.is_empty.ensures, c.if-is_empty.true, c.args.touched.now.ok) in
    (one_byte c.args.bytes.now.items c.args.first.now c.args.touched.now.items c.args.at c.args.piece.now c.index.result.now c.if-is_none.ensures none (omega arith) (omega arith) c.index.ensures c.requires.end c.requires.kept).0

pub returns-then-is_none-clause-noted : goal.returns-then-is_none-clause-noted
returns-then-is_none-clause-noted c =
    let none : length c.args.touched.now.items ≡ 0 = grind (arith, nat_tests, c.is_empty.ensures, c.if-is_empty.true, c.args.touched.now.ok) in
    (one_byte c.args.bytes.now.items c.args.first.now c.args.touched.now.items c.args.at c.args.piece.now c.index.result.now c.if-is_none.ensures none (omega arith) (omega arith) c.index.ensures c.requires.end c.requires.kept).1

pub returns-in-Ok-clause-kept : goal.returns-in-Ok-clause-kept
returns-in-Ok-clause-kept c =
    let t = c.in_ok-note.field-0 in
    (one_more c.args.bytes.now.items c.lay.new.bytes.items c.args.first.now c.args.touched.now.items c.push.new.self.items t c.args.at c.args.piece.now c.requires.at c.requires.end c.in_ok-note.ensures.at c.in_ok-note.ensures.piece (c.in_ok-note.ensures.before ∙ ap (λ (l : List ℕ). take (length c.args.piece.now) (drop c.args.at l)) c.deref.ensures.value) c.in-Ok.ensures.laid c.in_ok-push.ensures.items c.requires.kept).0

pub returns-in-Ok-clause-noted : goal.returns-in-Ok-clause-noted
returns-in-Ok-clause-noted c =
    let t = c.in_ok-note.field-0 in
    (one_more c.args.bytes.now.items c.lay.new.bytes.items c.args.first.now c.args.touched.now.items c.push.new.self.items t c.args.at c.args.piece.now c.requires.at c.requires.end c.in_ok-note.ensures.at c.in_ok-note.ensures.piece (c.in_ok-note.ensures.before ∙ ap (λ (l : List ℕ). take (length c.args.piece.now) (drop c.args.at l)) c.deref.ensures.value) c.in-Ok.ensures.laid c.in_ok-push.ensures.items c.requires.kept).1
