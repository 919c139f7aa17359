use Rattle.std.proofs.Common.{List, ℕ, ◌+◌, ◌++◌, ap, ◌∙◌, Some, arith}
use Rattle.co_schedule.proofs.Filling.{piece_taken, piece_within, nothing_taken}
use Rattle.co_schedule.proofs.lines.Lines.take.Goals as goal

pub returns-in_ok-extend_from_slice-in-Ok-Bytes-clause-taken : goal.returns-in_ok-extend_from_slice-in-Ok-Bytes-clause-taken
returns-in_ok-extend_from_slice-in-Ok-Bytes-clause-taken g c bytes told =
    let front = rw c.in-Ok-Bytes.field-0-is at c.in-Ok-Bytes.ensures.front bytes told in
    let rest = rw c.in-Ok-Bytes.field-0-is at c.in-Ok-Bytes.ensures.rest bytes told in
    piece_taken _ _ c.args.self.now.buffer.items _ bytes front rest (c.in_ok-extend_from_slice-in-Ok-Bytes.ensures.items ∙ ap (λ (l : List ℕ). c.args.self.now.buffer.items ++ l) c.as_slice.ensures)

pub returns-in-Ok-End-clause-taken : goal.returns-in-Ok-End-clause-taken
returns-in-Ok-End-clause-taken g c bytes told =
    nothing_taken _ c.args.self.now.buffer.items bytes (rw c.in-Ok-End.field-0-is at c.in-Ok-End.ensures.rest bytes told)

pub returns-in-Ok-End-clause-end : goal.returns-in-Ok-End-clause-end
returns-in-Ok-End-clause-end g c same bytes told =
    let none = (c.in-Ok-End.ensures.end bytes told).0 c.in-Ok-End.field-0-is in
    (rw c.in-Ok-End.field-0-is at c.in-Ok-End.ensures.rest bytes told) ∙ ap (λ (b : List ℕ). Some b) none

pub returns-in_err-extend_from_slice-in-Ok-Bytes-clause-bound : goal.returns-in_err-extend_from_slice-in-Ok-Bytes-clause-bound
returns-in_err-extend_from_slice-in-Ok-Bytes-clause-bound g c =
    let size = rw c.in-Ok-Bytes.field-0-is at c.in-Ok-Bytes.ensures.size in
    let rest = rw c.in-Ok-Bytes.field-0-is at c.in-Ok-Bytes.ensures.rest in
    piece_within g.S.Source.left _ _ c.args.self.now.buffer.items _ (c.args.self.now.line + 1) rest (omega (arith, size.1))

pub returns-in_ok-extend_from_slice-in-Ok-Bytes-clause-bound : goal.returns-in_ok-extend_from_slice-in-Ok-Bytes-clause-bound
returns-in_ok-extend_from_slice-in-Ok-Bytes-clause-bound g c =
    let size = rw c.in-Ok-Bytes.field-0-is at c.in-Ok-Bytes.ensures.size in
    let rest = rw c.in-Ok-Bytes.field-0-is at c.in-Ok-Bytes.ensures.rest in
    piece_within g.S.Source.left _ _ c.args.self.now.buffer.items _ (c.args.self.now.line + 1) rest (omega (arith, size.1))
