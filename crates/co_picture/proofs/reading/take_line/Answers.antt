use Rattle.std.proofs.Common.{◌≡◌, ◌++◌, Some, ◌∙◌, sym, ap, subst, Ok, Err, option_copied}
use Rattle.co_schedule.specs.LineText.{behind_line, next_line, IsNextFault}
use Rattle.co_schedule.specs.Lines.{lines_read, lent_then}
use Rattle.co_picture.specs.Read.{IsStep}
use Rattle.co_picture.proofs.Steps.{line_steps, ends_so, faults_so}
use Rattle.co_picture.proofs.Steps.{rest_is}
use Rattle.co_picture.proofs.reading.take_line.Goals as goal

pub returns-in-Ok-Some-clause-read : goal.returns-in-Ok-Some-clause-read
returns-in-Ok-Some-clause-read g c = λ text h.
    subst (IsStep text c.next.follows.lender-at-none (g.S.Source.left c.next.new.source)) (sym c.further.ensures)
    (line_steps text c.args.lines.now c.next.follows.lender-at-none (g.S.Source.left c.args.source.now) (g.S.Source.left c.next.new.source) c.args.reader c.args.number
    c.in-Ok-Some.line.now c.line.result h c.requires.is_number
    (sym (λ i. next_line (c.requires.bytes i) (c.requires.most i) (lines_read c.args.lines.now) h.rest) ∙ c.in-Ok-Some.ensures.next h.rest h.is_rest
    ∙ ap (λ z. Ok (option_copied z)) c.in-Ok-Some.field-0-is)
    (rw c.in-Ok-Some.is at c.next.follows.holds-at-none.0.behind h.rest h.is_rest)
    ((rw c.in-Ok-Some.is at c.next.follows.holds-at-none.2)
    ∙ ap (λ z. lent_then (lines_read c.args.lines.now) (option_copied z)) c.in-Ok-Some.field-0-is)
    (c.line.ensures.taken h.items h.follows))

pub returns-in-Ok-None-clause-read : goal.returns-in-Ok-None-clause-read
returns-in-Ok-None-clause-read g c = λ text h.
    subst (IsStep text c.next.follows.lender-at-none (g.S.Source.left c.next.new.source)) (sym c.whole.ensures)
    (ends_so text c.args.lines.now c.next.follows.lender-at-none (g.S.Source.left c.args.source.now) (g.S.Source.left c.next.new.source) c.args.reader c.args.number c.end.result h
    c.requires.is_number
    (sym (λ i. next_line (c.requires.bytes i) (c.requires.most i) (lines_read c.args.lines.now) h.rest) ∙ c.in-Ok-None.ensures.next h.rest h.is_rest
    ∙ ap (λ z. Ok (option_copied z)) c.in-Ok-None.field-0-is)
    (c.end.ensures.whole h.items h.follows))

pub returns-in-Err-clause-read : goal.returns-in-Err-clause-read
returns-in-Err-clause-read g c = λ text h.
    subst (λ z. IsStep text c.next.follows.lender-at-none (g.S.Source.left c.next.new.source) (Err z)) (sym c.of_lines.ensures)
    (faults_so text c.args.lines.now (g.S.Source.left c.args.source.now) c.args.reader c.in-Err.fault h
    (subst (λ z. IsNextFault z c.in-Err.fault) (λ i. next_line (c.requires.bytes i) (c.requires.most i) (lines_read c.args.lines.now) h.rest)
    (c.in-Err.ensures.next h.rest h.is_rest)))

pub returns-in-Ok-Some-clause-heard : goal.returns-in-Ok-Some-clause-heard
returns-in-Ok-Some-clause-heard g c = λ whole text more ahead h.
    let same = rest_is whole c.args.lines.now text c.args.reader h in
    subst (IsStep whole c.next.follows.lender-at-none (Some more)) (sym c.further.ensures)
    (line_steps whole c.args.lines.now c.next.follows.lender-at-none (Some text) (Some more) c.args.reader c.args.number
    c.in-Ok-Some.line.now c.line.result h c.requires.is_number
    (sym (λ i. next_line (c.requires.bytes i) (c.requires.most i) (lines_read c.args.lines.now) (same i)) ∙ c.in-Ok-Some.ensures.heard text more ahead
    ∙ ap (λ z. Ok (option_copied z)) c.in-Ok-Some.field-0-is)
    (ap Some ((rw c.in-Ok-Some.is at c.next.follows.holds-at-none.1 text more ahead) ∙ ap behind_line same))
    ((rw c.in-Ok-Some.is at c.next.follows.holds-at-none.2)
    ∙ ap (λ z. lent_then (lines_read c.args.lines.now) (option_copied z)) c.in-Ok-Some.field-0-is)
    (c.line.ensures.taken h.items h.follows))

pub returns-in-Ok-None-clause-heard : goal.returns-in-Ok-None-clause-heard
returns-in-Ok-None-clause-heard g c = λ whole text more ahead h.
    let same = rest_is whole c.args.lines.now text c.args.reader h in
    subst (IsStep whole c.next.follows.lender-at-none (Some more)) (sym c.whole.ensures)
    (ends_so whole c.args.lines.now c.next.follows.lender-at-none (Some text) (Some more) c.args.reader c.args.number c.end.result h
    c.requires.is_number
    (sym (λ i. next_line (c.requires.bytes i) (c.requires.most i) (lines_read c.args.lines.now) (same i)) ∙ c.in-Ok-None.ensures.heard text more ahead
    ∙ ap (λ z. Ok (option_copied z)) c.in-Ok-None.field-0-is)
    (c.end.ensures.whole h.items h.follows))

pub returns-in-Err-clause-heard : goal.returns-in-Err-clause-heard
returns-in-Err-clause-heard g c = λ whole text more ahead h.
    let same = rest_is whole c.args.lines.now text c.args.reader h in
    subst (λ z. IsStep whole c.next.follows.lender-at-none (Some more) (Err z)) (sym c.of_lines.ensures)
    (faults_so whole c.args.lines.now (Some text) c.args.reader c.in-Err.fault h
    (subst (λ z. IsNextFault z c.in-Err.fault) (λ i. next_line (c.requires.bytes i) (c.requires.most i) (lines_read c.args.lines.now) (same i))
    (c.in-Err.ensures.heard text more ahead)))
