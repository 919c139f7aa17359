use Rattle.std.proofs.Common.{Some, ◌∙◌, sym, ap, subst, Ok, Err, option_copied}
use Rattle.co_schedule.specs.LineText.{behind_line, next_line, IsNextFault}
use Rattle.co_schedule.specs.Lines.{lines_read, lent_then}
use Rattle.co_check.specs.Taking.{IsStep}
use Rattle.co_check.proofs.Reading.{line_steps, ends_so, faults_so}
use Rattle.co_check.proofs.Hearing.{rest_is}
use Rattle.co_check.proofs.lines.take_line.Goals as goal

pub returns-in-Ok-Some-clause-checked : goal.returns-in-Ok-Some-clause-checked
returns-in-Ok-Some-clause-checked g c = λ s text h.
    subst (IsStep s text c.next.follows.lender-at-none (g.S.Source.left c.next.new.source)) (sym c.further.ensures)
    (line_steps s text c.args.lines.now c.next.follows.lender-at-none (g.S.Source.left c.args.source.now) (g.S.Source.left c.next.new.source) c.args.reader c.args.number
    c.in-Ok-Some.line.now c.line.result h c.requires.within.is_number
    (sym (λ i. next_line (c.requires.within.bytes i) (c.requires.within.most i) (lines_read c.args.lines.now) h.rest) ∙ c.in-Ok-Some.ensures.next h.rest h.is_rest
    ∙ ap (λ z. Ok (option_copied z)) c.in-Ok-Some.field-0-is)
    (rw c.in-Ok-Some.is at c.next.follows.holds-at-none.0.behind h.rest h.is_rest)
    ((rw c.in-Ok-Some.is at c.next.follows.holds-at-none.2)
    ∙ ap (λ z. lent_then (lines_read c.args.lines.now) (option_copied z)) c.in-Ok-Some.field-0-is)
    (c.line.ensures.taken h.last h.stands))

pub returns-in-Ok-None-clause-checked : goal.returns-in-Ok-None-clause-checked
returns-in-Ok-None-clause-checked g c = λ s text h.
    subst (IsStep s text c.next.follows.lender-at-none (g.S.Source.left c.next.new.source)) (sym c.judged.ensures)
    (ends_so s text c.args.lines.now c.next.follows.lender-at-none (g.S.Source.left c.args.source.now) (g.S.Source.left c.next.new.source) c.args.reader c.args.number c.end.result h
    c.requires.within.is_number
    (sym (λ i. next_line (c.requires.within.bytes i) (c.requires.within.most i) (lines_read c.args.lines.now) h.rest) ∙ c.in-Ok-None.ensures.next h.rest h.is_rest
    ∙ ap (λ z. Ok (option_copied z)) c.in-Ok-None.field-0-is)
    (c.end.ensures.judged h.last h.stands))

pub returns-in-Err-clause-checked : goal.returns-in-Err-clause-checked
returns-in-Err-clause-checked g c = λ s text h.
    subst (λ z. IsStep s text c.next.follows.lender-at-none (g.S.Source.left c.next.new.source) (Err z)) (sym c.of_lines.ensures)
    (faults_so s text c.args.lines.now (g.S.Source.left c.args.source.now) c.args.reader c.in-Err.fault h
    (subst (λ z. IsNextFault z c.in-Err.fault) (λ i. next_line (c.requires.within.bytes i) (c.requires.within.most i) (lines_read c.args.lines.now) h.rest)
    (c.in-Err.ensures.next h.rest h.is_rest)))

pub returns-in-Ok-Some-clause-heard : goal.returns-in-Ok-Some-clause-heard
returns-in-Ok-Some-clause-heard g c = λ s whole text more ahead h.
    let same = rest_is s whole c.args.lines.now text c.args.reader h in
    subst (IsStep s whole c.next.follows.lender-at-none (Some more)) (sym c.further.ensures)
    (line_steps s whole c.args.lines.now c.next.follows.lender-at-none (Some text) (Some more) c.args.reader c.args.number
    c.in-Ok-Some.line.now c.line.result h c.requires.within.is_number
    (sym (λ i. next_line (c.requires.within.bytes i) (c.requires.within.most i) (lines_read c.args.lines.now) (same i)) ∙ c.in-Ok-Some.ensures.heard text more ahead
    ∙ ap (λ z. Ok (option_copied z)) c.in-Ok-Some.field-0-is)
    (ap Some ((rw c.in-Ok-Some.is at c.next.follows.holds-at-none.1 text more ahead) ∙ ap behind_line same))
    ((rw c.in-Ok-Some.is at c.next.follows.holds-at-none.2)
    ∙ ap (λ z. lent_then (lines_read c.args.lines.now) (option_copied z)) c.in-Ok-Some.field-0-is)
    (c.line.ensures.taken h.last h.stands))

pub returns-in-Ok-None-clause-heard : goal.returns-in-Ok-None-clause-heard
returns-in-Ok-None-clause-heard g c = λ s whole text more ahead h.
    let same = rest_is s whole c.args.lines.now text c.args.reader h in
    subst (IsStep s whole c.next.follows.lender-at-none (Some more)) (sym c.judged.ensures)
    (ends_so s whole c.args.lines.now c.next.follows.lender-at-none (Some text) (Some more) c.args.reader c.args.number c.end.result h
    c.requires.within.is_number
    (sym (λ i. next_line (c.requires.within.bytes i) (c.requires.within.most i) (lines_read c.args.lines.now) (same i)) ∙ c.in-Ok-None.ensures.heard text more ahead
    ∙ ap (λ z. Ok (option_copied z)) c.in-Ok-None.field-0-is)
    (c.end.ensures.judged h.last h.stands))

pub returns-in-Err-clause-heard : goal.returns-in-Err-clause-heard
returns-in-Err-clause-heard g c = λ s whole text more ahead h.
    let same = rest_is s whole c.args.lines.now text c.args.reader h in
    subst (λ z. IsStep s whole c.next.follows.lender-at-none (Some more) (Err z)) (sym c.of_lines.ensures)
    (faults_so s whole c.args.lines.now (Some text) c.args.reader c.in-Err.fault h
    (subst (λ z. IsNextFault z c.in-Err.fault) (λ i. next_line (c.requires.within.bytes i) (c.requires.within.most i) (lines_read c.args.lines.now) (same i))
    (c.in-Err.ensures.heard text more ahead)))
