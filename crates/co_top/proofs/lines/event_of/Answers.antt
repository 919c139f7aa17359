use Rattle.std.proofs.Common.{◌≡◌, ◌∙◌, suc, sym, ap, subst, Ok, option_copied, arith}
use Rattle.co_schedule.specs.LineText.{next_line}
use Rattle.co_schedule.specs.Lines.{lines_read}
use Rattle.co_top.specs.Heads.{IsEventRead}
use Rattle.co_top.proofs.Reading.{event_reads, no_event}
use Rattle.co_top.proofs.lines.event_of.Goals as goal

pub returns-in-Ok-Some-clause-read : goal.returns-in-Ok-Some-clause-read
returns-in-Ok-Some-clause-read g c = λ count text n e.
    let r = c.requires.read in
    let same : r.0 ≡ count = omega (arith, r.1, n) in
    let read : lines_read c.args.lines.now ≡ suc count = r.2.read ∙ ap suc same in
    subst (IsEventRead c.args.head.now count text _) (sym c.some_event.ensures)
    (event_reads c.args.head.now count c.args.number text c.in-Ok-Some.line.now _ c.event_in.result n
    (sym (λ i. next_line (r.2.bytes i) (r.2.most_are i) (read i) text) ∙ c.in-Ok-Some.ensures.next text e ∙ ap (λ z. Ok (option_copied z)) c.in-Ok-Some.field-0-is)
    (rw c.in-Ok-Some.is at c.next.follows.holds-at-none.0.behind text e) c.event_in.ensures)

pub returns-in-Ok-None-clause-read : goal.returns-in-Ok-None-clause-read
returns-in-Ok-None-clause-read g c = λ count text n e.
    let r = c.requires.read in
    let same : r.0 ≡ count = omega (arith, r.1, n) in
    let read : lines_read c.args.lines.now ≡ suc count = r.2.read ∙ ap suc same in
    no_event c.args.head.now count text _
    (sym (λ i. next_line (r.2.bytes i) (r.2.most_are i) (read i) text) ∙ c.in-Ok-None.ensures.next text e ∙ ap (λ z. Ok (option_copied z)) c.in-Ok-None.field-0-is)
    (rw c.in-Ok-None.is at c.next.follows.holds-at-none.0.behind text e)

pub returns-in-Ok-Some-clause-streamed : goal.returns-in-Ok-Some-clause-streamed
returns-in-Ok-Some-clause-streamed g c = λ text e after told.
    omega (arith, c.next.follows.holds-at-none.0.taken text after e told, c.next.follows.holds-at-none.0.limits.0, c.requires.read.2.bytes)

pub returns-in-Ok-None-clause-streamed : goal.returns-in-Ok-None-clause-streamed
returns-in-Ok-None-clause-streamed g c = λ text e after told.
    omega (arith, c.next.follows.holds-at-none.0.taken text after e told, c.next.follows.holds-at-none.0.limits.0, c.requires.read.2.bytes)

pub returns-in-Err-clause-streamed : goal.returns-in-Err-clause-streamed
returns-in-Err-clause-streamed g c = λ text e after told.
    omega (arith, c.next.follows.holds-at-none.0.taken text after e told, c.next.follows.holds-at-none.0.limits.0, c.requires.read.2.bytes)
