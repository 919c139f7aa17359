use Rattle.std.proofs.Common.{◌∙◌, sym, ap, subst, Ok, option_copied, arith}
use Rattle.co_schedule.specs.LineText.{next_line}
use Rattle.co_top.specs.Front.{IsHeadFault}
use Rattle.co_top.proofs.Reading.{head_reads, no_head}
use Rattle.co_top.proofs.lines.head_of.Goals as goal

pub returns-in-Ok-Some-clause-read : goal.returns-in-Ok-Some-clause-read
returns-in-Ok-Some-clause-read g c = λ text e.
    head_reads text c.in-Ok-Some.line.now _ c.head_in.result
    (sym (λ i. next_line (c.requires.fresh.bytes i) (c.requires.fresh.most_are i) (c.requires.fresh.read i) text) ∙ c.in-Ok-Some.ensures.next text e
    ∙ ap (λ z. Ok (option_copied z)) c.in-Ok-Some.field-0-is)
    (rw c.in-Ok-Some.is at c.next.follows.holds-at-none.0.behind text e) c.head_in.ensures

pub returns-in-Ok-None-clause-read : goal.returns-in-Ok-None-clause-read
returns-in-Ok-None-clause-read g c = λ text e.
    subst (IsHeadFault text) (sym c.of_line.ensures)
    (no_head text
    (sym (λ i. next_line (c.requires.fresh.bytes i) (c.requires.fresh.most_are i) (c.requires.fresh.read i) text) ∙ c.in-Ok-None.ensures.next text e
    ∙ ap (λ z. Ok (option_copied z)) c.in-Ok-None.field-0-is))

pub returns-in-Ok-Some-clause-streamed : goal.returns-in-Ok-Some-clause-streamed
returns-in-Ok-Some-clause-streamed g c = λ text e after told.
    omega (arith, c.next.follows.holds-at-none.0.taken text after e told, c.next.follows.holds-at-none.0.limits.0, c.requires.fresh.bytes)

pub returns-in-Ok-None-clause-streamed : goal.returns-in-Ok-None-clause-streamed
returns-in-Ok-None-clause-streamed g c = λ text e after told.
    omega (arith, c.next.follows.holds-at-none.0.taken text after e told, c.next.follows.holds-at-none.0.limits.0, c.requires.fresh.bytes)

pub returns-in-Err-clause-streamed : goal.returns-in-Err-clause-streamed
returns-in-Err-clause-streamed g c = λ text e after told.
    omega (arith, c.next.follows.holds-at-none.0.taken text after e told, c.next.follows.holds-at-none.0.limits.0, c.requires.fresh.bytes)
