use Rattle.std.proofs.Common.{sym, ◌∙◌}
use Rattle.co_schedule.proofs.EventLaws.{line_of_words}
use Rattle.co_schedule.proofs.Heads.{words_of_head, head_no_fault}
use Rattle.co_schedule.proofs.head.read_head.Goals as goal

pub returns-in-Ok-clause-found : goal.returns-in-Ok-clause-found
returns-in-Ok-clause-found c = line_of_words c.args.line.now _ (sym c.of-words.ensures ∙ c.in-Ok.ensures.found)

pub returns-in-Err-Mistake-clause-only : goal.returns-in-Err-Mistake-clause-only
returns-in-Err-Mistake-clause-only c is_head head h =
    head_no_fault head _ c.in-Err-Mistake.field-0-0 (c.of-words.ensures ∙ words_of_head head c.args.line.now h) (rw c.in-Err-Mistake.field-0-is at c.in-Err-Mistake.ensures.fault)
