use Rattle.std.proofs.Common.{◌∙◌, sym}
use Rattle.co_schedule.proofs.EventLaws.{line_of_words}
use Rattle.co_check.proofs.Entries.{words_of_record, no_record_fault}
use Rattle.co_check.proofs.starting.read_record.Goals as goal

pub returns-in-Ok-clause-found : goal.returns-in-Ok-clause-found
returns-in-Ok-clause-found c = (c.in-Ok.ensures.found.0, line_of_words c.args.line.now _ (sym c.of-words.ensures ∙ c.in-Ok.ensures.found.1))

pub returns-in-Err-Mistake-clause-none : goal.returns-in-Err-Mistake-clause-none
returns-in-Err-Mistake-clause-none c = λ row is same.
    no_record_fault row _ c.in-Err-Mistake.field-0-0 is (c.of-words.ensures ∙ words_of_record row c.args.line.now is same) (rw c.in-Err-Mistake.field-0-is at c.in-Err-Mistake.ensures.fault)
