use Rattle.std.proofs.Common.{◌∙◌, sym}
use Rattle.co_schedule.proofs.EventLaws.{line_of_words}
use Rattle.co_transcript.proofs.ItemLaws.{words_of_item, same_item, no_item_fault}
use Rattle.co_transcript.proofs.reading.read_item.Goals as goal

pub returns-in-Ok-clause-found : goal.returns-in-Ok-clause-found
returns-in-Ok-clause-found c = (c.in-Ok.ensures.found.0, line_of_words c.args.line.now _ (sym c.of-words.ensures ∙ c.in-Ok.ensures.found.1))

pub returns-in-Ok-clause-only : goal.returns-in-Ok-clause-only
returns-in-Ok-clause-only c item it same =
    same_item _ item c.in-Ok.ensures.found.0 it (sym c.in-Ok.ensures.found.1 ∙ c.of-words.ensures ∙ words_of_item item c.args.line.now it same)

pub returns-in-Err-Mistake-clause-only : goal.returns-in-Err-Mistake-clause-only
returns-in-Err-Mistake-clause-only c item it same =
    absurd (no_item_fault item _ c.in-Err-Mistake.mistake it (c.of-words.ensures ∙ words_of_item item c.args.line.now it same) (rw c.in-Err-Mistake.field-0-is at c.in-Err-Mistake.ensures.fault))
