use Rattle.co_schedule.proofs.Texts.{IsText-is_text}
use Rattle.co_transcript.proofs.fields.own_value.Goals as goal

pub value_of-requires : goal.value_of-requires
value_of-requires c = IsText-is_text _ _ c.in_ok-text.ensures.found.0
