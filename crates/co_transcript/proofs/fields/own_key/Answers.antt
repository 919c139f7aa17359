use Rattle.co_schedule.proofs.Texts.{IsText-is_text}
use Rattle.co_transcript.proofs.fields.own_key.Goals as goal

pub key_of-requires : goal.key_of-requires
key_of-requires c = IsText-is_text _ _ c.in_ok-text.ensures.found.0
