use Rattle.co_schedule.proofs.Texts.{IsText-is_text}
use Rattle.co_check.proofs.starting.read_fields.Goals as goal

pub key_of-requires : goal.key_of-requires
key_of-requires c = IsText-is_text _ _ c.in_ok-key.ensures.found.0

pub value_of-requires : goal.value_of-requires
value_of-requires c = IsText-is_text _ _ c.in_ok-value.ensures.found.0
