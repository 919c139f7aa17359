use Rattle.std.proofs.Common.{refl}
use Rattle.co_base.proofs.Numbers.{text_padded}
use Rattle.co_base.proofs.key.Key.new.Goals as goal

pub invariant_of-result : goal.invariant_of-result
invariant_of-result c = text_padded c.args.bytes.now _ c.copy_from_slice.ensures.after (c.in_ok-test_text.ensures.ok.0 refl)
