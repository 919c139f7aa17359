use Rattle.std.proofs.Common.{sym}
use Rattle.std.proofs.lemmas.List.{length-take-le}
use Rattle.co_record.proofs.Codec.{letters_long}
use Rattle.co_record.proofs.field.read_letters.Goals as goal

pub slice_bounds-result-end : goal.slice_bounds-result-end
slice_bounds-result-end c = sym (length-take-le _ _ (letters_long _ _ _ c.in_ok-rest.ensures))
