use Rattle.co_transcript.proofs.ItemLaws.{one_line}
use Rattle.co_transcript.proofs.laws.one_text.Goals as goal

pub returns : goal.returns
returns c this that p q e = one_line this that p q e
