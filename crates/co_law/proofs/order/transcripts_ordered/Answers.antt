use Rattle.co_law.proofs.EveryOrder.{every_transcript}
use Rattle.co_law.proofs.order.transcripts_ordered.Goals as goal

pub returns : goal.returns
returns c = every_transcript
