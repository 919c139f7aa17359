use Rattle.co_law.proofs.GoingOn.{transcript_more}
use Rattle.co_law.proofs.runs.transcripts_go_on.Goals as goal

pub returns : goal.returns
returns c = transcript_more
