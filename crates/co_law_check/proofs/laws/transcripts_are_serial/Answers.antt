use Rattle.co_law_check.proofs.Fresh.{told_serially}
use Rattle.co_law_check.proofs.laws.transcripts_are_serial.Goals as goal

pub returns : goal.returns
returns c = told_serially
