use Rattle.co_law_check.proofs.Judged.{found_serial}
use Rattle.co_law_check.proofs.laws.transcripts_are_found_serial.Goals as goal

pub returns : goal.returns
returns c = found_serial
