use Rattle.co_law_check.proofs.Behind.{found_resumed}
use Rattle.co_law_check.proofs.laws.resumed_transcripts_are_found_serial.Goals as goal

pub returns : goal.returns
returns c head found_member found_coord events answer openable own spelled_m spelled_c valid few short lined check told =
    found_resumed head found_member found_coord events openable own spelled_m spelled_c valid answer few short lined check told
