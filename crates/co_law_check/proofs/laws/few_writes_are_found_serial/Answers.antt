use Rattle.co_law_check.proofs.Judged.{few_serial}
use Rattle.co_law_check.proofs.laws.few_writes_are_found_serial.Goals as goal

pub returns : goal.returns
returns c = few_serial
