use Rattle.co_law_check.proofs.Judged.{schedule_serial}
use Rattle.co_law_check.proofs.laws.schedules_are_found_serial.Goals as goal

pub returns : goal.returns
returns c = schedule_serial
