use Rattle.co_law.proofs.EveryRun.{every_read}
use Rattle.co_law.proofs.laws.serial_reads.Goals as goal

pub returns : goal.returns
returns c = every_read
