use Rattle.co_law.proofs.Readable.{readable}
use Rattle.co_law.proofs.laws.readable_logs.Goals as goal

pub returns : goal.returns
returns c = readable
