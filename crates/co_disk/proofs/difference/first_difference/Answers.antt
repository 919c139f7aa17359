use Rattle.std.proofs.Common.{arith}
use Rattle.co_disk.proofs.Gets.{same_to}
use Rattle.co_disk.proofs.difference.first_difference.Goals as goal

pub returns : goal.returns
returns c = same_to c.args.kept.now c.args.read.now c.loop-place.place (omega arith) c.loop-place.invariant
