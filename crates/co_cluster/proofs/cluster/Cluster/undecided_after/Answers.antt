use Rattle.std.proofs.Common.{◌+◌, ◌-◌, arith}
use Rattle.co_cluster.proofs.Readers.{member_runs}
use Rattle.co_cluster.proofs.cluster.Cluster.undecided_after.Goals as goal

pub open_after-requires : goal.open_after-requires
open_after-requires g c = record { up = member_runs g.E.Engine.takes g.E.Engine.stands_for c.args.self.now c.requires.stands (c.loop-place.place + 1) (c.loop-place.place + 1 - 1) c.member_at.result.now (omega arith) (omega arith) c.member_at.ensures }
