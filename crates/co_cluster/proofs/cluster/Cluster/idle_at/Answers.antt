use Rattle.std.proofs.Common.{◌-◌, arith}
use Rattle.co_cluster.proofs.Readers.{coord_runs}
use Rattle.co_cluster.proofs.cluster.Cluster.idle_at.Goals as goal

pub stage-requires : goal.stage-requires
stage-requires g c = record { up = coord_runs g.E.Engine.takes g.E.Engine.stands_for c.args.self.now c.requires.stands c.loop-coord.coord (c.loop-coord.coord - 1) c.coord_at.result.now (omega arith) (omega arith) c.coord_at.ensures }
