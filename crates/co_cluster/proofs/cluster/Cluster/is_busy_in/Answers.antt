use Rattle.std.proofs.Common.{◌-◌}
use Rattle.co_cluster.proofs.Readers.{coord_runs}
use Rattle.co_cluster.proofs.cluster.Cluster.is_busy_in.Goals as goal

pub stage-requires : goal.stage-requires
stage-requires g c = record { up = coord_runs g.E.Engine.takes g.E.Engine.stands_for c.args.self.now c.requires.stands c.args.coord (c.args.coord - 1) c.coord_at.result.now c.requires.coord.0 c.requires.coord.1 c.coord_at.ensures }
