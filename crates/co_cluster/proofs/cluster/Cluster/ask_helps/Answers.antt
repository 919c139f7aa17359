use Rattle.std.proofs.Common.{◌-◌}
use Rattle.co_cluster.proofs.Readers.{member_runs, coord_runs}
use Rattle.co_cluster.proofs.cluster.Cluster.ask_helps.Goals as goal

pub coord_of-requires : goal.coord_of-requires
coord_of-requires g c = record { up = member_runs g.E.Engine.takes g.E.Engine.stands_for c.args.self.now c.requires.stands c.args.member (c.args.member - 1) c.member_at.result.now c.requires.member.0 c.requires.member.1 c.member_at.ensures }

pub holds-requires : goal.holds-requires
holds-requires g c = record { up = coord_runs g.E.Engine.takes g.E.Engine.stands_for c.args.self.now c.requires.stands c.args.coord (c.args.coord - 1) c.coord_at.result.now c.requires.coord.0 c.requires.coord.1 c.coord_at.ensures }
