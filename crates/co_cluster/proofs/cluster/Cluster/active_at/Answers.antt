use Rattle.std.proofs.Common.{◌-◌, arith}
use Rattle.co_cluster.proofs.Readers.{member_runs}
use Rattle.co_cluster.proofs.cluster.Cluster.active_at.Goals as goal

pub knows-requires : goal.knows-requires
knows-requires g c = record { up = member_runs g.E.Engine.takes g.E.Engine.stands_for c.args.self.now c.requires.stands c.loop-member.member (c.loop-member.member - 1) c.member_at.result.now (omega arith) (omega arith) c.member_at.ensures }
