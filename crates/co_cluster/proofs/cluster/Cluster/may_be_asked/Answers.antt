use Rattle.std.proofs.Common.{◌-◌}
use Rattle.co_cluster.proofs.Readers.{member_runs}
use Rattle.co_cluster.proofs.cluster.Cluster.may_be_asked.Goals as goal

pub knows-requires : goal.knows-requires
knows-requires g c = record { up = member_runs g.E.Engine.takes g.E.Engine.stands_for c.args.self.now c.requires.stands c.args.member (c.args.member - 1) c.member_at-node.result.now c.requires.member.0 c.requires.member.1 c.member_at-node.ensures }

pub is_asked-requires : goal.is_asked-requires
is_asked-requires g c = record { up = member_runs g.E.Engine.takes g.E.Engine.stands_for c.args.self.now c.requires.stands c.args.member (c.args.member - 1) c.member_at-node.result.now c.requires.member.0 c.requires.member.1 c.member_at-node.ensures }
