use Rattle.co_cluster.proofs.cluster.Cluster.kind_of.Goals as goal

pub returns : goal.returns
returns g c = λ s r. c.kind.ensures (s.member c.args.member) (c.member_at.ensures s r).stands
