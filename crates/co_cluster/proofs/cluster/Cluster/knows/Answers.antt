use Rattle.std.proofs.Common.{◌∙◌, sym}
use Rattle.co_cluster.proofs.cluster.Cluster.knows.Goals as goal

pub knows-requires : goal.knows-requires
knows-requires g c = let w = c.requires.up in record { up = sym (c.member_at.ensures w.0 w.1).stands.up ∙ w.2 }
