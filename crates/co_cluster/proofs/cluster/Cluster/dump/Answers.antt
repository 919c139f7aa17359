use Rattle.std.proofs.Common.{◌∙◌, sym}
use Rattle.co_cluster.proofs.cluster.Cluster.dump.Goals as goal

pub dump-requires : goal.dump-requires
dump-requires g c = let w = c.requires.up in record { up = sym (c.member_at.ensures w.0 w.1).stands.up ∙ w.2 }

pub returns-clause-rows : goal.returns-clause-rows
returns-clause-rows g c = λ s r. c.dump.ensures.rows (s.member c.args.member) (c.member_at.ensures s r).stands

pub returns-clause-undos : goal.returns-clause-undos
returns-clause-undos g c = λ s r. c.dump.ensures.undos (s.member c.args.member) (c.member_at.ensures s r).stands
