use Rattle.std.proofs.Common.{◌∙◌, sym}
use Rattle.co_state.specs.Table.{look}
use Rattle.co_world.proofs.HandedVerdicts.{asker_is, none_asked}
use Rattle.co_world.proofs.world.World.asker_of.Goals as goal

pub coord_of-requires : goal.coord_of-requires
coord_of-requires g c = let w = c.requires.voted in record { up = sym (c.member_at.ensures w.0 w.1.cluster).stands.up ∙ w.2 }

pub unreachable-requires : goal.unreachable-requires
unreachable-requires g c = let w = c.requires.voted in none_asked (look (w.0.member c.args.member).engine.voted c.args.t) (sym c.in-None.is ∙ c.coord_of.ensures (w.0.member c.args.member) (c.member_at.ensures w.0 w.1.cluster).stands) w.3

pub returns : goal.returns
returns g c = λ s r. asker_is (look (s.member c.args.member).engine.voted c.args.t) c.in-Some.coord (sym c.in-Some.is ∙ c.coord_of.ensures (s.member c.args.member) (c.member_at.ensures s r.cluster).stands)
