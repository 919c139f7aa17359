use Rattle.std.proofs.Common.{ℕ, sym, subst}
use Rattle.co_coord.specs.Opening.{MayRestart}
use Rattle.co_cluster.proofs.Ready.{restarts_coord}
use Rattle.co_cluster.proofs.cluster.Cluster.coord_past.Goals as goal

pub past-requires : goal.past-requires
past-requires g c =
    let s = c.requires.stands.0 in
    let k = c.args.coord in
    let here = c.coord_at.ensures s c.requires.stands.1 in
    record { stands = (s.coord k, here.stands, subst (λ (n : ℕ). MayRestart n (s.coord k)) (sym here.members_are) (restarts_coord s c.requires.stands.2 k)) }

pub returns : goal.returns
returns g c = λ s r. c.past.ensures (s.coord c.args.coord) (c.coord_at.ensures s r).stands
