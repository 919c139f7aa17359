use Rattle.std.proofs.Common.{ℕ, sym, subst}
use Rattle.co_member.specs.Attaching.{IsReadable}
use Rattle.co_cluster.proofs.Ready.{restarts_member}
use Rattle.co_cluster.proofs.cluster.Cluster.member_past.Goals as goal

pub past-requires : goal.past-requires
past-requires g c =
    let s = c.requires.stands.0 in
    let k = c.args.member in
    let here = c.member_at.ensures s c.requires.stands.1 in
    record { stands = (s.member k, here.stands, subst (λ (n : ℕ). IsReadable n (s.member k).log) (sym here.coords_are) (restarts_member s c.requires.stands.2 k)) }

pub returns : goal.returns
returns g c = λ s r. c.past.ensures (s.member c.args.member) (c.member_at.ensures s r).stands
