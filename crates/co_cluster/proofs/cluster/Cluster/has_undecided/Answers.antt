use Rattle.std.proofs.Common.{◌∙◌, not, sym, ap}
use Rattle.co_recover.specs.declared.past.MemberPast.{MemberPast}
use Rattle.co_cluster.proofs.OpenNodes.{is_empty, empty_is, none_is, down_undecided}
use Rattle.co_cluster.proofs.cluster.Cluster.has_undecided.Goals as goal

pub returns : goal.returns
returns g c = λ s r.
    let k = c.args.member in
    let m = c.member_at-node.result.now in
    let down = (c.member_at-node.ensures s r).stands.down (none_is m.running (sym c.up.ensures ∙ c.if-up.false)) in
    empty_is c.is_empty.result c.as_slice.result.now c.in_ok-past.past.voted c.is_empty.ensures c.as_slice.ensures
    ∙ ap (λ (p : MemberPast). not (is_empty p.voted)) (c.in_ok-past.ensures s r) ∙ sym (down_undecided m.kind (s.member k).log (s.member k) down)
