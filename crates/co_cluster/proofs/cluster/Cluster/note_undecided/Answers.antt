use Rattle.std.proofs.Common.{List, map, sym, ap, ◌∙◌}
use Rattle.std.proofs.lemmas.Result.{on_ok_weaker}
use Rattle.co_pairs.specs.declared.prepared.Prepared.{Prepared}
use Rattle.co_plain.specs.MemberView.{with_numbers}
use Rattle.co_recover.specs.declared.past.MemberPast.{MemberPast}
use Rattle.co_cluster.proofs.NotedSets.{voted_noted}
use Rattle.co_cluster.proofs.OpenNodes.{none_is}
use Rattle.co_cluster.proofs.cluster.Cluster.note_undecided.Goals as goal

pub note_member-requires : goal.note_member-requires
note_member-requires g c =
    let s = c.requires.stands.0 in
    record { up = sym c.up.ensures ∙ c.if-up.true; stands = (s.member c.args.member, (c.member_at-node.ensures s c.requires.stands.1).stands) }

pub returns-then-up : goal.returns-then-up
returns-then-up g c = λ s r. c.note_member.ensures (s.member c.args.member) (c.member_at-node.ensures s r).stands

pub returns : goal.returns
returns g c = λ s r.
    let m = c.member_at-node.result.now in
    let x = s.member c.args.member in
    let down = (c.member_at-node.ensures s r).stands.down (none_is m.running (sym c.up.ensures ∙ c.if-up.false)) in
    on_ok_weaker c.lay_votes.result
    (λ is. voted_noted m.kind x.log x c.args.found.now c.lay_votes.new.used down
    (is ∙ ap (λ (votes : List Prepared). with_numbers c.args.found.now (map (λ (v : Prepared). v.txn) votes)) (c.as_slice.ensures ∙ ap (λ (p : MemberPast). p.voted) (c.in_ok-past.ensures s r))))
    c.lay_votes.ensures
