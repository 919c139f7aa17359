use Rattle.std.proofs.Common.{sym, ◌∙◌}
use Rattle.std.proofs.lemmas.Result.{on_ok_weaker}
use Rattle.co_cluster.proofs.NotedSets.{up_noted, down_noted}
use Rattle.co_cluster.proofs.cluster.Cluster.note_running.Goals as goal

pub note_member-requires : goal.note_member-requires
note_member-requires g c =
    let s = c.requires.stands.0 in
    record { up = sym c.up.ensures ∙ c.if-up.true; stands = (s.member c.args.member, (c.member_at-node.ensures s c.requires.stands.1).stands) }

pub returns-then-up : goal.returns-then-up
returns-then-up g c = λ s r.
    let x = s.member c.args.member in
    let here = (c.member_at-node.ensures s r).stands in
    on_ok_weaker c.note_member.result (up_noted x c.args.found.now c.note_member.new.found (here.up ∙ sym c.up.ensures ∙ c.if-up.true)) (c.note_member.ensures x here)

pub returns-else-up : goal.returns-else-up
returns-else-up g c = λ s r.
    down_noted (s.member c.args.member) c.args.found.now ((c.member_at-node.ensures s r).stands.up ∙ sym c.up.ensures ∙ c.if-up.false)
