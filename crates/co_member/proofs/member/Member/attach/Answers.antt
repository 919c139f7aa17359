use Rattle.std.proofs.Common.{refl, ap, ◌∙◌}
use Rattle.co_pairs.proofs.Votes.{votes_free}
use Rattle.co_pairs.specs.Free.{are_free}
use Rattle.co_plain.specs.MemberView.{recovered_view}
use Rattle.co_recover.specs.declared.past.MemberPast.{MemberPast}
use Rattle.co_member.proofs.Carrying.{first_stands}
use Rattle.co_member.proofs.member.Member.attach.Goals as goal

pub restored-requires-clause-free : goal.restored-requires-clause-free
restored-requires-clause-free g c =
    let l = c.requires.stands.0 in
    ap (λ (p : MemberPast). are_free p.voted) c.requires.stands.1.past ∙ votes_free (recovered_view l.stable).voted c.requires.stands.2.free

pub returns-in-Ok-clause-opened : goal.returns-in-Ok-clause-opened
returns-in-Ok-clause-opened g c = λ l past.
    first_stands g.E.Engine.stands_for _ c.in-Ok.running _ refl refl past.log (c.in-Ok.ensures.stands l (recovered_view l.stable) past.past)
