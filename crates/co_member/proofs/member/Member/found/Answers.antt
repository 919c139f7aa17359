use Rattle.std.proofs.Common.{ap, ◌∙◌}
use Rattle.co_pairs.proofs.Votes.{votes_free}
use Rattle.co_pairs.specs.Free.{are_free}
use Rattle.co_plain.specs.MemberView.{recovered_view}
use Rattle.co_recover.specs.declared.past.MemberPast.{MemberPast}
use Rattle.co_member.proofs.member.Member.found.Goals as goal

pub restored-requires-clause-free : goal.restored-requires-clause-free
restored-requires-clause-free g c =
    let l = c.requires.stands.1 in
    ap (λ (p : MemberPast). are_free p.voted) (c.in_ok-past.ensures c.requires.stands.0 l c.requires.stands.2) ∙ votes_free (recovered_view l.stable).voted c.requires.stands.3.free

pub returns-clause-stands : goal.returns-clause-stands
returns-clause-stands g c = λ n l after r. c.restored.ensures.stands after (recovered_view l.stable) (c.in_ok-past.ensures n l r)
