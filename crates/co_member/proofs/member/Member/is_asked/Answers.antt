use Rattle.std.proofs.Common.{is_some, ap, ◌∙◌}
use Rattle.co_member.proofs.member.Member.is_asked.Goals as goal

pub returns : goal.returns
returns g c = λ x r. c.is_some.ensures ∙ ap is_some (c.mark_of.ensures x.engine x.asked (r.running c.running.result.now c.running.ensures).undecided)
