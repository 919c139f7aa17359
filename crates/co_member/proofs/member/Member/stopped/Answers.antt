use Rattle.std.proofs.Common.{true≢false, is_some, sym, ap, ◌∙◌}
use Rattle.co_member.proofs.member.Member.stopped.Goals as goal

pub returns-clause-pins : goal.returns-clause-pins
returns-clause-pins g c = λ up. absurd (true≢false (sym up ∙ ap is_some c.has.ensures.running))
