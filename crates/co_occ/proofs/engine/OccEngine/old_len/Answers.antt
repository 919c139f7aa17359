use Rattle.std.proofs.Common.{length, ap, ◌∙◌}
use Rattle.co_occ.proofs.engine.OccEngine.old_len.Goals as goal

pub returns-clause-exactly : goal.returns-clause-exactly
returns-clause-exactly c = λ b s. c.len.ensures ∙ ap length s.recent_are
