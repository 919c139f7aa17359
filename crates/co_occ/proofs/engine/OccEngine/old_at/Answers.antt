use Rattle.std.proofs.Common.{slice_get, ap, sym, ◌∙◌}
use Rattle.co_occ.proofs.engine.OccEngine.old_at.Goals as goal

pub returns : goal.returns
returns c = λ b s. ap (λ wss. slice_get wss c.args.place) (sym s.recent_are) ∙ c.at.ensures
