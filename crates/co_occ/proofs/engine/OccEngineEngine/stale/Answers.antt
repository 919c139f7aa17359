use Rattle.std.proofs.Common.{ap, ◌∙◌}
use Rattle.std.specs.FinMap.{entries}
use Rattle.co_state.specs.Keys.{least_key}
use Rattle.co_occ.specs.Last.{keys_after}
use Rattle.co_occ.proofs.Standing.{validated}
use Rattle.co_occ.proofs.engine.OccEngineEngine.stale.Goals as goal

pub returns : goal.returns
returns c = λ b s h.
    c.stale_key.ensures ∙ ap (λ rs. least_key (keys_after (entries c.args.self.now.lasts) rs)) c.reads.ensures ∙ validated c.args.self.now b c.args.t s
