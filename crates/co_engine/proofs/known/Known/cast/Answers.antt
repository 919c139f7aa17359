use Rattle.std.proofs.Common.{sym, subst}
use Rattle.co_engine.specs.declared.known.Known.{Known}
use Rattle.co_engine.specs.Known.{IsKnown}
use Rattle.co_state.proofs.Tables.{on_ok}
use Rattle.co_state.specs.Effects.{after_cast}
use Rattle.co_engine.proofs.Knowing.{known_cast}
use Rattle.co_engine.proofs.known.Known.cast.Goals as goal

pub returns : goal.returns
returns c = λ b k.
    on_ok c.insert.result
    (λ e. subst (λ (known : Known). IsKnown known (after_cast b c.args.t 0 0)) (λ i. record c.args.self.now { active = sym c.remove.ensures.rest i; voted = sym e i }) (known_cast c.args.self.now b c.args.t k))
    c.insert.ensures.ok
