use Rattle.std.proofs.Common.{sym, subst}
use Rattle.co_engine.specs.declared.known.Known.{Known}
use Rattle.co_engine.specs.Known.{IsKnown}
use Rattle.co_state.proofs.Tables.{on_ok}
use Rattle.co_state.specs.Effects.{after_install}
use Rattle.co_engine.proofs.Knowing.{known_install}
use Rattle.co_engine.proofs.known.Known.install.Goals as goal

pub returns : goal.returns
returns c = λ b k h.
    on_ok c.insert.result
    (λ e. subst (λ (known : Known). IsKnown known (after_install b c.args.t)) (λ i. record c.args.self.now { voted = sym c.remove.ensures.rest i; installed = sym e i }) (known_install c.args.self.now b c.args.t h k))
    c.insert.ensures.ok
