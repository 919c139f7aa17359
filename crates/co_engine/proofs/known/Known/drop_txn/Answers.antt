use Rattle.std.proofs.Common.{sym, subst}
use Rattle.co_engine.specs.declared.known.Known.{Known}
use Rattle.co_engine.specs.Known.{IsKnown}
use Rattle.co_state.specs.Effects.{after_drop}
use Rattle.co_engine.proofs.Knowing.{known_drop}
use Rattle.co_engine.proofs.known.Known.drop_txn.Goals as goal

pub returns : goal.returns
returns c = λ b k.
    subst (λ (known : Known). IsKnown known (after_drop b c.args.t)) (λ i. record c.args.self.now { active = sym c.remove.ensures.rest i; voted = sym c.remove-2.ensures.rest i }) (known_drop c.args.self.now b c.args.t k)
