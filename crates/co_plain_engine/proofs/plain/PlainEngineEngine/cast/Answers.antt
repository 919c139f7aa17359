use Rattle.std.proofs.Common.{sym, subst}
use Rattle.co_state.specs.Effects.{after_cast}
use Rattle.co_plain_engine.specs.declared.plain.PlainEngine.{PlainEngine}
use Rattle.co_plain_engine.specs.Plain.{StandsFor}
use Rattle.co_plain_engine.proofs.Standing.{stands_cast}
use Rattle.co_plain_engine.proofs.plain.PlainEngineEngine.cast.Goals as goal

pub returns-clause-state : goal.returns-clause-state
returns-clause-state c = λ b coord count s h.
    subst (λ (p : PlainEngine). StandsFor p (after_cast b c.args.t coord count)) (λ i. record c.args.self.now { active = sym c.remove.ensures.rest i; undecided = sym c.cast.ensures i })
    (stands_cast c.args.self.now b c.args.t coord count s h)
