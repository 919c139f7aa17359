use Rattle.std.proofs.Common.{sym, subst}
use Rattle.co_state.specs.Effects.{after_drop}
use Rattle.co_plain_engine.specs.declared.plain.PlainEngine.{PlainEngine}
use Rattle.co_plain_engine.specs.Plain.{StandsFor}
use Rattle.co_plain_engine.proofs.Standing.{stands_drop}
use Rattle.co_plain_engine.proofs.plain.PlainEngineEngine.drop_txn.Goals as goal

pub returns-clause-state : goal.returns-clause-state
returns-clause-state c = λ b s h.
    subst (λ (p : PlainEngine). StandsFor p (after_drop b c.args.t)) (λ i. record c.args.self.now { active = sym c.remove.ensures.rest i; undecided = sym c.take.ensures.rest i })
    (stands_drop c.args.self.now b c.args.t s)
