use Rattle.std.proofs.Common.{sym, ◌∙◌, subst}
use Rattle.co_state.specs.Effects.{after_install}
use Rattle.co_state.proofs.Tables.{on_ok}
use Rattle.co_plain_engine.specs.declared.plain.PlainEngine.{PlainEngine}
use Rattle.co_plain_engine.specs.Plain.{StandsFor}
use Rattle.co_plain_engine.proofs.Standing.{stands_install, install_absent}
use Rattle.co_plain_engine.proofs.plain.PlainEngineEngine.install.Goals as goal

pub returns-in-Some-clause-state : goal.returns-in-Some-clause-state
returns-in-Some-clause-state c = λ b s h.
    on_ok c.push.result
    (λ e. subst (λ (p : PlainEngine). StandsFor p (after_install b c.args.t)) (λ i. record c.args.self.now { installed = sym e i; undecided = sym c.take.ensures.rest i })
    (stands_install c.args.self.now b c.args.t c.in-Some.undecided s h (sym c.take.ensures.value ∙ c.in-Some.is)))
    c.push.ensures.ok

pub returns-in-None-clause-state : goal.returns-in-None-clause-state
returns-in-None-clause-state c = λ b s h. install_absent c.args.self.now b c.args.t s h (sym c.take.ensures.value ∙ c.in-None.is)
