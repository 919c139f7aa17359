use Rattle.std.proofs.Common.{◌≡◌, Option, None, Some, sym, ap, ◌∙◌, subst}
use Rattle.co_state.specs.LockRule.{lock_blocker}
use Rattle.co_engine.specs.declared.answers.Seen.TheVariants.{Answer}
use Rattle.co_lock.specs.Standing.{StandsFor}
use Rattle.co_engine.proofs.Answering.{seen_alike, after_seen}
use Rattle.co_lock.proofs.engine.LockEngine.operate.Goals as goal

pub returns-in-Some-clause-seen : goal.returns-in-Some-clause-seen
returns-in-Some-clause-seen c = λ b s h.
    seen_alike b c.args.t c.args.op (Some c.in-Some.holder) (sym c.in-Some.is ∙ c.in_ok-found.ensures b s)

pub returns-in-Some-clause-state : goal.returns-in-Some-clause-state
returns-in-Some-clause-state c = λ b s h.
    subst (λ (o : Option _). StandsFor c.args.self.now (after_seen b c.args.t c.args.op o)) (sym c.in-Some.is ∙ c.in_ok-found.ensures b s) s

pub returns-clause-seen : goal.returns-clause-seen
returns-clause-seen c = λ b s h.
    let none : lock_blocker b c.args.t c.args.op ≡ None = sym (c.in_ok-found.ensures b s) ∙ c.in_default.is in
    ap Answer (c.in_ok-reply.ensures b s h none) ∙ seen_alike b c.args.t c.args.op None (sym none)

pub returns-clause-state : goal.returns-clause-state
returns-clause-state c = λ b s h.
    let none : lock_blocker b c.args.t c.args.op ≡ None = sym (c.in_ok-found.ensures b s) ∙ c.in_default.is in
    subst (λ (o : Option _). StandsFor c.add.new.self (after_seen b c.args.t c.args.op o)) (sym none) (c.in_ok-add.ensures b s h none)
