use Rattle.std.proofs.Common.{Option, None, Some, sym, ap, ◌∙◌, subst}
use Rattle.co_engine.specs.declared.answers.Seen.TheVariants.{Answer}
use Rattle.co_plain_engine.specs.declared.plain.PlainEngine.{PlainEngine}
use Rattle.co_plain_engine.specs.Plain.{StandsFor}
use Rattle.co_engine.proofs.Answering.{seen_alike, after_seen}
use Rattle.co_plain_engine.proofs.Standing.{blocker_alike, reply_alike, stands_with}
use Rattle.co_plain_engine.proofs.plain.PlainEngine.operate.Goals as goal

pub returns-in-Some-clause-seen : goal.returns-in-Some-clause-seen
returns-in-Some-clause-seen c = λ b s h.
    seen_alike b c.args.t c.args.op (Some c.in-Some.holder) (sym c.in-Some.is ∙ c.blocker.ensures ∙ blocker_alike c.args.self.now b c.args.t c.args.op s)

pub returns-in-Some-clause-state : goal.returns-in-Some-clause-state
returns-in-Some-clause-state c = λ b s h.
    subst (λ (o : Option _). StandsFor c.args.self.now (after_seen b c.args.t c.args.op o)) (sym c.in-Some.is ∙ c.blocker.ensures ∙ blocker_alike c.args.self.now b c.args.t c.args.op s) s

pub returns-clause-seen : goal.returns-clause-seen
returns-clause-seen c = λ b s h.
    ap Answer (c.in_ok-reply.ensures ∙ reply_alike c.args.self.now b c.args.t c.args.op s h)
    ∙ seen_alike b c.args.t c.args.op None (sym c.in_default.is ∙ c.blocker.ensures ∙ blocker_alike c.args.self.now b c.args.t c.args.op s)

pub returns-clause-state : goal.returns-clause-state
returns-clause-state c = λ b s h.
    subst (λ (o : Option _). StandsFor c.add.new.self (after_seen b c.args.t c.args.op o)) (sym c.in_default.is ∙ c.blocker.ensures ∙ blocker_alike c.args.self.now b c.args.t c.args.op s)
    (subst (λ (p : PlainEngine). StandsFor p (after_seen b c.args.t c.args.op None)) (sym c.in_ok-add.ensures) (stands_with c.args.self.now b c.args.t c.args.op s h))
