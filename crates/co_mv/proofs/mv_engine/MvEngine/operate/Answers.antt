use Rattle.std.proofs.Common.{ℕ, Option, if◌then◌else◌, is_some, ap, ◌∙◌, subst}
use Rattle.co_engine.specs.declared.answers.Seen.TheVariants.{Answer}
use Rattle.co_engine.specs.Calls.{seen_by}
use Rattle.co_mv.specs.Kept.{StandsFor}
use Rattle.co_mv.proofs.Standing.{not_blocked}
use Rattle.co_state.specs.Effects.{with_operation}
use Rattle.co_state.specs.ReadRule.{operation_reply}
use Rattle.co_mv.proofs.mv_engine.MvEngine.operate.Goals as goal

pub returns-clause-seen : goal.returns-clause-seen
returns-clause-seen c = λ b s h.
    ap Answer (c.in_ok-reply.ensures b s h) ∙ ap (λ o. seen_by o (operation_reply b c.args.t c.args.op.now)) (not_blocked c.args.self.now b c.args.t c.args.op.now s)

pub returns-clause-state : goal.returns-clause-state
returns-clause-state c = λ b s h.
    subst (λ (o : Option ℕ). StandsFor c.add.new.self (if is_some o then b else with_operation b c.args.t c.args.op.now)) (not_blocked c.args.self.now b c.args.t c.args.op.now s) (c.in_ok-add.ensures.state b s h)
