use Rattle.std.proofs.Common.{◌≡◌, sym, ap, subst, ◌∙◌}
use Rattle.std.specs.Prelude.{IfOk}
use Rattle.co_message.specs.declared.message.Message.{Message}
use Rattle.co_member.specs.Plans.{decide_plan, deliver_plan, plan_of, txn_of}
use Rattle.co_member.proofs.running.Running.deliver_plan.Goals as goal

pub returns-in-Prepare : goal.returns-in-Prepare
returns-in-Prepare g c = λ kind x s.
    subst (λ (m : Message). IfOk c.prepare_plan.result (λ course. plan_of course c.args.member x (txn_of m) ≡ deliver_plan c.args.member x m)) (sym c.in-Prepare.is) (c.prepare_plan.ensures kind x s)

pub returns-in-Decide : goal.returns-in-Decide
returns-in-Decide g c = λ kind x s.
    let it = c.in-Decide in
    subst (λ (m : Message). c.decide_plan-plan.result ≡ deliver_plan c.args.member x m) (sym it.is) (c.decide_plan-plan.ensures ∙ ap (decide_plan c.args.member it.txn it.coord it.commit) (c.standing-standing.ensures kind x s))
