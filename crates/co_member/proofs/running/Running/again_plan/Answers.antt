use Rattle.std.proofs.Common.{◌≡◌, sym, subst, ◌∙◌}
use Rattle.std.specs.Prelude.{IfOk}
use Rattle.co_plain.specs.declared.standing.Standing.{Standing}
use Rattle.co_member.specs.Plans.{again_plan, plan_of}
use Rattle.co_member.proofs.running.Running.again_plan.Goals as goal

pub returns-in-IsActive : goal.returns-in-IsActive
returns-in-IsActive g c = λ kind x s.
    let at = sym (c.standing.ensures kind x s) ∙ c.in-IsActive.is in
    subst (λ (st : Standing). IfOk c.asked_plan.result (λ course. plan_of course c.args.member x c.args.t ≡ again_plan c.args.member x c.args.t st)) (sym at) (c.asked_plan.ensures kind x s at)
