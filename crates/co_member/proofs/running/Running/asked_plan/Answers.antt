use Rattle.std.proofs.Common.{◌≡◌, Option, Some, sym, subst, ◌∙◌}
use Rattle.std.specs.Prelude.{IfOk}
use Rattle.co_plain.specs.declared.member_state.AskedMark.{AskedMark}
use Rattle.co_state.specs.Table.{look, holds}
use Rattle.co_member.specs.Plans.{asked_plan, plan_of}
use Rattle.co_member.proofs.Standings.{held_active, unvoted_active}
use Rattle.co_member.proofs.running.Running.asked_plan.Goals as goal

pub returns-in-Some : goal.returns-in-Some
returns-in-Some g c = λ kind x s at.
    let t = c.args.t in
    let active = held_active (holds x.engine.active t) (holds x.engine.voted t) (holds x.committed t) at in
    let unvoted = unvoted_active (look x.engine.active t) (look x.engine.voted t) (s.undecided.apart t) active in
    let mark : look x.asked t ≡ Some c.in-Some.field-0 = sym (c.mark_of.ensures x.engine x.asked s.undecided) ∙ c.in-Some.is in
    subst (λ (o : Option AskedMark). IfOk c.ballot_plan.result (λ course. plan_of course c.args.member x t ≡ asked_plan c.args.member x t o)) (sym mark) (c.ballot_plan.ensures kind x s unvoted)
