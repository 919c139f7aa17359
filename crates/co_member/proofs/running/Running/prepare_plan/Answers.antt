use Rattle.std.proofs.Common.{◌≡◌, sym, ap, subst, ◌∙◌}
use Rattle.std.specs.Prelude.{IfOk}
use Rattle.co_state.specs.Table.{look, holds}
use Rattle.co_member.specs.Plans.{plan_of, prepare_plan}
use Rattle.co_member.specs.declared.plan.Plan.{Plan}
use Rattle.co_member.proofs.Changing.{balloted}
use Rattle.co_member.proofs.Standings.{unvoted_standing}
use Rattle.co_member.proofs.running.Running.prepare_plan.Goals as goal

pub returns-in-IsActive : goal.returns-in-IsActive
returns-in-IsActive g c = λ kind x s.
    let t = c.args.t in
    let at = c.standing.ensures kind x s in
    let unvoted = unvoted_standing (look x.engine.active t) (look x.engine.voted t) (holds x.committed t) c.standing.result (s.undecided.apart t) at c.in-IsActive.is in
    let is = sym (balloted c.args.member t c.args.coord c.args.count x c.standing.result c.in-IsActive.is) ∙ ap (prepare_plan c.args.member x t c.args.coord c.args.count) at in
    subst (λ (p : Plan). IfOk c.ballot_plan.result (λ course. plan_of course c.args.member x t ≡ p)) is (c.ballot_plan.ensures kind x s unvoted)
