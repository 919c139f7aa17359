use Rattle.std.proofs.Common.{◌≡◌, sym, subst, ◌∙◌}
use Rattle.std.specs.Prelude.{IfOk}
use Rattle.co_plain.specs.declared.member_step.MemberStep.{MemberStep}
use Rattle.co_member.proofs.Operating.{operates}
use Rattle.co_member.proofs.running.Running.op.Goals as goal

pub returns-clause-answer : goal.returns-clause-answer
returns-clause-answer g c = λ kind x s may.
    let same = c.if-kept-carried.false in
    let kept = sym (c.kept-kept.ensures.counted x.engine x.asked s.undecided) ∙ same in
    let is = operates x c.args.t c.args.carried c.args.op.now kept (λ e. c.if-kept-eq-MOST_OPERATIONS.false (same ∙ e)) in
    subst (λ (step : MemberStep). IfOk c.operate.result (λ a. a ≡ step.answer)) is (c.operate.ensures.answer kind x s may)
