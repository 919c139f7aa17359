use Rattle.std.proofs.Common.{Bool, refl, sym, subst, ◌∙◌}
use Rattle.std.specs.Prelude.{None}
use Rattle.co_message.specs.declared.answer.Answer.TheVariants as answer
use Rattle.co_plain.specs.MemberLog.{restart_by}
use Rattle.co_member.specs.Standing.{HasDone}
use Rattle.co_member.proofs.member.Member.restart.Goals as goal

pub returns-then-is_some-clause-did : goal.returns-then-is_some-clause-did
returns-then-is_some-clause-did g c = λ x r.
    let up = r.up ∙ sym c.is_some.ensures ∙ c.if-is_some.true in
    subst (λ (b : Bool). HasDone g.E.Engine.stands_for (restart_by x b) (record { answer = answer.Running; sent = None; marks = c.new.result }) c.args.self.now) (sym up)
    (record { answer = refl; sent = refl; marks = c.new.ensures; state = r })
