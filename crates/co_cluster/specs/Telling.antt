-- What a call of a node tells: the answer, what is sent and what became stable are those of the plain step.
use Rattle.std.specs.Prelude.{◌≡◌}
use Rattle.co_plain.specs.declared.coord_step.CoordStep.{CoordStep as PlainCoordStep}
use Rattle.co_plain.specs.declared.member_step.MemberStep.{MemberStep as PlainMemberStep}
use Rattle.co_coord.specs.declared.step.CoordStep.{CoordStep}
use Rattle.co_member.specs.declared.step.MemberStep.{MemberStep}

pub record IsTold (step : PlainMemberStep) (d : MemberStep) : Type 0 where
  pub answer : d.answer ≡ step.answer
  pub sent : d.sent ≡ step.sent
  pub marks : d.marks ≡ step.marks

pub record IsToldBy (step : PlainCoordStep) (d : CoordStep) : Type 0 where
  pub answer : d.answer ≡ step.answer
  pub sent : d.sent ≡ step.sent
  pub marks : d.marks ≡ step.marks
