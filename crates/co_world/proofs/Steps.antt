-- What a node did, as a step of the federation.
use Rattle.std.proofs.Common.{◌≡◌, ℕ, Bool, true, false, sym, ap}
use Rattle.co_base.specs.declared.node.Node.TheVariants as node
use Rattle.co_message.specs.declared.answer.Answer.TheVariants as answer
use Rattle.co_plain.specs.Federation.{Federation, answers, at_member, at_coord}
use Rattle.co_plain.specs.Step.{up_member, up_coord}
use Rattle.co_plain.specs.declared.coord_step.CoordStep.{CoordStep as PlainCoordStep}
use Rattle.co_plain.specs.declared.member_step.MemberStep.{MemberStep as PlainMemberStep}

-- by whether the node is up
pub member_is_down : (s : Federation) (m : ℕ) (up : Bool) (did : PlainMemberStep) → up ≡ false → answers s (answer.Down (node.Member m)) ≡ up_member s m up did
member_is_down s m up did is = ap (λ (b : Bool). up_member s m b did) (sym is)

pub member_is_up : (s : Federation) (m : ℕ) (up : Bool) (did : PlainMemberStep) → up ≡ true → at_member s m did ≡ up_member s m up did
member_is_up s m up did is = ap (λ (b : Bool). up_member s m b did) (sym is)

pub coord_is_down : (s : Federation) (c : ℕ) (up : Bool) (did : PlainCoordStep) → up ≡ false → answers s (answer.Down (node.Coord c)) ≡ up_coord s c up did
coord_is_down s c up did is = ap (λ (b : Bool). up_coord s c b did) (sym is)

pub coord_is_up : (s : Federation) (c : ℕ) (up : Bool) (did : PlainCoordStep) → up ≡ true → at_coord s c did ≡ up_coord s c up did
coord_is_up s c up did is = ap (λ (b : Bool). up_coord s c b did) (sym is)
