-- What a fault leaves behind an event: sessions are in no file, and a step told in another way leaves the same.
use Rattle.std.proofs.Common.{◌≡◌, ℕ, Bool, true, false, not, Option, sym, subst}
use Rattle.co_durable.specs.declared.fault.WorldFault.{WorldFault}
use Rattle.co_outside.specs.Home.{File}
use Rattle.co_outside.specs.declared.spot.Spot.{Spot}
use Rattle.co_plain.specs.Federation.{Federation, Stepped, at_coord, at_member, message_list, with_coord, with_member, with_session}
use Rattle.co_plain.specs.Step.{coord_answers, disarmed, is_held, is_stopped, local_answers, marked_asked}
use Rattle.co_plain.specs.declared.coord_state.CoordState.{CoordState}
use Rattle.co_plain.specs.declared.coord_step.CoordStep.{CoordStep as PlainCoordStep}
use Rattle.co_plain.specs.declared.member_state.MemberState.{MemberState}
use Rattle.co_plain.specs.declared.member_step.MemberStep.{MemberStep as PlainMemberStep}
use Rattle.co_plain.specs.declared.session.Session.{Session}
use Rattle.co_cluster.specs.Left.{HasOverlong, OverlongMember, OverlongCoord, AreLeftAs, AreLeftBy, AreLeftWith}
use Rattle.co_cluster.proofs.Lefts.{either_left, noted_left, noted_overlong}

-- ---- a step told in another way

pub left_as : (file : Spot → Option File) (before : Federation) (fault : WorldFault) (after then whole all : Stepped) → after ≡ then → whole ≡ all → AreLeftBy file before after.state whole.state fault →
    AreLeftBy file before then.state all.state fault
left_as file before fault after then whole all one two left =
    subst (λ (d : Stepped). AreLeftBy file before then.state d.state fault) two (subst (λ (d : Stepped). AreLeftBy file before d.state whole.state fault) one left)

module _ (file : Spot → Option File) (s : Federation) where
  -- ---- what a node did, whatever its answer

  pub at_coord_left : (c : ℕ) (did : PlainCoordStep) → AreLeftAs file (with_coord s c did.state) → AreLeftAs file (at_coord s c did).state
  at_coord_left c did left = noted_left file (with_coord s c did.state) did.marks did.sent left

  pub at_coord_overlong : (c : ℕ) (did : PlainCoordStep) (spot : Spot) → HasOverlong (with_coord s c did.state) spot → HasOverlong (at_coord s c did).state spot
  at_coord_overlong c did spot long = noted_overlong (with_coord s c did.state) did.marks did.sent spot long

  pub at_member_overlong : (m : ℕ) (did : PlainMemberStep) (spot : Spot) → HasOverlong (with_member s m did.state) spot → HasOverlong (at_member s m did).state spot
  at_member_overlong m did spot long = noted_overlong (with_member s m did.state) did.marks (message_list did.sent) spot long

  pub at_member_left : (m : ℕ) (did : PlainMemberStep) → AreLeftAs file (with_member s m did.state) → AreLeftAs file (at_member s m did).state
  at_member_left m did left = noted_left file (with_member s m did.state) did.marks (message_list did.sent) left

  -- ---- a transaction is begun

  pub unbegun_left : (t : ℕ) (session : Session) → AreLeftAs file (with_session s t session) → AreLeftAs file s
  unbegun_left t session left = record { member = left.member; coord = left.coord }

  -- by a coordinator that meets a fault
  pub begun_left : (t : ℕ) (session : Session) (c : ℕ) (after : Federation) (did : PlainCoordStep) (fault : WorldFault) → AreLeftWith file (with_session s t session) (with_coord (disarmed (with_session s t session)) c did.state) fault →
      AreLeftBy file s after (at_coord (with_session (disarmed s) t session) c did).state fault
  begun_left t session c after did fault left =
      let other = with_coord (disarmed (with_session s t session)) c did.state in
      either_left file s (with_session s t session) after (at_coord (with_session (disarmed s) t session) c did).state other fault (unbegun_left t session) (noted_left file other did.marks did.sent) (noted_overlong other did.marks did.sent) left

  -- ---- a transaction is ended

  marked_coord_left : (t : ℕ) (session : Session) (b : Bool) (c : ℕ) (y : CoordState) → AreLeftAs file (with_coord s c y) → AreLeftAs file (with_coord (marked_asked s t session b) c y)
  marked_coord_left t session true c y left = record { member = left.member; coord = left.coord }
  marked_coord_left t session false c y left = left

  marked_member_left : (t : ℕ) (session : Session) (b : Bool) (m : ℕ) (x : MemberState) → AreLeftAs file (with_member s m x) → AreLeftAs file (with_member (marked_asked s t session b) m x)
  marked_member_left t session true m x left = record { member = left.member; coord = left.coord }
  marked_member_left t session false m x left = left

  pub coord_answers_left : (t : ℕ) (session : Session) (c : ℕ) (up : Bool) (did : PlainCoordStep) → up ≡ true → AreLeftAs file (with_coord s c did.state) → AreLeftAs file (coord_answers s t session c up did).state
  coord_answers_left t session c up did is left =
      let b = not (is_stopped did.answer) in
      let done = noted_left file (with_coord (marked_asked s t session b) c did.state) did.marks did.sent (marked_coord_left t session b c did.state left) in
      subst (λ (k : Bool). AreLeftAs file (coord_answers s t session c k did).state) (sym is) done

  pub local_answers_left : (t : ℕ) (session : Session) (m : ℕ) (up : Bool) (did : PlainMemberStep) → up ≡ true → AreLeftAs file (with_member s m did.state) → AreLeftAs file (local_answers s t session m up did).state
  local_answers_left t session m up did is left =
      let b = not (is_held did.answer) in
      let done = noted_left file (with_member (marked_asked s t session b) m did.state) did.marks (message_list did.sent) (marked_member_left t session b m did.state left) in
      subst (λ (k : Bool). AreLeftAs file (local_answers s t session m k did).state) (sym is) done

  marked_coord_overlong : (t : ℕ) (session : Session) (b : Bool) (c : ℕ) (y : CoordState) (spot : Spot) → HasOverlong (with_coord s c y) spot → HasOverlong (with_coord (marked_asked s t session b) c y) spot
  marked_coord_overlong t session true c y spot (OverlongMember m low high long own) = OverlongMember m low high long own
  marked_coord_overlong t session true c y spot (OverlongCoord k low high long own) = OverlongCoord k low high long own
  marked_coord_overlong t session false c y spot long = long

  marked_member_overlong : (t : ℕ) (session : Session) (b : Bool) (m : ℕ) (x : MemberState) (spot : Spot) → HasOverlong (with_member s m x) spot → HasOverlong (with_member (marked_asked s t session b) m x) spot
  marked_member_overlong t session true m x spot (OverlongMember k low high long own) = OverlongMember k low high long own
  marked_member_overlong t session true m x spot (OverlongCoord c low high long own) = OverlongCoord c low high long own
  marked_member_overlong t session false m x spot long = long

  pub coord_answers_overlong : (t : ℕ) (session : Session) (c : ℕ) (up : Bool) (did : PlainCoordStep) → up ≡ true → (spot : Spot) → HasOverlong (with_coord s c did.state) spot → HasOverlong (coord_answers s t session c up did).state spot
  coord_answers_overlong t session c up did is spot long =
      let b = not (is_stopped did.answer) in
      let done = noted_overlong (with_coord (marked_asked s t session b) c did.state) did.marks did.sent spot (marked_coord_overlong t session b c did.state spot long) in
      subst (λ (k : Bool). HasOverlong (coord_answers s t session c k did).state spot) (sym is) done

  pub local_answers_overlong : (t : ℕ) (session : Session) (m : ℕ) (up : Bool) (did : PlainMemberStep) → up ≡ true → (spot : Spot) → HasOverlong (with_member s m did.state) spot → HasOverlong (local_answers s t session m up did).state spot
  local_answers_overlong t session m up did is spot long =
      let b = not (is_held did.answer) in
      let done = noted_overlong (with_member (marked_asked s t session b) m did.state) did.marks (message_list did.sent) spot (marked_member_overlong t session b m did.state spot long) in
      subst (λ (k : Bool). HasOverlong (local_answers s t session m k did).state spot) (sym is) done
