-- What a client asks for, as one step of the plain federation.
use Rattle.std.proofs.Common.{◌≡◌, ℕ, Bool, true, false, List, [], ◌∷◌, length, Option, None, Some, refl, sym, ap, ◌∙◌}
use Rattle.co_base.specs.declared.node.Node.TheVariants as node
use Rattle.co_base.specs.declared.op.Op.{Op}
use Rattle.co_base.specs.declared.part.Part.{Part}
use Rattle.co_base.specs.declared.reply.Reply.{Reply}
use Rattle.co_message.specs.declared.answer.Answer.{Answer}
use Rattle.co_message.specs.declared.answer.Answer.TheVariants as answer
use Rattle.co_message.specs.declared.item.ItemKind.TheVariants as item
use Rattle.co_state.specs.Table.{look, holds}
use Rattle.co_plain.specs.Numbers.{IsAmong}
use Rattle.co_plain.specs.declared.coord_state.CoordState.{CoordState}
use Rattle.co_plain.specs.declared.member_state.MemberState.{MemberState}
use Rattle.co_plain.specs.declared.member_step.MemberStep.{MemberStep}
use Rattle.co_plain.specs.declared.session.Session.{Session}
use Rattle.co_plain.specs.Federation.{Federation, Stepped, answers, with_member, with_coord, noted, items_of, message_list}
use Rattle.co_plain.specs.Member.{member_op}
use Rattle.co_plain.specs.Sessions.{Refuses, Grants, leave_to_visit, leave_to_end, count_at, parts_of}
use Rattle.co_plain.specs.Step.{reply_in, entered, operated, operate_with, operate, marked_asked, coord_answers, local_answers, commit_at, commit_with, abort_at, abort_with}
use Rattle.co_world.specs.Calls.{coord_call, member_call, ended}
use Rattle.co_cluster.specs.Calls.{coord_does, member_does, CoordMay, MemberMay}
use Rattle.co_world.specs.declared.clients.Ending.{Ending}
use Rattle.co_world.specs.declared.clients.Ending.TheVariants as ending
use Rattle.co_cluster.specs.Conditions.{IsReady}
use Rattle.co_cluster.proofs.Ready.{neither, op_quiet}

module _ (s : Federation) (t : ℕ) where
  -- ---- operations

  pub operate_refused : (m : ℕ) (o : Op) (a : Answer) → leave_to_visit (look s.sessions t) m ≡ Refuses a → operate s t m o ≡ answers s a
  operate_refused m o a is = ap (operate_with s t m o) is

  module _ (m : ℕ) (o : Op) (session : Session) (may : leave_to_visit (look s.sessions t) m ≡ Grants session) where
    abbrev step_of : MemberStep
    step_of = member_op (s.member m) t (count_at session.told m) o

    pub operate_down : (s.member m).up ≡ false → operate s t m o ≡ answers s (answer.Down (node.Member m))
    operate_down down = ap (operate_with s t m o) may ∙ ap (λ b. operated s t session m o b step_of) down

    entered_beside : (r : Option Reply) →
        ◌≡◌ {A = Stepped} (record { state = noted (with_member (entered s t session m o r) m step_of.state) [] []; items = item.Answered step_of.answer ∷ [] })
        (record { state = entered (with_member s m step_of.state) t session m o r; items = item.Answered step_of.answer ∷ [] })
    entered_beside None = refl
    entered_beside (Some reply) = refl

    -- what is answered is entered, and nothing else is told
    pub operate_up : (s.member m).up ≡ true → operate s t m o ≡ record { state = entered (with_member s m step_of.state) t session m o (reply_in step_of.answer); items = item.Answered step_of.answer ∷ [] }
    operate_up up =
        let quiet = op_quiet (s.member m) t (count_at session.told m) o in
        ap (operate_with s t m o) may ∙ ap (λ b. operated s t session m o b step_of) up
        ∙ (λ i. record {
          state = noted (with_member (entered s t session m o (reply_in step_of.answer)) m step_of.state) (quiet.1 i) (message_list (quiet.0 i));
          items = items_of (quiet.1 i) (message_list (quiet.0 i)) step_of.answer;
        })
        ∙ entered_beside (reply_in step_of.answer)

  -- ---- ends

  pub ended_refused : (how : Ending) (a : Answer) → leave_to_end (look s.sessions t) ≡ Refuses a → ended s t how ≡ answers s a
  ended_refused ending.Commit a is = ap (commit_with s t) is
  ended_refused ending.Abort a is = ap (abort_with s t) is

  -- its coordinator is asked
  pub ended_by_coord : (how : Ending) (session : Session) (c : ℕ) → leave_to_end (look s.sessions t) ≡ Grants session → node.Coord c ≡ session.by →
      ended s t how ≡ coord_answers s t session c (s.coord c).up (coord_does c (coord_call how t (parts_of session.told)) (s.coord c))
  ended_by_coord ending.Commit session c may home = ap (commit_with s t) may ∙ ap (commit_at s t session) (sym home)
  ended_by_coord ending.Abort session c may home = ap (abort_with s t) may ∙ ap (abort_at s t session) (sym home)

  -- its member is asked
  pub ended_by_member : (how : Ending) (session : Session) (m : ℕ) → leave_to_end (look s.sessions t) ≡ Grants session → node.Member m ≡ session.by →
      ended s t how ≡ local_answers s t session m (s.member m).up (member_does m (member_call how t (count_at session.told m)) (s.member m))
  ended_by_member ending.Commit session m may home = ap (commit_with s t) may ∙ ap (commit_at s t session) (sym home)
  ended_by_member ending.Abort session m may home = ap (abort_with s t) may ∙ ap (abort_at s t session) (sym home)

  -- a session that is marked, beside a node that did something
  pub marked_by_coord : (session : Session) (b : Bool) (c : ℕ) (y : CoordState) → marked_asked (with_coord s c y) t session b ≡ with_coord (marked_asked s t session b) c y
  marked_by_coord session true c y = refl
  marked_by_coord session false c y = refl

  pub marked_by_member : (session : Session) (b : Bool) (m : ℕ) (x : MemberState) → marked_asked (with_member s m x) t session b ≡ with_member (marked_asked s t session b) m x
  marked_by_member session true m x = refl
  marked_by_member session false m x = refl

-- ---- what ends ask for

module _ (s : Federation) where
  -- a member commits or aborts alone while it is up
  pub ends_alone : IsReady s → (m : ℕ) → IsAmong m (length s.kinds) → (how : Ending) (t carried : ℕ) (session : Session) → leave_to_end (look s.sessions t) ≡ Grants session → (s.member m).up ≡ true →
      MemberMay s.coordinators (member_call how t carried) (s.member m)
  ends_alone ready m own ending.Commit t carried session may up = (
    up,
    (neither (holds (s.member m).engine.voted t) (holds (s.member m).committed t) (ready.whole.ended t m session may)).0,
    λ some granted. (ready.writable.member m own).alone t carried some granted,
  )
  ends_alone ready m own ending.Abort t carried session may up = up

  -- so is a coordinator asked
  pub ends_at_coord : (c : ℕ) (how : Ending) (t : ℕ) (parts : List Part) → (s.coord c).up ≡ true → CoordMay (length s.kinds) c (coord_call how t parts) (s.coord c)
  ends_at_coord c ending.Commit t parts up = up
  ends_at_coord c ending.Abort t parts up = up
