-- Each happening of the federation.
use Rattle.std.proofs.Common.{◌≡◌, ℕ, suc, ◌+◌, ◌*◌, ◌≤◌, Bool, true, false, if◌then◌else◌, Option, None, Some, refl, arith}
use Rattle.std.specs.Prelude.{not}
use Rattle.co_base.specs.declared.leaves.Leaves.{Leaves}
use Rattle.co_base.specs.declared.node.Node.{Node}
use Rattle.co_base.specs.declared.node.Node.TheVariants as node
use Rattle.co_base.specs.declared.op.Op.{Op}
use Rattle.co_base.specs.declared.op.Op.TheVariants as op
use Rattle.co_base.specs.declared.reply.Reply.{Reply}
use Rattle.co_message.specs.declared.answer.Answer.TheVariants as answer
use Rattle.co_message.specs.declared.event.Event.{Event}
use Rattle.co_message.specs.declared.event.Event.TheVariants as event
use Rattle.co_message.specs.declared.message.Message.{Message}
use Rattle.co_message.specs.declared.message.Message.TheVariants as message
use Rattle.co_serial.specs.SerialRun.{with_at}
use Rattle.co_state.specs.Table.{Table, look, put}
use Rattle.co_plain.specs.declared.coord_state.CoordState.{CoordState}
use Rattle.co_plain.specs.declared.coord_step.CoordStep.{CoordStep}
use Rattle.co_plain.specs.declared.happening.Happening.{Happening}
use Rattle.co_plain.specs.declared.happening.Happening.TheVariants as happening
use Rattle.co_plain.specs.declared.member_state.MemberState.{MemberState}
use Rattle.co_plain.specs.declared.member_step.MemberStep.{MemberStep}
use Rattle.co_plain.specs.declared.session.Session.{Session}
use Rattle.co_plain.specs.declared.session.Told.{Told}
use Rattle.co_plain.specs.Coordinator.{coord_begin, coord_commit, coord_abort, coord_deliver, coord_timer, coord_resend}
use Rattle.co_plain.specs.CoordLog.{coord_checkpoint, coord_crash, coord_restart, coord_arm}
use Rattle.co_plain.specs.Federation.{Federation, Stepped, answers, at_member, at_coord}
use Rattle.co_plain.specs.LocalCommit.{member_local_commit, member_local_abort}
use Rattle.co_plain.specs.Member.{member_op, member_deliver, member_vote, member_timer, member_ask, member_decide, coord_of}
use Rattle.co_plain.specs.MemberLog.{member_checkpoint, member_crash, member_restart, member_arm}
use Rattle.co_plain.specs.Sessions.{Refuses, Grants, leave_to_visit, leave_to_end, may_visit, count_at, parts_of, begun_by, with_told, asked_to_end}
use Rattle.co_plain.specs.Step.{up_member, member_step, up_coord, coord_step, is_used, begin_where, local_where, reply_in, entered, operated, operate_with, operate, is_stopped, is_held, marked_asked, coord_answers, local_answers, commit_at, commit_with, abort_at, abort_with, arrives, deliver, timer_at, crash_at, restart_at, arm_at, checkpoint_at, step_line, step}
use Rattle.co_plain.specs.Wire.{was_sent}
use Rattle.co_law_base.proofs.Carrying.{at_each}
use Rattle.co_law_sizes.specs.LogRoom.{op_bytes, event_bytes, happening_bytes, event_checkpoints, happening_checkpoints}
use Rattle.co_law_sizes.proofs.LightMembers.{Light, light_more}
use Rattle.co_law_sizes.proofs.LightCoords.{LightCoord, coord_more}
use Rattle.co_law_sizes.proofs.MemberEvents as members
use Rattle.co_law_sizes.proofs.CoordEvents as coords
use Rattle.co_law_sizes.proofs.ToldSessions.{open_told, begun_told, more_told, asked_told, ended_told}

-- ---- all nodes

pub record Lights (spent generation : ℕ) (member : ℕ → MemberState) (coord : ℕ → CoordState) (sessions : Table Session) : Type 0 where
  pub members : (m : ℕ) → Light spent generation (member m)
  pub coords : (c : ℕ) → LightCoord (31 + 3 * spent) generation (open_told sessions) (coord c)

abbrev pub AreLight : ℕ → ℕ → Federation → Type 0
AreLight n g s = Lights n g s.member s.coord s.sessions

module _ (s : Federation) (n g : ℕ) (l : AreLight n g s) (b c : ℕ) where
  abbrev Next : Stepped → Type 0
  Next z = AreLight (10 + b + n) (c + g) z.state

  member_on : (x : MemberState) → Light n g x → Light (10 + b + n) (c + g) x
  member_on x k = light_more n g (10 + b + n) (c + g) x (omega arith) (omega arith) k

  coord_on : (sessions : Table Session) → open_told sessions ≤ 1 + open_told s.sessions → (y : CoordState) → LightCoord (31 + 3 * n) g (open_told s.sessions) y →
      LightCoord (31 + 3 * (10 + b + n)) (c + g) (open_told sessions) y
  coord_on sessions few y k = coord_more (31 + 3 * n) g (open_told s.sessions) y (31 + 3 * (10 + b + n)) (c + g) (open_told sessions) (omega (arith, few)) (omega arith) k

  -- a member changes, or a coordinator, or a session alone
  by_member : (sessions : Table Session) → open_told sessions ≤ 1 + open_told s.sessions → (m : ℕ) (x : MemberState) → Light (10 + b + n) (c + g) x →
      Lights (10 + b + n) (c + g) (with_at s.member m x) s.coord sessions
  by_member sessions few m x new =
      record {
        members = at_each (λ k z. Light (10 + b + n) (c + g) z) s.member m x new (λ k. member_on (s.member k) (l.members k));
        coords = λ k. coord_on sessions few (s.coord k) (l.coords k);
      }

  by_coord : (sessions : Table Session) → open_told sessions ≤ 1 + open_told s.sessions → (d : ℕ) (y : CoordState) →
      LightCoord (31 + 3 * (10 + b + n)) (c + g) (open_told sessions) y → Lights (10 + b + n) (c + g) s.member (with_at s.coord d y) sessions
  by_coord sessions few d y new =
      record {
        members = λ k. member_on (s.member k) (l.members k);
        coords = at_each (λ k z. LightCoord (31 + 3 * (10 + b + n)) (c + g) (open_told sessions) z) s.coord d y new (λ k. coord_on sessions few (s.coord k) (l.coords k));
      }

  by_session : (sessions : Table Session) → open_told sessions ≤ 1 + open_told s.sessions → Lights (10 + b + n) (c + g) s.member s.coord sessions
  by_session sessions few =
      record { members = λ k. member_on (s.member k) (l.members k); coords = λ k. coord_on sessions few (s.coord k) (l.coords k) }

  same : Lights (10 + b + n) (c + g) s.member s.coord s.sessions
  same = by_session s.sessions (omega arith)

  -- what a member, or a coordinator, made of an event that is no operation
  spent : (x : MemberState) → Light (10 + n) g x → Light (10 + b + n) (c + g) x
  spent x k = light_more (10 + n) g (10 + b + n) (c + g) x (omega arith) (omega arith) k

  taken : (sessions : Table Session) → open_told sessions ≤ open_told s.sessions → (y : CoordState) → LightCoord (30 + (31 + 3 * n)) g (open_told s.sessions) y →
      LightCoord (31 + 3 * (10 + b + n)) (c + g) (open_told sessions) y
  taken sessions few y k = coord_more (30 + (31 + 3 * n)) g (open_told s.sessions) y (31 + 3 * (10 + b + n)) (c + g) (open_told sessions) (omega (arith, few)) (omega arith) k

  at_one : (m : ℕ) (does : MemberState → MemberStep) → ((x : MemberState) → Light n g x → Light (10 + n) g (does x).state) → Next (member_step s m does)
  at_one m does keeps = by (s.member m).up
    where
      by : (u : Bool) → Next (up_member s m u (does (s.member m)))
      by true = by_member s.sessions (omega arith) m (does (s.member m)).state (spent (does (s.member m)).state (keeps (s.member m) (l.members m)))
      by false = same

  at_one_coord : (d : ℕ) (does : CoordState → CoordStep) →
      ((y : CoordState) → LightCoord (31 + 3 * n) g (open_told s.sessions) y → LightCoord (30 + (31 + 3 * n)) g (open_told s.sessions) (does y).state) → Next (coord_step s d does)
  at_one_coord d does keeps = by (s.coord d).up
    where
      by : (u : Bool) → Next (up_coord s d u (does (s.coord d)))
      by true = by_coord s.sessions (omega arith) d (does (s.coord d)).state (taken s.sessions (omega arith) (does (s.coord d)).state (keeps (s.coord d) (l.coords d)))
      by false = same

  -- ---- who begins

  begins : (t d : ℕ) (used up : Bool) → Next (begin_where s t d used up)
  begins t d true up = same
  begins t d false true =
      let few = begun_told s.sessions t (node.Coord d) in
      by_coord (put s.sessions t (begun_by (node.Coord d))) (omega (arith, few)) d (coord_begin (s.coord d) t).state
      (taken (put s.sessions t (begun_by (node.Coord d))) few (coord_begin (s.coord d) t).state (coords.light_begin (31 + 3 * n) g (open_told s.sessions) d (s.coord d) (l.coords d) t))
  begins t d false false = same

  begins_alone : (t m : ℕ) (used up : Bool) → Next (local_where s t m used up)
  begins_alone t m true up = same
  begins_alone t m false true = by_session (put s.sessions t (begun_by (node.Member m))) (omega (arith, begun_told s.sessions t (node.Member m)))
  begins_alone t m false false = same

  -- ---- who asks for the end

  module _ (t : ℕ) (session : Session) (found : look s.sessions t ≡ Some session) (open_still : session.asked ≡ false) where
    after_asking : Table Session
    after_asking = put s.sessions t (asked_to_end session)

    commits : (by : Node) → Next (commit_at s t session by)
    unfolding after_asking
    commits (node.Coord d) = at_coord_up (s.coord d).up
      where
        did : CoordStep
        did = coord_commit d (s.coord d) t (parts_of session.told)

        marks : (q : Bool) → LightCoord (30 + (31 + 3 * n)) g (if q then open_told after_asking else open_told s.sessions) did.state →
            Next (at_coord (marked_asked s t session q) d did)
        marks true k =
            by_coord after_asking (omega (arith, asked_told s.sessions t session)) d did.state
            (coord_more (30 + (31 + 3 * n)) g (open_told after_asking) did.state (31 + 3 * (10 + b + n)) (c + g) (open_told after_asking) (omega arith) (omega arith) k)
        marks false k = by_coord s.sessions (omega arith) d did.state (taken s.sessions (omega arith) did.state k)

        at_coord_up : (u : Bool) → Next (coord_answers s t session d u did)
        at_coord_up true =
            marks (not (is_stopped did.answer))
            (coords.light_commit (31 + 3 * n) g (open_told s.sessions) d (s.coord d) (l.coords d) (open_told after_asking) t (parts_of session.told) (ended_told s.sessions t session found open_still))
        at_coord_up false = same
    commits (node.Member m) = at_member_up (s.member m).up
      where
        did : MemberStep
        did = member_local_commit m (s.member m) t (count_at session.told m)

        done : Light (10 + b + n) (c + g) did.state
        done = spent did.state (members.light_alone_commit n g m (s.member m) (l.members m) t (count_at session.told m))

        marks : (q : Bool) → Next (at_member (marked_asked s t session q) m did)
        marks true = by_member after_asking (omega (arith, asked_told s.sessions t session)) m did.state done
        marks false = by_member s.sessions (omega arith) m did.state done

        at_member_up : (u : Bool) → Next (local_answers s t session m u did)
        at_member_up true = marks (not (is_held did.answer))
        at_member_up false = same

    aborts : (by : Node) → Next (abort_at s t session by)
    unfolding after_asking
    aborts (node.Coord d) = at_coord_up (s.coord d).up
      where
        did : CoordStep
        did = coord_abort d (s.coord d) t (parts_of session.told)

        done : LightCoord (30 + (31 + 3 * n)) g (open_told s.sessions) did.state
        done = coords.light_abort (31 + 3 * n) g (open_told s.sessions) d (s.coord d) (l.coords d) t (parts_of session.told)

        marks : (q : Bool) → Next (at_coord (marked_asked s t session q) d did)
        marks true =
            by_coord after_asking (omega (arith, asked_told s.sessions t session)) d did.state (taken after_asking (asked_told s.sessions t session) did.state done)
        marks false = by_coord s.sessions (omega arith) d did.state (taken s.sessions (omega arith) did.state done)

        at_coord_up : (u : Bool) → Next (coord_answers s t session d u did)
        at_coord_up true = marks (not (is_stopped did.answer))
        at_coord_up false = same
    aborts (node.Member m) = at_member_up (s.member m).up
      where
        did : MemberStep
        did = member_local_abort (s.member m) t

        done : Light (10 + b + n) (c + g) did.state
        done = spent did.state (members.light_alone_abort n g m (s.member m) (l.members m) t)

        marks : (q : Bool) → Next (at_member (marked_asked s t session q) m did)
        marks true = by_member after_asking (omega (arith, asked_told s.sessions t session)) m did.state done
        marks false = by_member s.sessions (omega arith) m did.state done

        at_member_up : (u : Bool) → Next (local_answers s t session m u did)
        at_member_up true = marks (not (is_held did.answer))
        at_member_up false = same

  asks_commit : (t : ℕ) → Next (commit_with s t (leave_to_end (look s.sessions t)))
  asks_commit t = by (look s.sessions t) refl
    where
      granted : (session : Session) → look s.sessions t ≡ Some session → (a : Bool) → session.asked ≡ a → Next (commit_with s t (if a then Refuses answer.Asked else Grants session))
      granted session e true f = same
      granted session e false f = commits t session e f session.by

      by : (o : Option Session) → look s.sessions t ≡ o → Next (commit_with s t (leave_to_end o))
      by None e = same
      by (Some session) e = granted session e session.asked refl

  asks_abort : (t : ℕ) → Next (abort_with s t (leave_to_end (look s.sessions t)))
  asks_abort t = by (look s.sessions t) refl
    where
      granted : (session : Session) → look s.sessions t ≡ Some session → (a : Bool) → session.asked ≡ a → Next (abort_with s t (if a then Refuses answer.Asked else Grants session))
      granted session e true f = same
      granted session e false f = aborts t session e f session.by

      by : (o : Option Session) → look s.sessions t ≡ o → Next (abort_with s t (leave_to_end o))
      by None e = same
      by (Some session) e = granted session e session.asked refl

  -- ---- messages, timers and the rest

  come : (note : Message) → Next (arrives s note)
  come (message.Prepare t d m count) = at_one m (λ x. member_deliver m x (message.Prepare t d m count)) (λ x k. members.light_delivery n g m x k (message.Prepare t d m count))
  come (message.Decide t d m commit) = at_one m (λ x. member_deliver m x (message.Decide t d m commit)) (λ x k. members.light_delivery n g m x k (message.Decide t d m commit))
  come (message.Vote t m d granted) =
      at_one_coord d (λ y. coord_deliver d y (message.Vote t m d granted)) (λ y k. coords.light_delivery (31 + 3 * n) g (open_told s.sessions) d y k (message.Vote t m d granted))
  come (message.Ask t m d) = at_one_coord d (λ y. coord_deliver d y (message.Ask t m d)) (λ y k. coords.light_delivery (31 + 3 * n) g (open_told s.sessions) d y k (message.Ask t m d))
  come (message.Ack t m d) = at_one_coord d (λ y. coord_deliver d y (message.Ack t m d)) (λ y k. coords.light_delivery (31 + 3 * n) g (open_told s.sessions) d y k (message.Ack t m d))

  delivers : (note : Message) → Next (deliver s note)
  delivers note = by (was_sent s.sent note)
    where
      by : (sent : Bool) → Next (if sent then arrives s note else answers s answer.Unsent)
      by true = come note
      by false = same

  fires : (t : ℕ) (at : Node) → Next (timer_at s t at)
  fires t (node.Member m) = at_one m (λ x. member_timer x t) (λ x k. members.light_timer n g m x k t)
  fires t (node.Coord d) = at_one_coord d (λ y. coord_timer d y t) (λ y k. coords.light_timer (31 + 3 * n) g (open_told s.sessions) d y k t)

  crashes : (at : Node) → Next (crash_at s at)
  crashes (node.Member m) = at_one m member_crash (λ x k. members.light_crashed n g m x k)
  crashes (node.Coord d) = at_one_coord d coord_crash (λ y k. coords.light_crash (31 + 3 * n) g (open_told s.sessions) d y k)

  restarts : (at : Node) → Next (restart_at s at)
  restarts (node.Member m) =
      by_member s.sessions (omega arith) m (member_restart (s.member m)).state (spent (member_restart (s.member m)).state (members.light_restart n g m (s.member m) (l.members m)))
  restarts (node.Coord d) =
      by_coord s.sessions (omega arith) d (coord_restart (s.coord d)).state
      (taken s.sessions (omega arith) (coord_restart (s.coord d)).state (coords.light_restart (31 + 3 * n) g (open_told s.sessions) d (s.coord d) (l.coords d)))

  arms : (call : ℕ) (leaves : Leaves) (at : Node) → Next (arm_at s call leaves at)
  arms call leaves (node.Member m) = at_one m (λ x. member_arm x call leaves) (λ x k. members.light_arming n g m x k call leaves)
  arms call leaves (node.Coord d) =
      at_one_coord d (λ y. coord_arm y call leaves) (λ y k. coords.light_arming (31 + 3 * n) g (open_told s.sessions) d y k call leaves)

-- an operation spends its own bytes too, and its client is told of one more
operates : (s : Federation) (n g : ℕ) → AreLight n g s → (t m : ℕ) (o : Op) → AreLight (10 + op_bytes o + n) (0 + g) (operate s t m o).state
operates s n g l t m o = by (look s.sessions t) refl
  where
    same' : AreLight (10 + op_bytes o + n) (0 + g) s
    same' = same s n g l (op_bytes o) 0

    did : Session → MemberStep
    did session = member_op (s.member m) t (count_at session.told m) o

    done : (session : Session) → Light (10 + op_bytes o + n) (0 + g) (did session).state
    done session =
        light_more (10 + op_bytes o + n) g (10 + op_bytes o + n) (0 + g) (did session).state (omega arith) (omega arith)
        (members.light_operation n g m (s.member m) (l.members m) t (count_at session.told m) o)

    enters : (session : Session) → look s.sessions t ≡ Some session → (r : Option Reply) → AreLight (10 + op_bytes o + n) (0 + g) (at_member (entered s t session m o r) m (did session)).state
    enters session e None = by_member s n g l (op_bytes o) 0 s.sessions (omega arith) m (did session).state (done session)
    enters session e (Some reply) =
        let told : Told = record { site = record { member = m; op = o }; reply = reply } in
        by_member s n g l (op_bytes o) 0 (put s.sessions t (with_told session told)) (more_told s.sessions t session told e) m (did session).state (done session)

    runs : (session : Session) → look s.sessions t ≡ Some session → (u : Bool) → AreLight (10 + op_bytes o + n) (0 + g) (operated s t session m o u (did session)).state
    runs session e true = enters session e (reply_in (did session).answer)
    runs session e false = same'

    granted : (session : Session) → look s.sessions t ≡ Some session → (v a : Bool) →
        AreLight (10 + op_bytes o + n) (0 + g) (operate_with s t m o (if v then (if a then Refuses answer.Asked else Grants session) else Refuses answer.NotBegun)).state
    granted session e true true = same'
    granted session e true false = runs session e (s.member m).up
    granted session e false a = same'

    by : (p : Option Session) → look s.sessions t ≡ p → AreLight (10 + op_bytes o + n) (0 + g) (operate_with s t m o (leave_to_visit p m)).state
    by None e = same'
    by (Some session) e = granted session e (may_visit session.by m) session.asked

-- a checkpoint may raise a generation by one
checkpoints : (s : Federation) (n g : ℕ) → AreLight n g s → (at : Node) → AreLight (10 + 0 + n) (1 + g) (checkpoint_at s at).state
checkpoints s n g l (node.Member m) = by (s.member m).up
  where
    by : (u : Bool) → AreLight (10 + 0 + n) (1 + g) (up_member s m u (member_checkpoint m (s.member m))).state
    by true =
        by_member s n g l 0 1 s.sessions (omega arith) m (member_checkpoint m (s.member m)).state
        (light_more (10 + n) (suc g) (10 + 0 + n) (1 + g) (member_checkpoint m (s.member m)).state (omega arith) (omega arith) (members.light_filled n g m (s.member m) (l.members m)))
    by false = same s n g l 0 1
checkpoints s n g l (node.Coord d) = by (s.coord d).up
  where
    by : (u : Bool) → AreLight (10 + 0 + n) (1 + g) (up_coord s d u (coord_checkpoint d (s.coord d))).state
    by true =
        by_coord s n g l 0 1 s.sessions (omega arith) d (coord_checkpoint d (s.coord d)).state
        (coord_more (30 + (31 + 3 * n)) (suc g) (open_told s.sessions) (coord_checkpoint d (s.coord d)).state (31 + 3 * (10 + 0 + n)) (1 + g) (open_told s.sessions) (omega arith) (omega arith)
        (coords.light_checkpoint (31 + 3 * n) g (open_told s.sessions) d (s.coord d) (l.coords d)))
    by false = same s n g l 0 1

light_line : (s : Federation) (n g : ℕ) → AreLight n g s → (e : Event) → AreLight (10 + event_bytes e + n) (event_checkpoints e + g) (step_line s e).state
light_line s n g l (event.Begin t c) = begins s n g l 0 0 t c (is_used s t) (s.coord c).up
light_line s n g l (event.Local t m) = begins_alone s n g l 0 0 t m (is_used s t) (s.member m).up
light_line s n g l (event.Read t m key) = operates s n g l t m (op.Read key)
light_line s n g l (event.Write t m key value) = operates s n g l t m (op.Write key value)
light_line s n g l (event.Erase t m key) = operates s n g l t m (op.Erase key)
light_line s n g l (event.Scan t m span) = operates s n g l t m (op.Scan span)
light_line s n g l (event.Commit t) = asks_commit s n g l 0 0 t
light_line s n g l (event.Abort t) = asks_abort s n g l 0 0 t
light_line s n g l (event.Deliver note) = delivers s n g l 0 0 note
light_line s n g l (event.Vote t m) = at_one s n g l 0 0 m (λ x. member_vote m x t) (λ x k. members.light_vote n g m x k t)
light_line s n g l (event.Timer t at) = fires s n g l 0 0 t at
light_line s n g l (event.Ask t m) = at_one s n g l 0 0 m (λ x. member_ask m x t) (λ x k. members.light_question n g m x k t)
light_line s n g l (event.Resend t c) =
    at_one_coord s n g l 0 0 c (λ y. coord_resend c y t) (λ y k. coords.light_resend (31 + 3 * n) g (open_told s.sessions) c y k t)
light_line s n g l (event.Crash at) = crashes s n g l 0 0 at
light_line s n g l (event.Restart at) = restarts s n g l 0 0 at
light_line s n g l (event.Arm at call leaves) = arms s n g l 0 0 call leaves at
light_line s n g l (event.Checkpoint at) = checkpoints s n g l at

pub light_step : (s : Federation) (n g : ℕ) → AreLight n g s → (h : Happening) → AreLight (10 + happening_bytes h + n) (happening_checkpoints h + g) (step s h).state
light_step s n g l (happening.Line e) = light_line s n g l e
light_step s n g l (happening.Hand t m commit) =
    at_one s n g l 0 0 m (λ x. member_decide m x t (coord_of x t) commit) (λ x k. members.light_decision n g m x k t (coord_of x t) commit)
light_step s n g l happening.Disarm =
    record {
      members = λ m. spent s n g l 0 0 _ (members.light_disarmed n g m (s.member m) (l.members m));
      coords = λ d. taken s n g l 0 0 s.sessions (omega arith) _ (coords.light_disarmed (31 + 3 * n) g (open_told s.sessions) d (s.coord d) (l.coords d));
    }
