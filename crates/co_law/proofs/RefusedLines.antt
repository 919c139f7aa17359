-- Each event beside what refuses it before a node is asked; and a line that is refused, there or by its node, leaves the state as it was.
use Rattle.std.proofs.Common.{◌≡◌, ℕ, Bool, true, false, not, ◌==◌, if◌then◌else◌, Option, None, Some, sym, ap, ◌∙◌, subst}
use Rattle.co_base.specs.declared.leaves.Leaves.{Leaves}
use Rattle.co_base.specs.declared.node.Node.{Node}
use Rattle.co_base.specs.declared.node.Node.TheVariants as node
use Rattle.co_base.specs.declared.op.Op.{Op}
use Rattle.co_base.specs.declared.op.Op.TheVariants as op
use Rattle.co_base.specs.Limits.{most_operations}
use Rattle.co_message.specs.declared.answer.Answer.{Answer}
use Rattle.co_message.specs.declared.answer.Answer.TheVariants as answer
use Rattle.co_message.specs.declared.event.Event.{Event}
use Rattle.co_message.specs.declared.event.Event.TheVariants as event
use Rattle.co_message.specs.declared.message.Message.{Message}
use Rattle.co_message.specs.declared.message.Message.TheVariants as message
use Rattle.co_state.specs.Table.{look}
use Rattle.co_state.specs.LockRule.{lock_blocker}
use Rattle.co_state.specs.VotingRule.{kept_count}
use Rattle.co_plain.specs.declared.coord_step.CoordStep.{CoordStep}
use Rattle.co_plain.specs.declared.happening.Happening.{Happening}
use Rattle.co_plain.specs.declared.happening.Happening.TheVariants as happening
use Rattle.co_plain.specs.declared.member_state.MemberState.{MemberState}
use Rattle.co_plain.specs.declared.member_step.MemberStep.{MemberStep}
use Rattle.co_plain.specs.declared.session.Session.{Session}
use Rattle.co_plain.specs.Numbers.{counted}
use Rattle.co_plain.specs.Sessions.{Refuses, Grants, leave_to_visit, leave_to_end, may_visit, count_at, parts_of, begun_by}
use Rattle.co_plain.specs.Wire.{was_sent}
use Rattle.co_plain.specs.MemberStep.{says}
use Rattle.co_plain.specs.Member.{unless_blocked, coord_of, member_op, member_deliver, member_decide, member_vote, member_timer, member_ask}
use Rattle.co_plain.specs.MemberLog.{member_checkpoint, member_crash, member_restart, member_arm}
use Rattle.co_plain.specs.LocalCommit.{member_local_commit, member_local_abort}
use Rattle.co_plain.specs.Coordinator.{coord_begin, coord_commit, coord_abort, coord_deliver, coord_timer, coord_resend}
use Rattle.co_plain.specs.CoordLog.{coord_checkpoint, coord_crash, coord_restart, coord_arm}
use Rattle.co_plain.specs.Federation.{Federation, Stepped, message_list, answers, at_member, at_coord, with_session}
use Rattle.co_plain.specs.Step.{up_member, up_coord, is_used, begin_where, local_where, reply_in, entered, operated, operate_with, is_stopped, marked_asked, is_held, coord_answers, local_answers, commit_at, commit_with, abort_at, abort_with, arrives, timer_at, crash_at, restart_at, arm_at, checkpoint_at, step_line, step}
use Rattle.co_law_engine.proofs.YesTells.{in_some}
use Rattle.co_law.specs.Refusals.{IsRefusal, IsFirstRefusal, reply_told, refused_leave, receiver, decider, unless_up, refused_node, or_else, refusal}
use Rattle.co_law.proofs.Unchanged.{Unchanged, LeavesMember, reply_of, member_unchanged, member_admitted, coord_admitted, answer_unchanged}
use Rattle.co_law.proofs.Refusing.{refuses_op, admits_prepare, admits_decision, admits_vote, admits_timer, admits_question, admits_checkpoint, admits_restart, admits_local_commit, admits_local_abort, admits_commit, admits_abort, admits_coord_vote, admits_coord_question, admits_acknowledgement, admits_coord_timer, admits_resending, admits_coord_checkpoint, admits_coord_restart}

first_is : (a : Answer) → IsFirstRefusal a → IsRefusal a
first_is answer.Used r = tt
first_is answer.NotBegun r = tt
first_is answer.Asked r = tt
first_is answer.Unsent r = tt
first_is (answer.Down at) r = tt
first_is _ r = absurd r

-- A step beside what refuses it before its node is asked: that refusal is all that the step does, and where there is none, none
-- of this kind is told. Whatever else refuses it, the state stays.
pub record IsRefusedBy (s : Federation) (o : Option Answer) (z : Stepped) : Type 0 where
  pub refused : (a : Answer) → o ≡ Some a → z ≡ answers s a
  pub admitted : o ≡ None → (a : Answer) → reply_told z.items ≡ Some a → IsFirstRefusal a → ⊥
  pub unchanged : Unchanged s z

-- an operation is answered otherwise
op_answers : (x : MemberState) (t carried : ℕ) (o : Op) (b c : Bool) (u : Option ℕ) →
    IsFirstRefusal (if b then (if c then says x answer.TooMany else unless_blocked x t o u) else says x (answer.Gone (counted (kept_count x.engine t)) (counted carried))).answer → ⊥
op_answers x t carried o true true u r = r
op_answers x t carried o true false None r = r
op_answers x t carried o true false (Some u) r = r
op_answers x t carried o false c u r = r

module _ (s : Federation) where
  refuses : (a : Answer) → IsRefusedBy s (Some a) (answers s a)
  refuses a =
      record {
        refused = λ b e. ap (answers s) (in_some e);
        admitted = λ e. absurd (let z : Some a ≡ None = e in cc);
        unchanged = answer_unchanged s a;
      }

  -- a node that is asked answers otherwise
  asked_member : (z : Federation) (m : ℕ) (did : MemberStep) → (IsFirstRefusal did.answer → ⊥) → Unchanged s (at_member z m did) → IsRefusedBy s None (at_member z m did)
  asked_member z m did n same =
      record {
        refused = λ b e. absurd (let y : None ≡ Some b = e in cc);
        admitted = λ e a q r. n (subst IsFirstRefusal (in_some (sym q ∙ reply_of did.marks (message_list did.sent) did.answer)) r);
        unchanged = same;
      }

  by_member : (z : Federation) (m : ℕ) (did : MemberStep) → (IsRefusal did.answer → ⊥) → IsRefusedBy s None (at_member z m did)
  by_member z m did n = asked_member z m did (λ r. n (first_is did.answer r)) (member_admitted s z m did n)

  by_coord : (z : Federation) (c : ℕ) (did : CoordStep) → (IsRefusal did.answer → ⊥) → IsRefusedBy s None (at_coord z c did)
  by_coord z c did n =
      record {
        refused = λ b e. absurd (let y : None ≡ Some b = e in cc);
        admitted = λ e a q r. n (first_is did.answer (subst IsFirstRefusal (in_some (sym q ∙ reply_of did.marks did.sent did.answer)) r));
        unchanged = coord_admitted s z c did n;
      }

  of_member : (m : ℕ) (up : Bool) (did : MemberStep) → (IsRefusal did.answer → ⊥) → IsRefusedBy s (unless_up up (node.Member m)) (up_member s m up did)
  of_member m true did n = by_member s m did n
  of_member m false did n = refuses (answer.Down (node.Member m))

  of_coord : (c : ℕ) (up : Bool) (did : CoordStep) → (IsRefusal did.answer → ⊥) → IsRefusedBy s (unless_up up (node.Coord c)) (up_coord s c up did)
  of_coord c true did n = by_coord s c did n
  of_coord c false did n = refuses (answer.Down (node.Coord c))

  begins : (t c : ℕ) (b up : Bool) → IsRefusedBy s (or_else (if b then Some answer.Used else None) (unless_up up (node.Coord c))) (begin_where s t c b up)
  begins t c true up = refuses answer.Used
  begins t c false true = by_coord (with_session s t (begun_by (node.Coord c))) c (coord_begin (s.coord c) t) (λ r. r)
  begins t c false false = refuses (answer.Down (node.Coord c))

  begins_local : (t m : ℕ) (b up : Bool) → IsRefusedBy s (or_else (if b then Some answer.Used else None) (unless_up up (node.Member m))) (local_where s t m b up)
  begins_local t m true up = refuses answer.Used
  begins_local t m false true =
      record {
        refused = λ b e. absurd (let y : None ≡ Some b = e in cc);
        admitted = λ e a q r. subst IsFirstRefusal (sym (in_some q)) r;
        unchanged = λ a e r. absurd (subst IsRefusal (in_some (sym e)) r);
      }
  begins_local t m false false = refuses (answer.Down (node.Member m))

  -- an operation that its member refuses is not entered
  not_entered : (t m : ℕ) (o : Op) (session : Session) (did : MemberStep) → (IsRefusal did.answer → LeavesMember (s.member m) did) →
      Unchanged s (at_member (entered s t session m o (reply_in did.answer)) m did)
  not_entered t m o session did leaves a e r = ap (λ z. (at_member z m did).state) nothing ∙ member_unchanged s m did leaves a e r
    where
      is : did.answer ≡ a
      is = in_some (sym (reply_of did.marks (message_list did.sent) did.answer) ∙ e)

      nothing : entered s t session m o (reply_in did.answer) ≡ s
      nothing = ap (entered s t session m o) (leaves (subst IsRefusal (sym is) r)).reply

  operates : (t m : ℕ) (o : Op) (session : Session) (up : Bool) →
      IsRefusedBy s (unless_up up (node.Member m)) (operated s t session m o up (member_op (s.member m) t (count_at session.told m) o))
  operates t m o session false = refuses (answer.Down (node.Member m))
  operates t m o session true =
      let did = member_op (s.member m) t (count_at session.told m) o in
      asked_member (entered s t session m o (reply_in did.answer)) m did
      (op_answers (s.member m) t (count_at session.told m) o (kept_count (s.member m).engine t == count_at session.told m) (count_at session.told m == most_operations) (lock_blocker (s.member m).engine t o))
      (not_entered t m o session did (refuses_op (s.member m) t (count_at session.told m) o))

  operation : (t m : ℕ) (o : Op) (found : Option Session) →
      IsRefusedBy s (or_else (refused_leave (leave_to_visit found m)) (unless_up (s.member m).up (node.Member m))) (operate_with s t m o (leave_to_visit found m))
  operation t m o None = refuses answer.NotBegun
  operation t m o (Some session) = by (may_visit session.by m) session.asked
    where
      by : (b asked : Bool) →
          IsRefusedBy s (or_else (refused_leave (if b then (if asked then Refuses answer.Asked else Grants session) else Refuses answer.NotBegun)) (unless_up (s.member m).up (node.Member m)))
          (operate_with s t m o (if b then (if asked then Refuses answer.Asked else Grants session) else Refuses answer.NotBegun))
      by true true = refuses answer.Asked
      by true false = operates t m o session (s.member m).up
      by false asked = refuses answer.NotBegun

  -- the end that a client asks for
  coord_ends : (t : ℕ) (session : Session) (c : ℕ) (up : Bool) (did : CoordStep) → (IsRefusal did.answer → ⊥) → IsRefusedBy s (unless_up up (node.Coord c)) (coord_answers s t session c up did)
  coord_ends t session c true did n = by_coord (marked_asked s t session (not (is_stopped did.answer))) c did n
  coord_ends t session c false did n = refuses (answer.Down (node.Coord c))

  member_ends : (t : ℕ) (session : Session) (m : ℕ) (up : Bool) (did : MemberStep) → (IsRefusal did.answer → ⊥) → IsRefusedBy s (unless_up up (node.Member m)) (local_answers s t session m up did)
  member_ends t session m true did n = by_member (marked_asked s t session (not (is_held did.answer))) m did n
  member_ends t session m false did n = refuses (answer.Down (node.Member m))

  commits_at : (t : ℕ) (session : Session) (at : Node) → IsRefusedBy s (refused_node s (Some at)) (commit_at s t session at)
  commits_at t session (node.Coord c) =
      coord_ends t session c (s.coord c).up (coord_commit c (s.coord c) t (parts_of session.told)) (admits_commit (s.coord c) c t (parts_of session.told))
  commits_at t session (node.Member m) =
      member_ends t session m (s.member m).up (member_local_commit m (s.member m) t (count_at session.told m)) (admits_local_commit (s.member m) m t (count_at session.told m))

  aborts_at : (t : ℕ) (session : Session) (at : Node) → IsRefusedBy s (refused_node s (Some at)) (abort_at s t session at)
  aborts_at t session (node.Coord c) =
      coord_ends t session c (s.coord c).up (coord_abort c (s.coord c) t (parts_of session.told)) (admits_abort (s.coord c) c t (parts_of session.told))
  aborts_at t session (node.Member m) = member_ends t session m (s.member m).up (member_local_abort (s.member m) t) (admits_local_abort (s.member m) t)

  commits : (t : ℕ) (found : Option Session) → IsRefusedBy s (or_else (refused_leave (leave_to_end found)) (refused_node s (decider found))) (commit_with s t (leave_to_end found))
  commits t None = refuses answer.NotBegun
  commits t (Some session) = by session.asked
    where
      by : (asked : Bool) →
          IsRefusedBy s (or_else (refused_leave (if asked then Refuses answer.Asked else Grants session)) (refused_node s (Some session.by)))
          (commit_with s t (if asked then Refuses answer.Asked else Grants session))
      by true = refuses answer.Asked
      by false = commits_at t session session.by

  aborts : (t : ℕ) (found : Option Session) → IsRefusedBy s (or_else (refused_leave (leave_to_end found)) (refused_node s (decider found))) (abort_with s t (leave_to_end found))
  aborts t None = refuses answer.NotBegun
  aborts t (Some session) = by session.asked
    where
      by : (asked : Bool) →
          IsRefusedBy s (or_else (refused_leave (if asked then Refuses answer.Asked else Grants session)) (refused_node s (Some session.by)))
          (abort_with s t (if asked then Refuses answer.Asked else Grants session))
      by true = refuses answer.Asked
      by false = aborts_at t session session.by

  arrival : (note : Message) → IsRefusedBy s (refused_node s (Some (receiver note))) (arrives s note)
  arrival (message.Prepare t c m count) =
      of_member m (s.member m).up (member_deliver m (s.member m) (message.Prepare t c m count)) (admits_prepare (s.member m) m t c count)
  arrival (message.Decide t c m commit) =
      of_member m (s.member m).up (member_deliver m (s.member m) (message.Decide t c m commit)) (admits_decision (s.member m) m t c commit)
  arrival (message.Vote t m c granted) =
      of_coord c (s.coord c).up (coord_deliver c (s.coord c) (message.Vote t m c granted)) (admits_coord_vote (s.coord c) c t m granted)
  arrival (message.Ask t m c) =
      of_coord c (s.coord c).up (coord_deliver c (s.coord c) (message.Ask t m c)) (admits_coord_question (s.coord c) c t m)
  arrival (message.Ack t m c) =
      of_coord c (s.coord c).up (coord_deliver c (s.coord c) (message.Ack t m c)) (admits_acknowledgement (s.coord c) t m)

  delivers : (note : Message) (b : Bool) →
      IsRefusedBy s (or_else (if b then None else Some answer.Unsent) (refused_node s (Some (receiver note)))) (if b then arrives s note else answers s answer.Unsent)
  delivers note true = arrival note
  delivers note false = refuses answer.Unsent

  timer : (t : ℕ) (at : Node) → IsRefusedBy s (refused_node s (Some at)) (timer_at s t at)
  timer t (node.Member m) = of_member m (s.member m).up (member_timer (s.member m) t) (admits_timer (s.member m) t)
  timer t (node.Coord c) = of_coord c (s.coord c).up (coord_timer c (s.coord c) t) (admits_coord_timer (s.coord c) c t)

  crash : (at : Node) → IsRefusedBy s (refused_node s (Some at)) (crash_at s at)
  crash (node.Member m) = of_member m (s.member m).up (member_crash (s.member m)) (λ r. r)
  crash (node.Coord c) = of_coord c (s.coord c).up (coord_crash (s.coord c)) (λ r. r)

  restart : (at : Node) → IsRefusedBy s None (restart_at s at)
  restart (node.Member m) = by_member s m (member_restart (s.member m)) (admits_restart (s.member m))
  restart (node.Coord c) = by_coord s c (coord_restart (s.coord c)) (admits_coord_restart (s.coord c))

  arm : (call : ℕ) (leaves : Leaves) (at : Node) → IsRefusedBy s (refused_node s (Some at)) (arm_at s call leaves at)
  arm call leaves (node.Member m) = of_member m (s.member m).up (member_arm (s.member m) call leaves) (λ r. r)
  arm call leaves (node.Coord c) = of_coord c (s.coord c).up (coord_arm (s.coord c) call leaves) (λ r. r)

  checkpoint : (at : Node) → IsRefusedBy s (refused_node s (Some at)) (checkpoint_at s at)
  checkpoint (node.Member m) = of_member m (s.member m).up (member_checkpoint m (s.member m)) (admits_checkpoint (s.member m) m)
  checkpoint (node.Coord c) = of_coord c (s.coord c).up (coord_checkpoint c (s.coord c)) (admits_coord_checkpoint (s.coord c) c)

  pub by_refusal : (e : Event) → IsRefusedBy s (refusal s e) (step_line s e)
  by_refusal (event.Begin t c) = begins t c (is_used s t) (s.coord c).up
  by_refusal (event.Local t m) = begins_local t m (is_used s t) (s.member m).up
  by_refusal (event.Read t m key) = operation t m (op.Read key) (look s.sessions t)
  by_refusal (event.Write t m key value) = operation t m (op.Write key value) (look s.sessions t)
  by_refusal (event.Erase t m key) = operation t m (op.Erase key) (look s.sessions t)
  by_refusal (event.Scan t m span) = operation t m (op.Scan span) (look s.sessions t)
  by_refusal (event.Commit t) = commits t (look s.sessions t)
  by_refusal (event.Abort t) = aborts t (look s.sessions t)
  by_refusal (event.Deliver note) = delivers note (was_sent s.sent note)
  by_refusal (event.Vote t m) = of_member m (s.member m).up (member_vote m (s.member m) t) (admits_vote (s.member m) m t)
  by_refusal (event.Timer t at) = timer t at
  by_refusal (event.Ask t m) = of_member m (s.member m).up (member_ask m (s.member m) t) (admits_question (s.member m) m t)
  by_refusal (event.Resend t c) = of_coord c (s.coord c).up (coord_resend c (s.coord c) t) (admits_resending (s.coord c) c t)
  by_refusal (event.Crash at) = crash at
  by_refusal (event.Restart at) = restart at
  by_refusal (event.Arm at call leaves) = arm call leaves at
  by_refusal (event.Checkpoint at) = checkpoint at

-- what a refusal leaves
pub refused : (s : Federation) (h : Happening) → Unchanged s (step s h)
refused s (happening.Line e) a q r = (by_refusal s e).unchanged a q r
refused s (happening.Hand t m commit) a e r =
    (of_member s m (s.member m).up (member_decide m (s.member m) t (coord_of (s.member m) t) commit) (admits_decision (s.member m) m t (coord_of (s.member m) t) commit)).unchanged a e r
refused s happening.Disarm a e r = absurd (let z : None ≡ Some a = e in cc)
