-- What each step of the federation does with ends.
use Rattle.std.proofs.Common.{◌≡◌, ◌⊎◌, inl, inr, ℕ, Bool, true, false, not, if◌then◌else◌, Option, None, Some, refl, sym, ap, ◌∙◌, subst}
use Rattle.std.specs.List.{list_any}
use Rattle.co_base.specs.declared.leaves.Leaves.{Leaves}
use Rattle.co_base.specs.declared.node.Node.{Node}
use Rattle.co_base.specs.declared.node.Node.TheVariants as node
use Rattle.co_base.specs.declared.op.Op.{Op}
use Rattle.co_base.specs.declared.op.Op.TheVariants as op
use Rattle.co_base.specs.declared.reply.Reply.{Reply}
use Rattle.co_message.specs.declared.answer.Answer.{Answer}
use Rattle.co_message.specs.declared.answer.Answer.TheVariants as answer
use Rattle.co_message.specs.declared.event.Event.{Event}
use Rattle.co_message.specs.declared.event.Event.TheVariants as event
use Rattle.co_message.specs.declared.message.Message.{Message}
use Rattle.co_message.specs.declared.message.Message.TheVariants as message
use Rattle.co_state.specs.Table.{look, holds}
use Rattle.co_plain.specs.declared.coord_step.CoordStep.{CoordStep}
use Rattle.co_plain.specs.declared.happening.Happening.{Happening}
use Rattle.co_plain.specs.declared.happening.Happening.TheVariants as happening
use Rattle.co_plain.specs.declared.member_step.MemberStep.{MemberStep}
use Rattle.co_plain.specs.declared.session.Session.{Session}
use Rattle.co_plain.specs.Member.{coord_of, member_deliver, member_vote, member_timer, member_ask, member_decide, member_op}
use Rattle.co_plain.specs.MemberLog.{member_checkpoint, member_crash, member_restart, member_arm}
use Rattle.co_plain.specs.LocalCommit.{member_local_commit, member_local_abort}
use Rattle.co_plain.specs.Coordinator.{coord_begin, coord_commit, coord_abort, coord_deliver, coord_timer, coord_resend}
use Rattle.co_plain.specs.CoordLog.{coord_checkpoint, coord_crash, coord_restart, coord_arm}
use Rattle.co_plain.specs.Decisions.{is_decided}
use Rattle.co_plain.specs.Federation.{Federation, Stepped, answers, at_member, at_coord, message_list, with_session}
use Rattle.co_plain.specs.Sessions.{Leave, Refuses, Grants, leave_to_visit, leave_to_end, parts_of, count_at, begun_by}
use Rattle.co_plain.specs.SoundLogs.{has_unended}
use Rattle.co_plain.specs.Step.{up_member, up_coord, is_used, begin_where, local_where, reply_in, entered, operated, operate_with, is_stopped, is_held, marked_asked, coord_answers, local_answers, commit_at, commit_with, abort_at, abort_with, arrives, timer_at, crash_at, restart_at, arm_at, checkpoint_at, step_line, step}
use Rattle.co_plain.specs.Wire.{was_sent}
use Rattle.co_law_base.proofs.Carrying.{at_each, at_here, by_coord_begun}
use Rattle.co_law_base.proofs.Facts.{rest_of, OpenEntry, Facts}
use Rattle.co_law_once.specs.Once.{AtMostOnce, tells_end}
use Rattle.co_law_once.proofs.Waiting.{marks_end, Waits, any_items, once_items}
use Rattle.co_law_once.proofs.Walking.{none_once}
use Rattle.co_law_once.proofs.EndsAtCoord as coords
use Rattle.co_law_once.proofs.EndsAtMember as members

clash : {A : Type 0} → false ≡ true → A
clash h = absurd (let z : false ≡ true = h in cc)

-- decided, or known to the opened logs: nobody decides it again
abbrev pub Past : Federation → ℕ → Type 0
Past s t = (is_decided s.decided t ≡ true) ⊎ (holds s.used t ≡ true)

abbrev pub AllWait : Federation → Type 0
AllWait s = (t c : ℕ) → Waits t (s.coord c).log.waiting (s.coord c).log.stable

pub record Tells (s : Federation) (z : Stepped) : Type 0 where
  pub used : z.state.used ≡ s.used
  pub waits : AllWait z.state
  pub back : (t c : ℕ) → Past s t → has_unended (z.state.coord c).log.stable t ≡ true → has_unended (s.coord c).log.stable t ≡ true
  pub ends : (t : ℕ) → list_any (tells_end t) z.items ≡ true → (c : ℕ) × (has_unended (s.coord c).log.stable t ≡ true) × (has_unended (z.state.coord c).log.stable t ≡ false)
  pub once : (t : ℕ) → AtMostOnce (tells_end t) z.items

module _ (s : Federation) (f : Facts s) (w : AllWait s) where
  past : (c t : ℕ) → OpenEntry (rest_of s) c (s.coord c).log.stable t → Past s t → ⊥
  past c t e (inl d) = let z : true ≡ false = sym d ∙ e.undecided in cc
  past c t e (inr u) = let z : true ≡ false = sym u ∙ f.numbers.new t (by_coord_begun (look s.sessions t) c e.begun_there) in cc

  abbrev Ends : ℕ → CoordStep → Type 0
  Ends c = coords.CoordEnds (Past s) (s.coord c)

  at_m : (v : Federation) → v.coord ≡ s.coord → v.used ≡ s.used → (m : ℕ) (did : MemberStep) → members.NoEnd did → Tells s (at_member v m did)
  at_m v e u m did n =
      record {
        used = u;
        waits = λ t d. subst (λ g. Waits t (g d).log.waiting (g d).log.stable) (sym e) (w t d);
        back = λ t d p h. subst (λ g. has_unended (g d).log.stable t ≡ true) e h;
        ends = λ t h. clash (sym (any_items t did.marks (message_list did.sent) did.answer ∙ n t) ∙ h);
        once = λ t. once_items t did.marks (message_list did.sent) did.answer (none_once (marks_end t) did.marks (n t));
      }

  at_c : (v : Federation) → v.coord ≡ s.coord → v.used ≡ s.used → (c : ℕ) (did : CoordStep) → Ends c did → Tells s (at_coord v c did)
  at_c v e u c did k =
      record {
        used = u;
        waits = λ t. at_each (λ d y. Waits t y.log.waiting y.log.stable) v.coord c did.state (k.waits t) (λ d. subst (λ g. Waits t (g d).log.waiting (g d).log.stable) (sym e) (w t d));
        back = λ t d p.
            at_each (λ d y. has_unended y.log.stable t ≡ true → has_unended (s.coord d).log.stable t ≡ true) v.coord c did.state (k.back t p)
            (λ d h. subst (λ g. has_unended (g d).log.stable t ≡ true) e h) d;
        ends = λ t h. gone t (sym (any_items t did.marks did.sent did.answer) ∙ h);
        once = λ t. once_items t did.marks did.sent did.answer (k.once t);
      }
    where
      gone : (t : ℕ) → list_any (marks_end t) did.marks ≡ true →
          (d : ℕ) × (has_unended (s.coord d).log.stable t ≡ true) × (has_unended ((at_coord v c did).state.coord d).log.stable t ≡ false)
      gone t h = let q = k.ends t h in (c, q.0, ap (λ y. has_unended y.log.stable t) (at_here v.coord c did.state) ∙ q.1)

  -- what tells of no record
  silent : (v : Federation) → v.coord ≡ s.coord → v.used ≡ s.used → (a : Answer) → Tells s (answers v a)
  silent v e u a =
      record {
        used = u;
        waits = λ t d. subst (λ g. Waits t (g d).log.waiting (g d).log.stable) (sym e) (w t d);
        back = λ t d p h. subst (λ g. has_unended (g d).log.stable t ≡ true) e h;
        ends = λ t h. clash h;
        once = λ t. ((λ h. refl), tt);
      }

  says : (a : Answer) → Tells s (answers s a)
  says a = silent s refl refl a

  -- an event of a node that is up
  of_member : (m : ℕ) (up : Bool) (did : MemberStep) → members.NoEnd did → Tells s (up_member s m up did)
  of_member m true did n = at_m s refl refl m did n
  of_member m false did n = says (answer.Down (node.Member m))

  of_coord : (c : ℕ) (up : Bool) (did : CoordStep) → Ends c did → Tells s (up_coord s c up did)
  of_coord c true did k = at_c s refl refl c did k
  of_coord c false did k = says (answer.Down (node.Coord c))

  begins : (t c : ℕ) (used up : Bool) → Tells s (begin_where s t c used up)
  begins t c true up = says answer.Used
  begins t c false true =
      at_c (with_session s t (begun_by (node.Coord c))) refl refl c (coord_begin (s.coord c) t) (coords.begin_ends (rest_of s) c (s.coord c) (f.coords c) (λ t. w t c) (Past s) (past c) t)
  begins t c false false = says (answer.Down (node.Coord c))

  begins_local : (t m : ℕ) (used up : Bool) → Tells s (local_where s t m used up)
  begins_local t m true up = says answer.Used
  begins_local t m false true = silent (with_session s t (begun_by (node.Member m))) refl refl answer.Begun
  begins_local t m false false = says (answer.Down (node.Member m))

  operates : (t m : ℕ) (o : Op) (leave : Leave) → Tells s (operate_with s t m o leave)
  operates t m o (Refuses a) = says a
  operates t m o (Grants session) = by (s.member m).up
    where
      did : MemberStep
      did = member_op (s.member m) t (count_at session.told m) o

      none : members.NoEnd did
      none = members.op_none (rest_of s) m (s.member m) (f.members m).waiting t (count_at session.told m) o

      enters : (reply : Option Reply) → Tells s (at_member (entered s t session m o reply) m did)
      enters None = at_m s refl refl m did none
      enters (Some reply) = at_m (entered s t session m o (Some reply)) refl refl m did none

      by : (up : Bool) → Tells s (operated s t session m o up did)
      by true = enters (reply_in did.answer)
      by false = says (answer.Down (node.Member m))

  -- a client asks for the end
  answers_c : (t : ℕ) (session : Session) (c : ℕ) (up : Bool) (did : CoordStep) → Ends c did → Tells s (coord_answers s t session c up did)
  answers_c t session c false did k = says (answer.Down (node.Coord c))
  answers_c t session c true did k = by (not (is_stopped did.answer))
    where
      by : (b : Bool) → Tells s (at_coord (marked_asked s t session b) c did)
      by true = at_c (marked_asked s t session true) refl refl c did k
      by false = at_c s refl refl c did k

  answers_m : (t : ℕ) (session : Session) (m : ℕ) (up : Bool) (did : MemberStep) → members.NoEnd did → Tells s (local_answers s t session m up did)
  answers_m t session m false did n = says (answer.Down (node.Member m))
  answers_m t session m true did n = by (not (is_held did.answer))
    where
      by : (b : Bool) → Tells s (at_member (marked_asked s t session b) m did)
      by true = at_m (marked_asked s t session true) refl refl m did n
      by false = at_m s refl refl m did n

  commits : (t : ℕ) (leave : Leave) → Tells s (commit_with s t leave)
  commits t (Refuses a) = says a
  commits t (Grants session) = by session.by
    where
      by : (at : Node) → Tells s (commit_at s t session at)
      by (node.Coord c) =
          answers_c t session c (s.coord c).up (coord_commit c (s.coord c) t (parts_of session.told))
          (coords.commit_ends (rest_of s) c (s.coord c) (f.coords c) (λ t. w t c) (Past s) (past c) t (parts_of session.told))
      by (node.Member m) =
          answers_m t session m (s.member m).up (member_local_commit m (s.member m) t (count_at session.told m))
          (members.local_commit_none (rest_of s) m (s.member m) (f.members m).waiting t (count_at session.told m))

  aborts : (t : ℕ) (leave : Leave) → Tells s (abort_with s t leave)
  aborts t (Refuses a) = says a
  aborts t (Grants session) = by session.by
    where
      by : (at : Node) → Tells s (abort_at s t session at)
      by (node.Coord c) =
          answers_c t session c (s.coord c).up (coord_abort c (s.coord c) t (parts_of session.told))
          (coords.abort_ends (rest_of s) c (s.coord c) (f.coords c) (λ t. w t c) (Past s) (past c) t (parts_of session.told))
      by (node.Member m) =
          answers_m t session m (s.member m).up (member_local_abort (s.member m) t) (members.local_abort_none (rest_of s) m (s.member m) (f.members m).waiting t)

  -- a message arrives
  to_member : (m : ℕ) (note : Message) → Tells s (up_member s m (s.member m).up (member_deliver m (s.member m) note))
  to_member m note = of_member m (s.member m).up (member_deliver m (s.member m) note) (members.deliver_none (rest_of s) m (s.member m) (f.members m).waiting note)

  to_coord : (c : ℕ) (note : Message) → Tells s (up_coord s c (s.coord c).up (coord_deliver c (s.coord c) note))
  to_coord c note =
      of_coord c (s.coord c).up (coord_deliver c (s.coord c) note) (coords.deliver_ends (rest_of s) c (s.coord c) (f.coords c) (λ t. w t c) (Past s) (past c) note)

  arrival : (note : Message) → Tells s (arrives s note)
  arrival (message.Prepare t c m n) = to_member m (message.Prepare t c m n)
  arrival (message.Decide t c m commit) = to_member m (message.Decide t c m commit)
  arrival (message.Vote t m c granted) = to_coord c (message.Vote t m c granted)
  arrival (message.Ask t m c) = to_coord c (message.Ask t m c)
  arrival (message.Ack t m c) = to_coord c (message.Ack t m c)

  delivers : (note : Message) (b : Bool) → Tells s (if b then arrives s note else answers s answer.Unsent)
  delivers note true = arrival note
  delivers note false = says answer.Unsent

  timer : (t : ℕ) (at : Node) → Tells s (timer_at s t at)
  timer t (node.Member m) = of_member m (s.member m).up (member_timer (s.member m) t) (members.timer_none (rest_of s) m (s.member m) (f.members m).waiting t)
  timer t (node.Coord c) =
      of_coord c (s.coord c).up (coord_timer c (s.coord c) t) (coords.timer_ends (rest_of s) c (s.coord c) (f.coords c) (λ t. w t c) (Past s) (past c) t)

  crash : (at : Node) → Tells s (crash_at s at)
  crash (node.Member m) = of_member m (s.member m).up (member_crash (s.member m)) (λ t. refl)
  crash (node.Coord c) = of_coord c (s.coord c).up (coord_crash (s.coord c)) (coords.crash_ends (rest_of s) c (s.coord c) (f.coords c) (λ t. w t c) (Past s) (past c))

  restart : (at : Node) → Tells s (restart_at s at)
  restart (node.Member m) = at_m s refl refl m (member_restart (s.member m)) (members.restart_none (rest_of s) m (s.member m) (f.members m).waiting)
  restart (node.Coord c) = at_c s refl refl c (coord_restart (s.coord c)) (coords.restart_ends (rest_of s) c (s.coord c) (f.coords c) (λ t. w t c) (Past s) (past c))

  arm : (call : ℕ) (leaves : Leaves) (at : Node) → Tells s (arm_at s call leaves at)
  arm call leaves (node.Member m) = of_member m (s.member m).up (member_arm (s.member m) call leaves) (λ t. refl)
  arm call leaves (node.Coord c) =
      of_coord c (s.coord c).up (coord_arm (s.coord c) call leaves) (coords.arm_ends (rest_of s) c (s.coord c) (f.coords c) (λ t. w t c) (Past s) (past c) call leaves)

  checkpoint : (at : Node) → Tells s (checkpoint_at s at)
  checkpoint (node.Member m) = of_member m (s.member m).up (member_checkpoint m (s.member m)) (members.checkpoint_none (rest_of s) m (s.member m) (f.members m).waiting)
  checkpoint (node.Coord c) =
      of_coord c (s.coord c).up (coord_checkpoint c (s.coord c)) (coords.checkpoint_ends (rest_of s) c (s.coord c) (f.coords c) (λ t. w t c) (Past s) (past c))

  line : (e : Event) → Tells s (step_line s e)
  line (event.Begin t c) = begins t c (is_used s t) (s.coord c).up
  line (event.Local t m) = begins_local t m (is_used s t) (s.member m).up
  line (event.Read t m key) = operates t m (op.Read key) (leave_to_visit (look s.sessions t) m)
  line (event.Write t m key value) = operates t m (op.Write key value) (leave_to_visit (look s.sessions t) m)
  line (event.Erase t m key) = operates t m (op.Erase key) (leave_to_visit (look s.sessions t) m)
  line (event.Scan t m span) = operates t m (op.Scan span) (leave_to_visit (look s.sessions t) m)
  line (event.Commit t) = commits t (leave_to_end (look s.sessions t))
  line (event.Abort t) = aborts t (leave_to_end (look s.sessions t))
  line (event.Deliver note) = delivers note (was_sent s.sent note)
  line (event.Vote t m) = of_member m (s.member m).up (member_vote m (s.member m) t) (members.vote_none (rest_of s) m (s.member m) (f.members m).waiting t)
  line (event.Timer t at) = timer t at
  line (event.Ask t m) = of_member m (s.member m).up (member_ask m (s.member m) t) (members.ask_none (rest_of s) m (s.member m) (f.members m).waiting t)
  line (event.Resend t c) =
      of_coord c (s.coord c).up (coord_resend c (s.coord c) t) (coords.resend_ends (rest_of s) c (s.coord c) (f.coords c) (λ t. w t c) (Past s) (past c) t)
  line (event.Crash at) = crash at
  line (event.Restart at) = restart at
  line (event.Arm at call leaves) = arm call leaves at
  line (event.Checkpoint at) = checkpoint at

  pub step_tells : (h : Happening) → Tells s (step s h)
  step_tells (happening.Line e) = line e
  step_tells (happening.Hand t m commit) =
      of_member m (s.member m).up (member_decide m (s.member m) t (coord_of (s.member m) t) commit)
      (members.decide_none (rest_of s) m (s.member m) (f.members m).waiting t (coord_of (s.member m) t) commit)
  step_tells happening.Disarm = record { used = refl; waits = w; back = λ t c p h. h; ends = λ t h. clash h; once = λ t. tt }
