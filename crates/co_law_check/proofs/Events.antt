-- What one event leaves of sessions and decisions, beside what its reply tells.
use Rattle.std.proofs.Common.{◌≡◌, ℕ, Bool, true, false, not, ◌==◌, ◌||◌, List, [], Option, None, Some, if◌then◌else◌, refl, sym, ap, ◌∙◌}
use Rattle.std.specs.Option.{is_some}
use Rattle.co_base.specs.declared.mark.Mark.{Mark}
use Rattle.co_base.specs.declared.node.Node.{Node}
use Rattle.co_base.specs.declared.node.Node.TheVariants as node
use Rattle.co_base.specs.declared.op.Op.{Op}
use Rattle.co_base.specs.declared.op.Op.TheVariants as op
use Rattle.co_base.specs.declared.reply.Reply.{Reply}
use Rattle.co_base.specs.Limits.{most_operations}
use Rattle.co_message.specs.declared.answer.Answer.{Answer}
use Rattle.co_message.specs.declared.answer.Answer.TheVariants as answer
use Rattle.co_message.specs.declared.event.Event.{Event}
use Rattle.co_message.specs.declared.event.Event.TheVariants as event
use Rattle.co_message.specs.declared.message.Message.{Message}
use Rattle.co_message.specs.declared.message.Message.TheVariants as message
use Rattle.co_state.specs.Table.{look, put, holds}
use Rattle.co_state.specs.ReadRule.{operation_reply}
use Rattle.co_state.specs.LockRule.{lock_blocker}
use Rattle.co_state.specs.VotingRule.{kept_count}
use Rattle.co_plain.specs.Decisions.{told_in}
use Rattle.co_plain.specs.Federation.{Federation, Stepped, items_of, answers, message_list, at_member, at_coord, decide_all}
use Rattle.co_plain.specs.LocalCommit.{member_local_commit, member_local_abort}
use Rattle.co_plain.specs.Coordinator.{coord_commit, coord_abort, coord_deliver, coord_timer, coord_resend}
use Rattle.co_plain.specs.CoordLog.{coord_checkpoint, coord_crash, coord_restart, coord_arm}
use Rattle.co_plain.specs.Member.{member_op, unless_blocked, member_deliver, member_vote, member_timer, member_ask}
use Rattle.co_plain.specs.MemberLog.{member_checkpoint, member_crash, member_restart, member_arm}
use Rattle.co_plain.specs.MemberStep.{says}
use Rattle.co_plain.specs.Numbers.{counted}
use Rattle.co_plain.specs.Sessions.{Refuses, Grants, leave_to_visit, leave_to_end, may_visit, begun_by, with_told, asked_to_end, count_at, parts_of}
use Rattle.co_plain.specs.Step.{up_member, member_step, up_coord, coord_step, is_used, begin_where, local_where, reply_in, entered, operated, operate_with, operate, is_stopped, is_held, marked_asked, coord_answers, local_answers, commit_at, commit_with, abort_at, abort_with, arrives, timer_at, crash_at, restart_at, checkpoint_at, step_line}
use Rattle.co_plain.specs.Wire.{was_sent}
use Rattle.co_plain.specs.declared.coord_state.CoordState.{CoordState}
use Rattle.co_plain.specs.declared.coord_step.CoordStep.{CoordStep}
use Rattle.co_plain.specs.declared.member_state.MemberState.{MemberState}
use Rattle.co_plain.specs.declared.member_step.MemberStep.{MemberStep}
use Rattle.co_plain.specs.declared.session.Session.{Session}
use Rattle.co_law_base.proofs.Lookups.{put_here, put_there}
use Rattle.co_check.specs.Account.{Account, begun, told, begins, operates, replied}
use Rattle.co_law_check.specs.Told.{by_in}
use Rattle.co_law_check.proofs.Marks.{at_each}

-- the reply tells nothing of transactions
abbrev pub IsSilent : Event → Answer → Type 0
IsSilent e said = (a : Account) (n : ℕ) → replied a n e said ≡ Some a

-- sessions keep who decides them and what they were told
pub record AreKept (s w : Federation) : Type 0 where
  pub by : (t : ℕ) → by_in (look w.sessions t) ≡ by_in (look s.sessions t)
  pub told : (t : ℕ) → told_in (look w.sessions t) ≡ told_in (look s.sessions t)
  pub decided : w.decided ≡ s.decided

-- an event that begins nothing, and no operation that was answered
pub record IsQuiet (s : Federation) (e : Event) (z : Stepped) : Type 0 where
  pub marks : List Mark
  pub messages : List Message
  pub said : Answer
  pub items : z.items ≡ items_of marks messages said
  pub by : (t : ℕ) → by_in (look z.state.sessions t) ≡ by_in (look s.sessions t)
  pub told : (t : ℕ) → told_in (look z.state.sessions t) ≡ told_in (look s.sessions t)
  pub decided : z.state.decided ≡ decide_all z.state.sessions s.decided marks
  pub silent : IsSilent e said

-- a transaction is begun
pub record IsBegun (s : Federation) (e : Event) (z : Stepped) : Type 0 where
  pub txn : ℕ
  pub by : Node
  pub items : z.items ≡ items_of [] [] answer.Begun
  pub new : look s.sessions txn ≡ None
  pub sessions : z.state.sessions ≡ put s.sessions txn (begun_by by)
  pub decided : z.state.decided ≡ s.decided
  pub heard : (a : Account) → begins a e ≡ begun a txn by

-- an operation is answered
pub record IsOperated (s : Federation) (e : Event) (z : Stepped) : Type 0 where
  pub txn : ℕ
  pub member : ℕ
  pub op : Op
  pub reply : Reply
  pub session : Session
  pub items : z.items ≡ items_of [] [] (answer.Replied reply)
  pub known : look s.sessions txn ≡ Some session
  pub sessions : z.state.sessions ≡ put s.sessions txn (with_told session (record { site = record { member = member; op = op }; reply = reply }))
  pub decided : z.state.decided ≡ s.decided
  pub heard : (a : Account) (n : ℕ) → operates a n e reply ≡ Some (told a txn (record { number = n; site = record { member = member; op = op }; reply = reply }))

pub data IsTold (s : Federation) (e : Event) (z : Stepped) : Type 0 where
  Quiet : IsQuiet s e z → IsTold s e z
  Begun : IsBegun s e z → IsTold s e z
  Operated : IsOperated s e z → IsTold s e z

-- of an event that is neither a begin nor an operation every reply is silent
silent : (e : Event) → ((a : Account) → begins a e ≡ Some a) → ((a : Account) (n : ℕ) (reply : Reply) → operates a n e reply ≡ Some a) → (said : Answer) → IsSilent e said
silent e begin operate answer.Begun = λ a n. begin a
silent e begin operate (answer.Replied reply) = λ a n. operate a n reply
silent e begin operate answer.Opened = λ a n. refl
silent e begin operate (answer.Blocked txn) = λ a n. refl
silent e begin operate (answer.Gone kept carried) = λ a n. refl
silent e begin operate answer.TooMany = λ a n. refl
silent e begin operate (answer.Waiting member) = λ a n. refl
silent e begin operate answer.Committed = λ a n. refl
silent e begin operate (answer.Aborted cause) = λ a n. refl
silent e begin operate answer.Decided = λ a n. refl
silent e begin operate answer.Ended = λ a n. refl
silent e begin operate answer.Idle = λ a n. refl
silent e begin operate answer.Unknown = λ a n. refl
silent e begin operate answer.Yes = λ a n. refl
silent e begin operate (answer.NoLost kept carried) = λ a n. refl
silent e begin operate (answer.NoStale key) = λ a n. refl
silent e begin operate (answer.Held txn) = λ a n. refl
silent e begin operate answer.Voted = λ a n. refl
silent e begin operate answer.Unasked = λ a n. refl
silent e begin operate answer.Unvoted = λ a n. refl
silent e begin operate answer.Already = λ a n. refl
silent e begin operate answer.Absent = λ a n. refl
silent e begin operate answer.Installed = λ a n. refl
silent e begin operate answer.Dropped = λ a n. refl
silent e begin operate answer.Kept = λ a n. refl
silent e begin operate answer.Asking = λ a n. refl
silent e begin operate answer.Crashed = λ a n. refl
silent e begin operate answer.Up = λ a n. refl
silent e begin operate answer.Running = λ a n. refl
silent e begin operate answer.Armed = λ a n. refl
silent e begin operate answer.Closed = λ a n. refl
silent e begin operate (answer.Filled generation) = λ a n. refl
silent e begin operate (answer.Stopped call) = λ a n. refl
silent e begin operate answer.Used = λ a n. refl
silent e begin operate answer.NotBegun = λ a n. refl
silent e begin operate answer.Asked = λ a n. refl
silent e begin operate answer.Unsent = λ a n. refl
silent e begin operate (answer.Down at) = λ a n. refl

-- ---- steps of nodes

unchanged : (s : Federation) → AreKept s s
unchanged s = record { by = λ t. refl; told = λ t. refl; decided = refl }

quiet_says : (s : Federation) (e : Event) (said : Answer) → IsSilent e said → IsTold s e (answers s said)
quiet_says s e said h = Quiet (record { marks = []; messages = []; said = said; items = refl; by = λ t. refl; told = λ t. refl; decided = refl; silent = h })

quiet_member : (s w : Federation) (e : Event) (m : ℕ) (did : MemberStep) → AreKept s w → IsSilent e did.answer → IsTold s e (at_member w m did)
quiet_member s w e m did k h =
    Quiet (record { marks = did.marks; messages = message_list did.sent; said = did.answer; items = refl; by = k.by; told = k.told; decided = ap (λ ds. decide_all w.sessions ds did.marks) k.decided; silent = h })

quiet_coord : (s w : Federation) (e : Event) (c : ℕ) (did : CoordStep) → AreKept s w → IsSilent e did.answer → IsTold s e (at_coord w c did)
quiet_coord s w e c did k h =
    Quiet (record { marks = did.marks; messages = did.sent; said = did.answer; items = refl; by = k.by; told = k.told; decided = ap (λ ds. decide_all w.sessions ds did.marks) k.decided; silent = h })

module _ (s : Federation) (e : Event) (h : (said : Answer) → IsSilent e said) where
  up_quiet : (m : ℕ) (up : Bool) (did : MemberStep) → IsTold s e (up_member s m up did)
  up_quiet m true did = quiet_member s s e m did (unchanged s) (h did.answer)
  up_quiet m false did = quiet_says s e (answer.Down (node.Member m)) (h (answer.Down (node.Member m)))

  up_coord_quiet : (c : ℕ) (up : Bool) (did : CoordStep) → IsTold s e (up_coord s c up did)
  up_coord_quiet c true did = quiet_coord s s e c did (unchanged s) (h did.answer)
  up_coord_quiet c false did = quiet_says s e (answer.Down (node.Coord c)) (h (answer.Down (node.Coord c)))

  member_quiet : (m : ℕ) (does : MemberState → MemberStep) → IsTold s e (member_step s m does)
  member_quiet m does = up_quiet m (s.member m).up (does (s.member m))

  coord_quiet : (c : ℕ) (does : CoordState → CoordStep) → IsTold s e (coord_step s c does)
  coord_quiet c does = up_coord_quiet c (s.coord c).up (does (s.coord c))

  -- ---- messages

  arrives_quiet : (note : Message) → IsTold s e (arrives s note)
  arrives_quiet (message.Prepare t c m n) = member_quiet m (λ x. member_deliver m x (message.Prepare t c m n))
  arrives_quiet (message.Decide t c m commit) = member_quiet m (λ x. member_deliver m x (message.Decide t c m commit))
  arrives_quiet (message.Vote t m c granted) = coord_quiet c (λ x. coord_deliver c x (message.Vote t m c granted))
  arrives_quiet (message.Ask t m c) = coord_quiet c (λ x. coord_deliver c x (message.Ask t m c))
  arrives_quiet (message.Ack t m c) = coord_quiet c (λ x. coord_deliver c x (message.Ack t m c))

  deliver_by : (note : Message) (b : Bool) → IsTold s e (if b then arrives s note else answers s answer.Unsent)
  deliver_by note true = arrives_quiet note
  deliver_by note false = quiet_says s e answer.Unsent (h answer.Unsent)

  -- ---- nodes of both sorts

  timer_quiet : (t : ℕ) (at : Node) → IsTold s e (timer_at s t at)
  timer_quiet t (node.Member m) = member_quiet m (λ x. member_timer x t)
  timer_quiet t (node.Coord c) = coord_quiet c (λ x. coord_timer c x t)

  crash_quiet : (at : Node) → IsTold s e (crash_at s at)
  crash_quiet (node.Member m) = member_quiet m member_crash
  crash_quiet (node.Coord c) = coord_quiet c coord_crash

  restart_quiet : (at : Node) → IsTold s e (restart_at s at)
  restart_quiet (node.Member m) = quiet_member s s e m (member_restart (s.member m)) (unchanged s) (h (member_restart (s.member m)).answer)
  restart_quiet (node.Coord c) = quiet_coord s s e c (coord_restart (s.coord c)) (unchanged s) (h (coord_restart (s.coord c)).answer)

  checkpoint_quiet : (at : Node) → IsTold s e (checkpoint_at s at)
  checkpoint_quiet (node.Member m) = member_quiet m (member_checkpoint m)
  checkpoint_quiet (node.Coord c) = coord_quiet c (coord_checkpoint c)

  -- ---- the client asks for the end

  module _ (t : ℕ) (session : Session) (is : look s.sessions t ≡ Some session) where
    marked_kept : (b : Bool) → AreKept s (marked_asked s t session b)
    marked_kept false = unchanged s
    marked_kept true =
        record {
          by = at_each (λ u. by_in (look (put s.sessions t (asked_to_end session)) u) ≡ by_in (look s.sessions u)) t
              (ap by_in (put_here s.sessions t (asked_to_end session)) ∙ sym (ap by_in is)) (λ u n. ap by_in (put_there s.sessions t (asked_to_end session) u n));
          told = at_each (λ u. told_in (look (put s.sessions t (asked_to_end session)) u) ≡ told_in (look s.sessions u)) t
              (ap told_in (put_here s.sessions t (asked_to_end session)) ∙ sym (ap told_in is)) (λ u n. ap told_in (put_there s.sessions t (asked_to_end session) u n));
          decided = refl;
        }

    coord_asked : (c : ℕ) (up : Bool) (did : CoordStep) → IsTold s e (coord_answers s t session c up did)
    coord_asked c true did = quiet_coord s (marked_asked s t session (not (is_stopped did.answer))) e c did (marked_kept (not (is_stopped did.answer))) (h did.answer)
    coord_asked c false did = quiet_says s e (answer.Down (node.Coord c)) (h (answer.Down (node.Coord c)))

    member_asked : (m : ℕ) (up : Bool) (did : MemberStep) → IsTold s e (local_answers s t session m up did)
    member_asked m true did = quiet_member s (marked_asked s t session (not (is_held did.answer))) e m did (marked_kept (not (is_held did.answer))) (h did.answer)
    member_asked m false did = quiet_says s e (answer.Down (node.Member m)) (h (answer.Down (node.Member m)))

    commit_asked : (by : Node) → IsTold s e (commit_at s t session by)
    commit_asked (node.Coord c) = coord_asked c (s.coord c).up (coord_commit c (s.coord c) t (parts_of session.told))
    commit_asked (node.Member m) = member_asked m (s.member m).up (member_local_commit m (s.member m) t (count_at session.told m))

    abort_asked : (by : Node) → IsTold s e (abort_at s t session by)
    abort_asked (node.Coord c) = coord_asked c (s.coord c).up (coord_abort c (s.coord c) t (parts_of session.told))
    abort_asked (node.Member m) = member_asked m (s.member m).up (member_local_abort (s.member m) t)

  commit_by : (t : ℕ) (o : Option Session) → look s.sessions t ≡ o → IsTold s e (commit_with s t (leave_to_end o))
  commit_by t None is = quiet_says s e answer.NotBegun (h answer.NotBegun)
  commit_by t (Some session) is = by session.asked
    where
      by : (b : Bool) → IsTold s e (commit_with s t (if b then Refuses answer.Asked else Grants session))
      by true = quiet_says s e answer.Asked (h answer.Asked)
      by false = commit_asked t session is session.by

  abort_by : (t : ℕ) (o : Option Session) → look s.sessions t ≡ o → IsTold s e (abort_with s t (leave_to_end o))
  abort_by t None is = quiet_says s e answer.NotBegun (h answer.NotBegun)
  abort_by t (Some session) is = by session.asked
    where
      by : (b : Bool) → IsTold s e (abort_with s t (if b then Refuses answer.Asked else Grants session))
      by true = quiet_says s e answer.Asked (h answer.Asked)
      by false = abort_asked t session is session.by

-- ---- begins

no_session : (o : Option Session) (b : Bool) → (is_some o || b) ≡ false → o ≡ None
no_session None b h = refl
no_session (Some session) b h = absurd (let z : true ≡ false = h in cc)

begin_told : (s : Federation) (t c : ℕ) (used up : Bool) → is_used s t ≡ used → IsTold s (event.Begin t c) (begin_where s t c used up)
begin_told s t c true up h = quiet_says s (event.Begin t c) answer.Used (λ a n. refl)
begin_told s t c false true h =
    Begun (record { txn = t; by = node.Coord c; items = refl; new = no_session (look s.sessions t) (holds s.used t) h; sessions = refl; decided = refl; heard = λ a. refl })
begin_told s t c false false h = quiet_says s (event.Begin t c) (answer.Down (node.Coord c)) (λ a n. refl)

local_told : (s : Federation) (t m : ℕ) (used up : Bool) → is_used s t ≡ used → IsTold s (event.Local t m) (local_where s t m used up)
local_told s t m true up h = quiet_says s (event.Local t m) answer.Used (λ a n. refl)
local_told s t m false true h =
    Begun (record { txn = t; by = node.Member m; items = refl; new = no_session (look s.sessions t) (holds s.used t) h; sessions = refl; decided = refl; heard = λ a. refl })
local_told s t m false false h = quiet_says s (event.Local t m) (answer.Down (node.Member m)) (λ a n. refl)

-- ---- operations

-- the answers that refuse one
abbrev AreRefusals : Event → Type 0
AreRefusals e = IsSilent e answer.NotBegun × IsSilent e answer.Asked × ((m : ℕ) → IsSilent e (answer.Down (node.Member m))) × IsSilent e answer.TooMany
    × ((u : ℕ) → IsSilent e (answer.Blocked u)) × ((kept carried : ℕ) → IsSilent e (answer.Gone kept carried))

module _ (s : Federation) (e : Event) (t m : ℕ) (o : Op) (h : AreRefusals e)
    (heard : (a : Account) (n : ℕ) (reply : Reply) → operates a n e reply ≡ Some (told a t (record { number = n; site = record { member = m; op = o }; reply = reply }))) where
  module _ (session : Session) (is : look s.sessions t ≡ Some session) (x : MemberState) where
    abbrev step_of : MemberStep → Stepped
    step_of did = at_member (entered s t session m o (reply_in did.answer)) m did

    by_blocker : (u : Option ℕ) → IsTold s e (step_of (unless_blocked x t o u))
    by_blocker (Some u) = quiet_member s s e m (says x (answer.Blocked u)) (unchanged s) (h.4 u)
    by_blocker None =
        Operated (record { txn = t; member = m; op = o; reply = operation_reply x.engine t o; session = session; items = refl; known = is; sessions = refl; decided = refl; heard = λ a n. heard a n (operation_reply x.engine t o) })

    by_many : (many : Bool) (u : Option ℕ) → IsTold s e (step_of (if many then says x answer.TooMany else unless_blocked x t o u))
    by_many true u = quiet_member s s e m (says x answer.TooMany) (unchanged s) h.3
    by_many false u = by_blocker u

    by_lost : (same many : Bool) (u : Option ℕ) (kept carried : ℕ) →
        IsTold s e (step_of (if same then (if many then says x answer.TooMany else unless_blocked x t o u) else says x (answer.Gone kept carried)))
    by_lost true many u kept carried = by_many many u
    by_lost false many u kept carried = quiet_member s s e m (says x (answer.Gone kept carried)) (unchanged s) (h.5 kept carried)

    by_up : (up : Bool) (carried : ℕ) → IsTold s e (operated s t session m o up (member_op x t carried o))
    by_up true carried = by_lost (kept_count x.engine t == carried) (carried == most_operations) (lock_blocker x.engine t o) (counted (kept_count x.engine t)) (counted carried)
    by_up false carried = quiet_says s e (answer.Down (node.Member m)) (h.2 m)

  by_session : (found : Option Session) → look s.sessions t ≡ found → IsTold s e (operate_with s t m o (leave_to_visit found m))
  by_session None is = quiet_says s e answer.NotBegun h.0
  by_session (Some session) is = by (may_visit session.by m) session.asked
    where
      by : (may asked : Bool) → IsTold s e (operate_with s t m o (if may then (if asked then Refuses answer.Asked else Grants session) else Refuses answer.NotBegun))
      by true true = quiet_says s e answer.Asked h.1
      by true false = by_up session is (s.member m) (s.member m).up (count_at session.told m)
      by false asked = quiet_says s e answer.NotBegun h.0

  operation_told : IsTold s e (operate s t m o)
  operation_told = by_session (look s.sessions t) refl

-- ---- every event

pub event_told : (s : Federation) (e : Event) → IsTold s e (step_line s e)
event_told s (event.Begin t c) = begin_told s t c (is_used s t) (s.coord c).up refl
event_told s (event.Local t m) = local_told s t m (is_used s t) (s.member m).up refl
event_told s (event.Read t m key) = operation_told s (event.Read t m key) t m (op.Read key) (λ a n. refl, λ a n. refl, λ m a n. refl, λ a n. refl, λ u a n. refl, λ kept carried a n. refl) (λ a n reply. refl)
event_told s (event.Write t m key value) = operation_told s (event.Write t m key value) t m (op.Write key value) (λ a n. refl, λ a n. refl, λ m a n. refl, λ a n. refl, λ u a n. refl, λ kept carried a n. refl) (λ a n reply. refl)
event_told s (event.Erase t m key) = operation_told s (event.Erase t m key) t m (op.Erase key) (λ a n. refl, λ a n. refl, λ m a n. refl, λ a n. refl, λ u a n. refl, λ kept carried a n. refl) (λ a n reply. refl)
event_told s (event.Scan t m span) = operation_told s (event.Scan t m span) t m (op.Scan span) (λ a n. refl, λ a n. refl, λ m a n. refl, λ a n. refl, λ u a n. refl, λ kept carried a n. refl) (λ a n reply. refl)
event_told s (event.Commit t) = commit_by s (event.Commit t) (silent (event.Commit t) (λ a. refl) (λ a n reply. refl)) t (look s.sessions t) refl
event_told s (event.Abort t) = abort_by s (event.Abort t) (silent (event.Abort t) (λ a. refl) (λ a n reply. refl)) t (look s.sessions t) refl
event_told s (event.Deliver note) = deliver_by s (event.Deliver note) (silent (event.Deliver note) (λ a. refl) (λ a n reply. refl)) note (was_sent s.sent note)
event_told s (event.Vote t m) = member_quiet s (event.Vote t m) (silent (event.Vote t m) (λ a. refl) (λ a n reply. refl)) m (λ x. member_vote m x t)
event_told s (event.Timer t at) = timer_quiet s (event.Timer t at) (silent (event.Timer t at) (λ a. refl) (λ a n reply. refl)) t at
event_told s (event.Ask t m) = member_quiet s (event.Ask t m) (silent (event.Ask t m) (λ a. refl) (λ a n reply. refl)) m (λ x. member_ask m x t)
event_told s (event.Resend t c) = coord_quiet s (event.Resend t c) (silent (event.Resend t c) (λ a. refl) (λ a n reply. refl)) c (λ x. coord_resend c x t)
event_told s (event.Crash at) = crash_quiet s (event.Crash at) (silent (event.Crash at) (λ a. refl) (λ a n reply. refl)) at
event_told s (event.Restart at) = restart_quiet s (event.Restart at) (silent (event.Restart at) (λ a. refl) (λ a n reply. refl)) at
event_told s (event.Arm (node.Member m) call leaves) = member_quiet s (event.Arm (node.Member m) call leaves) (silent (event.Arm (node.Member m) call leaves) (λ a. refl) (λ a n reply. refl)) m (λ x. member_arm x call leaves)
event_told s (event.Arm (node.Coord c) call leaves) = coord_quiet s (event.Arm (node.Coord c) call leaves) (silent (event.Arm (node.Coord c) call leaves) (λ a. refl) (λ a n reply. refl)) c (λ x. coord_arm x call leaves)
event_told s (event.Checkpoint at) = checkpoint_quiet s (event.Checkpoint at) (silent (event.Checkpoint at) (λ a. refl) (λ a n reply. refl)) at
