-- One step of the federation for everything that may happen. A refusal of the session or of the wire comes
-- first, then that of a node that is down, then the node's own answer.
use Rattle.std.specs.Prelude.{Bool, true, false, not, ◌||◌, [], if◌then◌else◌, Option, None, Some}
use Rattle.co_base.specs.declared.leaves.Leaves.{Leaves}
use Rattle.co_base.specs.declared.node.Node.{Node}
use Rattle.co_base.specs.declared.node.Node.TheVariants as node
use Rattle.co_base.specs.declared.op.Op.{Op}
use Rattle.co_base.specs.declared.op.Op.TheVariants as op
use Rattle.co_base.specs.declared.reply.Reply.{Reply}
use Rattle.co_message.specs.declared.answer.Answer.{Answer}
use Rattle.co_message.specs.declared.answer.Answer.TheVariants as answer
use Rattle.co_message.specs.declared.event.Event.{Event}
use Rattle.co_message.specs.declared.event.Event.TheVariants as event
use Rattle.co_message.specs.declared.message.Message.{Message}
use Rattle.co_message.specs.declared.message.Message.TheVariants as message
use Rattle.co_state.specs.Table.{look, holds}
use Rattle.co_plain.specs.declared.coord_state.CoordState.{CoordState}
use Rattle.co_plain.specs.declared.happening.Happening.{Happening}
use Rattle.co_plain.specs.declared.happening.Happening.TheVariants as happening
use Rattle.co_plain.specs.declared.member_state.MemberState.{MemberState}
use Rattle.co_plain.specs.declared.session.Session.{Session}
use Rattle.co_plain.specs.Numbers.{TxnNumber, MemberNumber, CoordNumber, CallNumber}
use Rattle.co_plain.specs.LogWrite.{with_stop}
use Rattle.co_plain.specs.declared.member_step.MemberStep.{MemberStep}
use Rattle.co_plain.specs.MemberStep.{with_log}
use Rattle.co_plain.specs.Member.{member_op, member_deliver, member_vote, member_timer, member_ask, member_decide, coord_of}
use Rattle.co_plain.specs.MemberLog.{member_checkpoint, member_crash, member_restart, member_arm}
use Rattle.co_plain.specs.LocalCommit.{member_local_commit, member_local_abort}
use Rattle.co_plain.specs.declared.coord_step.CoordStep.{CoordStep}
use Rattle.co_plain.specs.CoordStep.{with_coord_log}
use Rattle.co_plain.specs.Coordinator.{coord_begin, coord_commit, coord_abort, coord_deliver, coord_timer, coord_resend}
use Rattle.co_plain.specs.CoordLog.{coord_checkpoint, coord_crash, coord_restart, coord_arm}
use Rattle.co_plain.specs.Sessions.{Leave, Refuses, Grants, leave_to_visit, leave_to_end, count_at, parts_of, begun_by, with_told, asked_to_end}
use Rattle.co_plain.specs.Wire.{was_sent}
use Rattle.co_plain.specs.Federation.{Federation, Stepped, answers, with_session, at_member, at_coord}

-- a member's step, where it is up
abbrev pub up_member : Federation → MemberNumber → Bool → MemberStep → Stepped
up_member s m true did = at_member s m did
up_member s m false did = answers s (answer.Down (node.Member m))

abbrev pub member_step : Federation → MemberNumber → (MemberState → MemberStep) → Stepped
member_step s m does = up_member s m (s.member m).up (does (s.member m))

-- a coordinator's step, where it is up
abbrev pub up_coord : Federation → CoordNumber → Bool → CoordStep → Stepped
up_coord s c true did = at_coord s c did
up_coord s c false did = answers s (answer.Down (node.Coord c))

abbrev pub coord_step : Federation → CoordNumber → (CoordState → CoordStep) → Stepped
coord_step s c does = up_coord s c (s.coord c).up (does (s.coord c))

-- whether a number may not be begun: it was begun in this run, or stands in an opened log
abbrev pub is_used : Federation → TxnNumber → Bool
is_used s t = holds s.sessions t || holds s.used t

-- a client begins at a coordinator; the number is used up only where the coordinator was up
abbrev pub begin_where : Federation → TxnNumber → CoordNumber → Bool → Bool → Stepped
begin_where s t c true up = answers s answer.Used
begin_where s t c false true = at_coord (with_session s t (begun_by (node.Coord c))) c (coord_begin (s.coord c) t)
begin_where s t c false false = answers s (answer.Down (node.Coord c))

-- a client begins at a member, which will decide alone
abbrev pub local_where : Federation → TxnNumber → MemberNumber → Bool → Bool → Stepped
local_where s t m true up = answers s answer.Used
local_where s t m false true = answers (with_session s t (begun_by (node.Member m))) answer.Begun
local_where s t m false false = answers s (answer.Down (node.Member m))

-- the reply among the answers to an operation
abbrev pub reply_in : Answer → Option Reply
reply_in (answer.Replied reply) = Some reply
reply_in _ = None

-- a reply is entered in the session
abbrev pub entered : Federation → TxnNumber → Session → MemberNumber → Op → Option Reply → Federation
entered s t session m o None = s
entered s t session m o (Some reply) =
    with_session s t (with_told session (record { site = record { member = m; op = o }; reply = reply }))

abbrev pub operated : Federation → TxnNumber → Session → MemberNumber → Op → Bool → MemberStep → Stepped
operated s t session m o true did = at_member (entered s t session m o (reply_in did.answer)) m did
operated s t session m o false did = answers s (answer.Down (node.Member m))

abbrev pub operate_with : Federation → TxnNumber → MemberNumber → Op → Leave → Stepped
operate_with s t m o (Refuses a) = answers s a
operate_with s t m o (Grants session) =
    operated s t session m o (s.member m).up (member_op (s.member m) t (count_at session.told m) o)

abbrev pub operate : Federation → TxnNumber → MemberNumber → Op → Stepped
operate s t m o = operate_with s t m o (leave_to_visit (look s.sessions t) m)

-- whether the deciding node answered: a stopped coordinator did not, and a local commit that is held did not
abbrev pub is_stopped : Answer → Bool
is_stopped (answer.Stopped call) = true
is_stopped _ = false

abbrev pub is_held : Answer → Bool
is_held (answer.Held u) = true
is_held _ = false

abbrev pub marked_asked : Federation → TxnNumber → Session → Bool → Federation
marked_asked s t session true = with_session s t (asked_to_end session)
marked_asked s t session false = s

abbrev pub coord_answers : Federation → TxnNumber → Session → CoordNumber → Bool → CoordStep → Stepped
coord_answers s t session c true did = at_coord (marked_asked s t session (not (is_stopped did.answer))) c did
coord_answers s t session c false did = answers s (answer.Down (node.Coord c))

abbrev pub local_answers : Federation → TxnNumber → Session → MemberNumber → Bool → MemberStep → Stepped
local_answers s t session m true did = at_member (marked_asked s t session (not (is_held did.answer))) m did
local_answers s t session m false did = answers s (answer.Down (node.Member m))

-- the client asks the deciding node for the commit
abbrev pub commit_at : Federation → TxnNumber → Session → Node → Stepped
commit_at s t session (node.Coord c) =
    coord_answers s t session c (s.coord c).up (coord_commit c (s.coord c) t (parts_of session.told))
commit_at s t session (node.Member m) =
    local_answers s t session m (s.member m).up (member_local_commit m (s.member m) t (count_at session.told m))

abbrev pub commit_with : Federation → TxnNumber → Leave → Stepped
commit_with s t (Refuses a) = answers s a
commit_with s t (Grants session) = commit_at s t session session.by

-- the client asks the deciding node for the abort
abbrev pub abort_at : Federation → TxnNumber → Session → Node → Stepped
abort_at s t session (node.Coord c) =
    coord_answers s t session c (s.coord c).up (coord_abort c (s.coord c) t (parts_of session.told))
abort_at s t session (node.Member m) = local_answers s t session m (s.member m).up (member_local_abort (s.member m) t)

abbrev pub abort_with : Federation → TxnNumber → Leave → Stepped
abort_with s t (Refuses a) = answers s a
abort_with s t (Grants session) = abort_at s t session session.by

-- a message that was sent arrives
abbrev pub arrives : Federation → Message → Stepped
arrives s (message.Prepare t c m n) = member_step s m (λ x. member_deliver m x (message.Prepare t c m n))
arrives s (message.Decide t c m commit) = member_step s m (λ x. member_deliver m x (message.Decide t c m commit))
arrives s (message.Vote t m c granted) = coord_step s c (λ x. coord_deliver c x (message.Vote t m c granted))
arrives s (message.Ask t m c) = coord_step s c (λ x. coord_deliver c x (message.Ask t m c))
arrives s (message.Ack t m c) = coord_step s c (λ x. coord_deliver c x (message.Ack t m c))

abbrev pub deliver : Federation → Message → Stepped
deliver s note = if was_sent s.sent note then arrives s note else answers s answer.Unsent

abbrev pub timer_at : Federation → TxnNumber → Node → Stepped
timer_at s t (node.Member m) = member_step s m (λ x. member_timer x t)
timer_at s t (node.Coord c) = coord_step s c (λ x. coord_timer c x t)

abbrev pub crash_at : Federation → Node → Stepped
crash_at s (node.Member m) = member_step s m member_crash
crash_at s (node.Coord c) = coord_step s c coord_crash

-- a restart is answered by a node that is down too
abbrev pub restart_at : Federation → Node → Stepped
restart_at s (node.Member m) = at_member s m (member_restart (s.member m))
restart_at s (node.Coord c) = at_coord s c (coord_restart (s.coord c))

abbrev pub arm_at : Federation → CallNumber → Leaves → Node → Stepped
arm_at s call leaves (node.Member m) = member_step s m (λ x. member_arm x call leaves)
arm_at s call leaves (node.Coord c) = coord_step s c (λ x. coord_arm x call leaves)

abbrev pub checkpoint_at : Federation → Node → Stepped
checkpoint_at s (node.Member m) = member_step s m (member_checkpoint m)
checkpoint_at s (node.Coord c) = coord_step s c (coord_checkpoint c)

-- the event of a schedule line
abbrev pub step_line : Federation → Event → Stepped
step_line s (event.Begin t c) = begin_where s t c (is_used s t) (s.coord c).up
step_line s (event.Local t m) = local_where s t m (is_used s t) (s.member m).up
step_line s (event.Read t m key) = operate s t m (op.Read key)
step_line s (event.Write t m key value) = operate s t m (op.Write key value)
step_line s (event.Erase t m key) = operate s t m (op.Erase key)
step_line s (event.Scan t m span) = operate s t m (op.Scan span)
step_line s (event.Commit t) = commit_with s t (leave_to_end (look s.sessions t))
step_line s (event.Abort t) = abort_with s t (leave_to_end (look s.sessions t))
step_line s (event.Deliver note) = deliver s note
step_line s (event.Vote t m) = member_step s m (λ x. member_vote m x t)
step_line s (event.Timer t at) = timer_at s t at
step_line s (event.Ask t m) = member_step s m (λ x. member_ask m x t)
step_line s (event.Resend t c) = coord_step s c (λ x. coord_resend c x t)
step_line s (event.Crash at) = crash_at s at
step_line s (event.Restart at) = restart_at s at
step_line s (event.Arm at call leaves) = arm_at s call leaves at
step_line s (event.Checkpoint at) = checkpoint_at s at

-- every armed stop is taken away; this is no event and tells nothing
abbrev pub disarmed : Federation → Federation
disarmed s = record s { member = λ m. with_log (s.member m) (with_stop (s.member m).log None); coord = λ c. with_coord_log (s.coord c) (with_stop (s.coord c).log None) }

abbrev pub step : Federation → Happening → Stepped
step s (happening.Line e) = step_line s e
step s (happening.Hand t m commit) = member_step s m (λ x. member_decide m x t (coord_of x t) commit)
step s happening.Disarm = record { state = disarmed s; items = [] }
