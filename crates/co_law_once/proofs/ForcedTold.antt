-- The items of every step tell exactly of the records that its moves force.
use Rattle.std.proofs.Common.{◌≡◌, ℕ, Bool, true, false, ◌==◌, if◌then◌else◌, List, [], ◌∷◌, Option, None, Some, refl, ◌∙◌}
use Rattle.co_base.specs.declared.leaves.Leaves.{Leaves}
use Rattle.co_base.specs.declared.node.Node.{Node}
use Rattle.co_base.specs.declared.node.Node.TheVariants as node
use Rattle.co_base.specs.declared.op.Op.{Op}
use Rattle.co_base.specs.declared.op.Op.TheVariants as op
use Rattle.co_base.specs.Limits.{most_operations}
use Rattle.co_message.specs.declared.answer.Answer.TheVariants as answer
use Rattle.co_message.specs.declared.event.Event.{Event}
use Rattle.co_message.specs.declared.event.Event.TheVariants as event
use Rattle.co_message.specs.declared.message.Message.{Message}
use Rattle.co_message.specs.declared.message.Message.TheVariants as message
use Rattle.co_state.specs.Table.{look}
use Rattle.co_state.specs.LockRule.{lock_blocker}
use Rattle.co_state.specs.VotingRule.{kept_count}
use Rattle.co_plain.specs.declared.coord_state.CoordState.{CoordState}
use Rattle.co_plain.specs.declared.coord_step.CoordStep.{CoordStep}
use Rattle.co_plain.specs.declared.happening.Happening.{Happening}
use Rattle.co_plain.specs.declared.happening.Happening.TheVariants as happening
use Rattle.co_plain.specs.declared.member_state.MemberState.{MemberState}
use Rattle.co_plain.specs.declared.member_step.MemberStep.{MemberStep}
use Rattle.co_plain.specs.declared.session.Session.{Session}
use Rattle.co_plain.specs.Numbers.{counted}
use Rattle.co_plain.specs.MemberStep.{says, standing_of}
use Rattle.co_plain.specs.Member.{unless_blocked, coord_of, member_op, member_deliver, member_vote, member_timer, member_ask, member_decide}
use Rattle.co_plain.specs.MemberLog.{member_checkpoint, member_crash, member_arm, member_restart}
use Rattle.co_plain.specs.LocalCommit.{member_local_commit, member_local_abort}
use Rattle.co_plain.specs.Coordinator.{coord_commit, coord_abort, coord_deliver, coord_timer, coord_resend}
use Rattle.co_plain.specs.CoordLog.{coord_checkpoint, coord_crash, coord_arm, coord_restart}
use Rattle.co_plain.specs.Sessions.{Leave, Refuses, Grants, parts_of, leave_to_visit, leave_to_end, count_at}
use Rattle.co_plain.specs.Wire.{was_sent}
use Rattle.co_plain.specs.Federation.{Federation, Stepped, answers, at_member, at_coord, message_list}
use Rattle.co_plain.specs.Moves.{Move, Begin, BeginLocal, CrashMember, CrashCoord, ArmMember, ArmCoord, RestartMember, RestartCoord}
use Rattle.co_plain.specs.Step.{up_member, member_step, up_coord, coord_step, coord_answers, local_answers, is_used, begin_where, local_where, operated, operate_with, commit_at, commit_with, abort_at, abort_with, arrives, deliver, timer_at, crash_at, restart_at, arm_at, checkpoint_at, step_line, step}
use Rattle.co_law_base.proofs.Facts.{Facts, rest_of}
use Rattle.co_law_moves.specs.EventMoves.{where_up, unless_lock, operation_moves, operate_with_moves, begin_moves, restart_moves, commit_entry_moves, local_commit_moves, commit_at_moves, commit_with_moves, abort_entry_moves, local_abort_moves, abort_at_moves, abort_with_moves, prepare_moves, commit_moves, abort_moves, decision_moves, yes_moves, no_moves, ask_moves, ack_moves, arrival_moves, timer_moves, coord_timer_moves, timer_at_moves, crash_at_moves, restart_at_moves, arm_at_moves, member_checkpoint_moves, coord_checkpoint_moves, checkpoint_at_moves, again_moves, question_moves, resend_moves, line_moves, moves_of}
use Rattle.co_law_moves.specs.MoveTraces.{told_with}
use Rattle.co_law_once.proofs.ForcedMarks.{forced_in, marks_by, items_forced, AllWait, aborts_wait, ends_wait}
use Rattle.co_law_once.proofs.ForcedAtMember as members
use Rattle.co_law_once.proofs.ForcedAtCoord as coords

abbrev pub Says : List Move → Stepped → Type 0
Says moves z = forced_in z.items ≡ marks_by moves

at_m : (s : Federation) (m : ℕ) (did : MemberStep) (moves : List Move) → members.MemberTells did moves → Says moves (at_member s m did)
at_m s m did moves t = items_forced did.marks (message_list did.sent) did.answer ∙ t

at_c : (s : Federation) (c : ℕ) (did : CoordStep) (moves : List Move) → coords.CoordTells did moves → Says moves (at_coord s c did)
at_c s c did moves t = items_forced did.marks did.sent did.answer ∙ t

module _ (s : Federation) (f : Facts s) where
  mw : (m : ℕ) → AllWait (s.member m).log.waiting
  mw m = aborts_wait (rest_of s) (s.member m).log.waiting (f.members m).waiting

  cw : (c : ℕ) → AllWait (s.coord c).log.waiting
  cw c = ends_wait (s.coord c).log.waiting (f.coords c).ends

  -- a step of a node that is up
  where_member : (m : ℕ) (does : MemberState → MemberStep) (moves : List Move) → members.MemberTells (does (s.member m)) moves → Says (where_up (s.member m).up moves) (member_step s m does)
  where_member m does moves h = by (s.member m).up
    where
      by : (up : Bool) → Says (where_up up moves) (up_member s m up (does (s.member m)))
      by true = at_m s m (does (s.member m)) moves h
      by false = refl

  where_coord : (c : ℕ) (does : CoordState → CoordStep) (moves : List Move) → coords.CoordTells (does (s.coord c)) moves → Says (where_up (s.coord c).up moves) (coord_step s c does)
  where_coord c does moves h = by (s.coord c).up
    where
      by : (up : Bool) → Says (where_up up moves) (up_coord s c up (does (s.coord c)))
      by true = at_c s c (does (s.coord c)) moves h
      by false = refl

  begins : (t c : ℕ) (used up : Bool) → Says (begin_moves (Begin t c) used up) (begin_where s t c used up)
  begins t c true up = refl
  begins t c false true = refl
  begins t c false false = refl

  begins_local : (t m : ℕ) (used up : Bool) → Says (begin_moves (BeginLocal t m) used up) (local_where s t m used up)
  begins_local t m true up = refl
  begins_local t m false true = refl
  begins_local t m false false = refl

  operates : (t m : ℕ) (o : Op) (leave : Leave) → Says (operate_with_moves s t m o leave) (operate_with s t m o leave)
  operates t m o (Refuses a) = refl
  operates t m o (Grants session) = by (s.member m).up
    where
      carried : ℕ
      carried = count_at session.told m

      blocked : (z : Option ℕ) → members.MemberTells (unless_blocked (s.member m) t o z) (unless_lock t m o z)
      blocked None = refl
      blocked (Some u) = refl

      full : (b : Bool) → members.MemberTells (if b then says (s.member m) answer.TooMany else unless_blocked (s.member m) t o (lock_blocker (s.member m).engine t o)) (if b then [] else unless_lock t m o (lock_blocker (s.member m).engine t o))
      full true = refl
      full false = blocked (lock_blocker (s.member m).engine t o)

      kept : (b : Bool) →
          members.MemberTells (if b
          then (if carried == most_operations then says (s.member m) answer.TooMany else unless_blocked (s.member m) t o (lock_blocker (s.member m).engine t o))
          else says (s.member m) (answer.Gone (counted (kept_count (s.member m).engine t)) (counted carried)))
          (if b then (if carried == most_operations then [] else unless_lock t m o (lock_blocker (s.member m).engine t o)) else [])
      kept true = full (carried == most_operations)
      kept false = refl

      done : members.MemberTells (member_op (s.member m) t carried o) (operation_moves (s.member m) t m o carried)
      done = kept (kept_count (s.member m).engine t == carried)

      by : (up : Bool) → Says (where_up up (operation_moves (s.member m) t m o carried)) (operated s t session m o up (member_op (s.member m) t carried o))
      by true = items_forced (member_op (s.member m) t carried o).marks (message_list (member_op (s.member m) t carried o).sent) (member_op (s.member m) t carried o).answer ∙ done
      by false = refl

  -- a client asks for the end
  commits_at : (t : ℕ) (session : Session) (at : Node) → Says (commit_at_moves s t session at) (commit_at s t session at)
  commits_at t session (node.Coord c) = by (s.coord c).up
    where
      by : (up : Bool) → Says (where_up up (commit_entry_moves (s.coord c) t c (parts_of session.told) (look (s.coord c).table t))) (coord_answers s t session c up (coord_commit c (s.coord c) t (parts_of session.told)))
      by true = at_c s c (coord_commit c (s.coord c) t (parts_of session.told)) (commit_entry_moves (s.coord c) t c (parts_of session.told) (look (s.coord c).table t)) (coords.commit_told c (s.coord c) (cw c) t (parts_of session.told) (look (s.coord c).table t))
      by false = refl
  commits_at t session (node.Member m) = by (s.member m).up
    where
      by : (up : Bool) → Says (where_up up (local_commit_moves (s.member m) t m (count_at session.told m))) (local_answers s t session m up (member_local_commit m (s.member m) t (count_at session.told m)))
      by true = at_m s m (member_local_commit m (s.member m) t (count_at session.told m)) (local_commit_moves (s.member m) t m (count_at session.told m)) (members.local_commit_told m (s.member m) (mw m) t (count_at session.told m))
      by false = refl

  commits : (t : ℕ) (leave : Leave) → Says (commit_with_moves s t leave) (commit_with s t leave)
  commits t (Refuses a) = refl
  commits t (Grants session) = commits_at t session session.by

  aborts_at : (t : ℕ) (session : Session) (at : Node) → Says (abort_at_moves s t session at) (abort_at s t session at)
  aborts_at t session (node.Coord c) = by (s.coord c).up
    where
      by : (up : Bool) → Says (where_up up (abort_entry_moves t c (parts_of session.told) (look (s.coord c).table t))) (coord_answers s t session c up (coord_abort c (s.coord c) t (parts_of session.told)))
      by true = at_c s c (coord_abort c (s.coord c) t (parts_of session.told)) (abort_entry_moves t c (parts_of session.told) (look (s.coord c).table t)) (coords.abort_told c (s.coord c) (cw c) t (parts_of session.told) (look (s.coord c).table t))
      by false = refl
  aborts_at t session (node.Member m) = by (s.member m).up
    where
      by : (up : Bool) → Says (where_up up (local_abort_moves t m (standing_of (s.member m) t))) (local_answers s t session m up (member_local_abort (s.member m) t))
      by true = at_m s m (member_local_abort (s.member m) t) (local_abort_moves t m (standing_of (s.member m) t)) (members.local_abort_told m (s.member m) (mw m) t (standing_of (s.member m) t))
      by false = refl

  aborts : (t : ℕ) (leave : Leave) → Says (abort_with_moves s t leave) (abort_with s t leave)
  aborts t (Refuses a) = refl
  aborts t (Grants session) = aborts_at t session session.by

  -- a message arrives
  arrival : (note : Message) → Says (arrival_moves s note) (arrives s note)
  arrival (message.Prepare t c m n) =
      where_member m (λ x. member_deliver m x (message.Prepare t c m n)) (prepare_moves (s.member m) t m c n (standing_of (s.member m) t)) (members.prepare_told m (s.member m) (mw m) t c n (standing_of (s.member m) t))
  arrival (message.Decide t c m true) =
      where_member m (λ x. member_deliver m x (message.Decide t c m true)) (commit_moves (s.member m) t m c (standing_of (s.member m) t)) (members.commit_told m (s.member m) (mw m) t c (standing_of (s.member m) t))
  arrival (message.Decide t c m false) =
      where_member m (λ x. member_deliver m x (message.Decide t c m false)) (abort_moves t m (standing_of (s.member m) t)) (members.abort_told m (s.member m) (mw m) t (standing_of (s.member m) t))
  arrival (message.Vote t m c true) =
      where_coord c (λ y. coord_deliver c y (message.Vote t m c true)) (yes_moves (s.coord c) t c m (look (s.coord c).table t)) (coords.yes_told c (s.coord c) (cw c) t m (look (s.coord c).table t))
  arrival (message.Vote t m c false) =
      where_coord c (λ y. coord_deliver c y (message.Vote t m c false)) (no_moves t c m (look (s.coord c).table t)) (coords.no_told c (s.coord c) (cw c) t m (look (s.coord c).table t))
  arrival (message.Ask t m c) =
      where_coord c (λ y. coord_deliver c y (message.Ask t m c)) (ask_moves t c m (look (s.coord c).table t)) (coords.ask_entry_told c (s.coord c) (cw c) t m (look (s.coord c).table t))
  arrival (message.Ack t m c) =
      where_coord c (λ y. coord_deliver c y (message.Ack t m c)) (ack_moves t c m (look (s.coord c).table t)) (coords.ack_told c (s.coord c) (cw c) t m (look (s.coord c).table t))

  delivers : (note : Message) → Says (if was_sent s.sent note then arrival_moves s note else []) (deliver s note)
  delivers note = by (was_sent s.sent note)
    where
      by : (b : Bool) → Says (if b then arrival_moves s note else []) (if b then arrives s note else answers s answer.Unsent)
      by true = arrival note
      by false = refl

  timer : (t : ℕ) (at : Node) → Says (timer_at_moves s t at) (timer_at s t at)
  timer t (node.Member m) = where_member m (λ x. member_timer x t) (timer_moves t m (standing_of (s.member m) t)) (members.timer_told m (s.member m) (mw m) t (standing_of (s.member m) t))
  timer t (node.Coord c) = where_coord c (λ y. coord_timer c y t) (coord_timer_moves t c (look (s.coord c).table t)) (coords.timer_told c (s.coord c) (cw c) t (look (s.coord c).table t))

  crash : (at : Node) → Says (crash_at_moves s at) (crash_at s at)
  crash (node.Member m) = where_member m member_crash (CrashMember m ∷ []) refl
  crash (node.Coord c) = where_coord c coord_crash (CrashCoord c ∷ []) refl

  restart : (at : Node) → Says (restart_at_moves s at) (restart_at s at)
  restart (node.Member m) = at_m s m (member_restart (s.member m)) (restart_moves (RestartMember m) (s.member m).up) (members.restart_told m (s.member m) (mw m) (s.member m).up)
  restart (node.Coord c) = at_c s c (coord_restart (s.coord c)) (restart_moves (RestartCoord c) (s.coord c).up) (coords.restart_told c (s.coord c) (cw c) (s.coord c).up)

  arm : (call : ℕ) (leaves : Leaves) (at : Node) → Says (arm_at_moves s call leaves at) (arm_at s call leaves at)
  arm call leaves (node.Member m) = where_member m (λ x. member_arm x call leaves) (ArmMember m (Some (record { call = call; leaves = leaves })) ∷ []) refl
  arm call leaves (node.Coord c) = where_coord c (λ y. coord_arm y call leaves) (ArmCoord c (Some (record { call = call; leaves = leaves })) ∷ []) refl

  checkpoint : (at : Node) → Says (checkpoint_at_moves s at) (checkpoint_at s at)
  checkpoint (node.Member m) = where_member m (member_checkpoint m) (member_checkpoint_moves (s.member m) m (s.member m).log.spare_closed) (members.checkpoint_told m (s.member m) (mw m) (s.member m).log.spare_closed)
  checkpoint (node.Coord c) = where_coord c (coord_checkpoint c) (coord_checkpoint_moves (s.coord c) c (s.coord c).log.spare_closed) (coords.checkpoint_told c (s.coord c) (cw c) (s.coord c).log.spare_closed)

  line : (e : Event) → Says (line_moves s e) (step_line s e)
  line (event.Begin t c) = begins t c (is_used s t) (s.coord c).up
  line (event.Local t m) = begins_local t m (is_used s t) (s.member m).up
  line (event.Read t m key) = operates t m (op.Read key) (leave_to_visit (look s.sessions t) m)
  line (event.Write t m key value) = operates t m (op.Write key value) (leave_to_visit (look s.sessions t) m)
  line (event.Erase t m key) = operates t m (op.Erase key) (leave_to_visit (look s.sessions t) m)
  line (event.Scan t m span) = operates t m (op.Scan span) (leave_to_visit (look s.sessions t) m)
  line (event.Commit t) = commits t (leave_to_end (look s.sessions t))
  line (event.Abort t) = aborts t (leave_to_end (look s.sessions t))
  line (event.Deliver note) = delivers note
  line (event.Vote t m) = where_member m (λ x. member_vote m x t) (again_moves (s.member m) t m (standing_of (s.member m) t)) (members.again_told m (s.member m) (mw m) t (standing_of (s.member m) t))
  line (event.Timer t at) = timer t at
  line (event.Ask t m) = where_member m (λ x. member_ask m x t) (question_moves (s.member m) t m (standing_of (s.member m) t)) (members.question_told m (s.member m) (mw m) t (standing_of (s.member m) t))
  line (event.Resend t c) = where_coord c (λ y. coord_resend c y t) (resend_moves t c (look (s.coord c).table t)) (coords.resend_told c (s.coord c) (cw c) t (look (s.coord c).table t))
  line (event.Crash at) = crash at
  line (event.Restart at) = restart at
  line (event.Arm at call leaves) = arm call leaves at
  line (event.Checkpoint at) = checkpoint at

  hand : (t m : ℕ) (commit : Bool) → Says (where_up (s.member m).up (decision_moves (s.member m) t m (coord_of (s.member m) t) commit)) (step s (happening.Hand t m commit))
  hand t m true =
      where_member m (λ x. member_decide m x t (coord_of x t) true) (commit_moves (s.member m) t m (coord_of (s.member m) t) (standing_of (s.member m) t)) (members.commit_told m (s.member m) (mw m) t (coord_of (s.member m) t) (standing_of (s.member m) t))
  hand t m false =
      where_member m (λ x. member_decide m x t (coord_of x t) false) (abort_moves t m (standing_of (s.member m) t)) (members.abort_told m (s.member m) (mw m) t (standing_of (s.member m) t))

-- what a step tells of forced records; the event itself tells of none
pub step_forced : (s : Federation) → Facts s → (h : Happening) → forced_in (told_with h (step s h).items) ≡ marks_by (moves_of s h)
step_forced s f (happening.Line e) = line s f e
step_forced s f (happening.Hand t m commit) = hand s f t m commit
step_forced s f happening.Disarm = refl
