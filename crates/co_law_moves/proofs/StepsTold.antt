-- The items of every event tell exactly of its moves.
use Rattle.std.proofs.Common.{◌≡◌, ℕ, Bool, true, false, ◌==◌, if◌then◌else◌, List, [], ◌∷◌, ◌++◌, Option, None, Some, refl, sym, ap, ◌∙◌}
use Rattle.co_base.specs.declared.leaves.Leaves.{Leaves}
use Rattle.co_base.specs.declared.node.Node.{Node}
use Rattle.co_base.specs.declared.node.Node.TheVariants as node
use Rattle.co_base.specs.declared.op.Op.{Op}
use Rattle.co_base.specs.declared.op.Op.TheVariants as op
use Rattle.co_base.specs.Limits.{most_operations}
use Rattle.co_message.specs.declared.answer.Answer.TheVariants as answer
use Rattle.co_message.specs.declared.event.Event.{Event}
use Rattle.co_message.specs.declared.event.Event.TheVariants as event
use Rattle.co_message.specs.declared.message.Message.{Message}
use Rattle.co_message.specs.declared.message.Message.TheVariants as message
use Rattle.co_state.specs.Table.{look}
use Rattle.co_plain.specs.declared.coord_state.CoordState.{CoordState}
use Rattle.co_plain.specs.declared.happening.Happening.{Happening}
use Rattle.co_plain.specs.declared.happening.Happening.TheVariants as happening
use Rattle.co_plain.specs.declared.member_state.MemberState.{MemberState}
use Rattle.co_plain.specs.declared.session.Session.{Session}
use Rattle.co_plain.specs.MemberStep.{standing_of}
use Rattle.co_plain.specs.declared.member_step.MemberStep.{MemberStep}
use Rattle.co_plain.specs.declared.coord_step.CoordStep.{CoordStep}
use Rattle.co_plain.specs.Member.{coord_of, member_deliver, member_vote, member_timer, member_ask, member_decide}
use Rattle.co_plain.specs.MemberLog.{member_checkpoint, member_crash, member_arm, member_restart}
use Rattle.co_plain.specs.LocalCommit.{member_local_commit, member_local_abort}
use Rattle.co_plain.specs.Coordinator.{coord_commit, coord_abort, coord_deliver, coord_timer, coord_resend}
use Rattle.co_plain.specs.CoordLog.{coord_checkpoint, coord_crash, coord_arm, coord_restart}
use Rattle.co_plain.specs.Sessions.{Refuses, Grants, parts_of, leave_to_visit, leave_to_end, unless_asked, may_visit, count_at}
use Rattle.co_plain.specs.Wire.{was_sent}
use Rattle.co_plain.specs.Federation.{Federation, Stepped, answers, at_member, at_coord, message_list}
use Rattle.co_plain.specs.CommitmentOrder.{trace_from, traced_answer, operation_in, operated_by}
use Rattle.co_message.specs.declared.item.ItemKind.{ItemKind}
use Rattle.co_message.specs.declared.item.ItemKind.TheVariants as item
use Rattle.co_message.specs.declared.answer.Answer.{Answer}
use Rattle.co_plain.specs.MemberStep.{says}
use Rattle.co_plain.specs.Member.{unless_blocked, member_op}
use Rattle.co_plain.specs.Numbers.{counted}
use Rattle.co_state.specs.LockRule.{lock_blocker}
use Rattle.co_state.specs.ReadRule.{operation_reply}
use Rattle.co_state.specs.VotingRule.{kept_count}
use Rattle.co_plain.specs.Step.{operated}
use Rattle.co_law_base.proofs.Facts.{OnlyAborts, rest_of}
use Rattle.co_law_moves.specs.EventMoves.{unless_lock, operation_moves}
use Rattle.co_law_moves.specs.MoveTraces.{moves_trace, told_with, messages_in, sent_by}
use Rattle.co_plain.specs.Step.{up_member, member_step, up_coord, coord_step, coord_answers, local_answers, is_used, begin_where, local_where, operate, operate_with, commit_at, commit_with, abort_at, abort_with, arrives, deliver, timer_at, crash_at, restart_at, arm_at, checkpoint_at, step_line, step}
use Rattle.co_plain.specs.Moves.{Move, Begin, BeginLocal, CrashMember, CrashCoord, ArmMember, ArmCoord, RestartMember, RestartCoord}
use Rattle.co_law_base.proofs.Facts.{Facts}
use Rattle.co_law_moves.specs.EventMoves.{where_up, begin_moves, restart_moves, operate_moves, operate_with_moves, commit_entry_moves, local_commit_moves, commit_at_moves, commit_with_moves, abort_entry_moves, local_abort_moves, abort_at_moves, abort_with_moves, prepare_moves, commit_moves, abort_moves, decision_moves, yes_moves, no_moves, ask_moves, ack_moves, arrival_moves, timer_moves, coord_timer_moves, timer_at_moves, crash_at_moves, restart_at_moves, arm_at_moves, member_checkpoint_moves, coord_checkpoint_moves, checkpoint_at_moves, again_moves, question_moves, resend_moves, line_moves, moves_of}
use Rattle.co_law_moves.proofs.ItemsTold.{tells_items, items_messages}
use Rattle.co_law_moves.proofs.NodesTold as nodes

abbrev pub Says : Federation → Option Event → List Move → Stepped → Type 0
Says s last moves z =
    ((rest : List ItemKind) → trace_from last (z.items ++ rest) ≡ moves_trace moves s ++ trace_from None rest) × (messages_in z.items ≡ sent_by moves)

-- an answer that changes nothing
refused : (last : Option Event) (s : Federation) (a : Answer) → ((e : Event) → traced_answer e a ≡ []) → Says s last [] (answers s a)
refused None s a q = (λ rest. refl, refl)
refused (Some e) s a q = (λ rest. ap (λ k. k ++ trace_from None rest) (q e), refl)

at_m : (last : Option Event) (s : Federation) (m : ℕ) (did : MemberStep) (moves : List Move) → nodes.MemberTells did moves → Says s last moves (at_member s m did)
at_m last s m did moves t = (tells_items last did.marks (message_list did.sent) did.answer moves t s, items_messages did.marks (message_list did.sent) did.answer ∙ sym t.2)

at_c : (last : Option Event) (s : Federation) (c : ℕ) (did : CoordStep) (moves : List Move) → nodes.CoordTells did moves → Says s last moves (at_coord s c did)
at_c last s c did moves t = (tells_items last did.marks did.sent did.answer moves t s, items_messages did.marks did.sent did.answer ∙ sym t.2)

module _ (s : Federation) (f : Facts s) where
  w : (m : ℕ) → OnlyAborts (rest_of s) (s.member m).log.waiting
  w m = (f.members m).waiting

  -- a step of a node that is up
  where_member : (last : Option Event) (m : ℕ) (does : MemberState → MemberStep) (moves : List Move) → nodes.MemberTells (does (s.member m)) moves → Says s last (where_up (s.member m).up moves) (member_step s m does)
  where_member last m does moves h = by (s.member m).up
    where
      by : (up : Bool) → Says s last (where_up up moves) (up_member s m up (does (s.member m)))
      by true = at_m last s m (does (s.member m)) moves h
      by false = refused last s (answer.Down (node.Member m)) (λ e. refl)

  where_coord : (last : Option Event) (c : ℕ) (does : CoordState → CoordStep) (moves : List Move) → nodes.CoordTells (does (s.coord c)) moves → Says s last (where_up (s.coord c).up moves) (coord_step s c does)
  where_coord last c does moves h = by (s.coord c).up
    where
      by : (up : Bool) → Says s last (where_up up moves) (up_coord s c up (does (s.coord c)))
      by true = at_c last s c (does (s.coord c)) moves h
      by false = refused last s (answer.Down (node.Coord c)) (λ e. refl)

  begins : (t c : ℕ) (used up : Bool) → Says s (Some (event.Begin t c)) (begin_moves (Begin t c) used up) (begin_where s t c used up)
  begins t c true up = (λ rest. refl, refl)
  begins t c false true = (λ rest. refl, refl)
  begins t c false false = (λ rest. refl, refl)

  begins_local : (t m : ℕ) (used up : Bool) → Says s (Some (event.Local t m)) (begin_moves (BeginLocal t m) used up) (local_where s t m used up)
  begins_local t m true up = (λ rest. refl, refl)
  begins_local t m false true = (λ rest. refl, refl)
  begins_local t m false false = (λ rest. refl, refl)

  -- an operation
  operation : (e : Event) (t m : ℕ) (o : Op) → operation_in e ≡ Some (t, m, o) → (session : Session) (up : Bool) →
      Says s (Some e) (where_up up (operation_moves (s.member m) t m o (count_at session.told m))) (operated s t session m o up (member_op (s.member m) t (count_at session.told m) o))
  operation e t m o q session false = refused (Some e) s (answer.Down (node.Member m)) (λ e. refl)
  operation e t m o q session true = kept (kept_count (s.member m).engine t == count_at session.told m)
    where
      blocked : (z : Option ℕ) (rest : List ItemKind) → trace_from (Some e) (item.Answered (unless_blocked (s.member m) t o z).answer ∷ rest) ≡ moves_trace (unless_lock t m o z) s ++ trace_from None rest
      blocked (Some u) rest = refl
      blocked None rest = ap (λ k. operated_by k (operation_reply (s.member m).engine t o) ++ trace_from None rest) q

      marks_none : (z : Option ℕ) (rest : List ItemKind) → ((at_member s m (unless_blocked (s.member m) t o z)).items ++ rest) ≡ item.Answered (unless_blocked (s.member m) t o z).answer ∷ rest
      marks_none (Some u) rest = refl
      marks_none None rest = refl

      silent : (z : Option ℕ) → messages_in (at_member s m (unless_blocked (s.member m) t o z)).items ≡ sent_by (unless_lock t m o z)
      silent (Some u) = refl
      silent None = refl

      full : (b : Bool) → Says s (Some e) (if b then [] else unless_lock t m o (lock_blocker (s.member m).engine t o)) (at_member s m (if b then says (s.member m) answer.TooMany else unless_blocked (s.member m) t o (lock_blocker (s.member m).engine t o)))
      full true = (λ rest. refl, refl)
      full false =
          (λ rest. ap (trace_from (Some e)) (marks_none (lock_blocker (s.member m).engine t o) rest) ∙ blocked (lock_blocker (s.member m).engine t o) rest, silent (lock_blocker (s.member m).engine t o))

      kept : (b : Bool) → Says s (Some e) (if b then (if count_at session.told m == most_operations then [] else unless_lock t m o (lock_blocker (s.member m).engine t o)) else [])
          (at_member s m (if b
          then (if count_at session.told m == most_operations then says (s.member m) answer.TooMany else unless_blocked (s.member m) t o (lock_blocker (s.member m).engine t o))
          else says (s.member m) (answer.Gone (counted (kept_count (s.member m).engine t)) (counted (count_at session.told m)))))
      kept false = (λ rest. refl, refl)
      kept true = full (count_at session.told m == most_operations)

  operates : (e : Event) (t m : ℕ) (o : Op) → operation_in e ≡ Some (t, m, o) → Says s (Some e) (operate_moves s t m o) (operate s t m o)
  operates e t m o q = by (look s.sessions t)
    where
      asked : (session : Session) (b : Bool) → Says s (Some e) (operate_with_moves s t m o (if b then Refuses answer.Asked else Grants session)) (operate_with s t m o (if b then Refuses answer.Asked else Grants session))
      asked session true = (λ rest. refl, refl)
      asked session false = operation e t m o q session (s.member m).up

      visits : (session : Session) (b : Bool) → Says s (Some e) (operate_with_moves s t m o (if b then unless_asked session else Refuses answer.NotBegun)) (operate_with s t m o (if b then unless_asked session else Refuses answer.NotBegun))
      visits session false = (λ rest. refl, refl)
      visits session true = asked session session.asked

      by : (z : Option Session) → Says s (Some e) (operate_with_moves s t m o (leave_to_visit z m)) (operate_with s t m o (leave_to_visit z m))
      by None = (λ rest. refl, refl)
      by (Some session) = visits session (may_visit session.by m)

  commits_at : (e : Event) (t : ℕ) (session : Session) (at : Node) → Says s (Some e) (commit_at_moves s t session at) (commit_at s t session at)
  commits_at e t session (node.Coord c) = by (s.coord c).up
    where
      by : (up : Bool) → Says s (Some e) (where_up up (commit_entry_moves (s.coord c) t c (parts_of session.told) (look (s.coord c).table t))) (coord_answers s t session c up (coord_commit c (s.coord c) t (parts_of session.told)))
      by true = at_c (Some e) s c (coord_commit c (s.coord c) t (parts_of session.told)) (commit_entry_moves (s.coord c) t c (parts_of session.told) (look (s.coord c).table t)) (nodes.commit_entry_told c (s.coord c) (f.coords c).ends t (parts_of session.told) (look (s.coord c).table t))
      by false = (λ rest. refl, refl)
  commits_at e t session (node.Member m) = by (s.member m).up
    where
      by : (up : Bool) → Says s (Some e) (where_up up (local_commit_moves (s.member m) t m (count_at session.told m))) (local_answers s t session m up (member_local_commit m (s.member m) t (count_at session.told m)))
      by true = at_m (Some e) s m (member_local_commit m (s.member m) t (count_at session.told m)) (local_commit_moves (s.member m) t m (count_at session.told m)) (nodes.local_commit_told (rest_of s) m (s.member m) (w m) t (count_at session.told m))
      by false = (λ rest. refl, refl)

  aborts_at : (e : Event) (t : ℕ) (session : Session) (at : Node) → Says s (Some e) (abort_at_moves s t session at) (abort_at s t session at)
  aborts_at e t session (node.Coord c) = by (s.coord c).up
    where
      by : (up : Bool) → Says s (Some e) (where_up up (abort_entry_moves t c (parts_of session.told) (look (s.coord c).table t))) (coord_answers s t session c up (coord_abort c (s.coord c) t (parts_of session.told)))
      by true = at_c (Some e) s c (coord_abort c (s.coord c) t (parts_of session.told)) (abort_entry_moves t c (parts_of session.told) (look (s.coord c).table t)) (nodes.abort_entry_told c (s.coord c) (f.coords c).ends t (parts_of session.told) (look (s.coord c).table t))
      by false = (λ rest. refl, refl)
  aborts_at e t session (node.Member m) = by (s.member m).up
    where
      by : (up : Bool) → Says s (Some e) (where_up up (local_abort_moves t m (standing_of (s.member m) t))) (local_answers s t session m up (member_local_abort (s.member m) t))
      by true = at_m (Some e) s m (member_local_abort (s.member m) t) (local_abort_moves t m (standing_of (s.member m) t)) (nodes.local_abort_told (rest_of s) m (s.member m) (w m) t (standing_of (s.member m) t))
      by false = (λ rest. refl, refl)

  commits : (e : Event) (t : ℕ) → Says s (Some e) (commit_with_moves s t (leave_to_end (look s.sessions t))) (commit_with s t (leave_to_end (look s.sessions t)))
  commits e t = by (look s.sessions t)
    where
      asked : (session : Session) (b : Bool) → Says s (Some e) (commit_with_moves s t (if b then Refuses answer.Asked else Grants session)) (commit_with s t (if b then Refuses answer.Asked else Grants session))
      asked session true = (λ rest. refl, refl)
      asked session false = commits_at e t session session.by

      by : (z : Option Session) → Says s (Some e) (commit_with_moves s t (leave_to_end z)) (commit_with s t (leave_to_end z))
      by None = (λ rest. refl, refl)
      by (Some session) = asked session session.asked

  aborts : (e : Event) (t : ℕ) → Says s (Some e) (abort_with_moves s t (leave_to_end (look s.sessions t))) (abort_with s t (leave_to_end (look s.sessions t)))
  aborts e t = by (look s.sessions t)
    where
      asked : (session : Session) (b : Bool) → Says s (Some e) (abort_with_moves s t (if b then Refuses answer.Asked else Grants session)) (abort_with s t (if b then Refuses answer.Asked else Grants session))
      asked session true = (λ rest. refl, refl)
      asked session false = aborts_at e t session session.by

      by : (z : Option Session) → Says s (Some e) (abort_with_moves s t (leave_to_end z)) (abort_with s t (leave_to_end z))
      by None = (λ rest. refl, refl)
      by (Some session) = asked session session.asked

  arrival : (last : Option Event) (note : Message) → Says s last (arrival_moves s note) (arrives s note)
  arrival last (message.Prepare t c m n) =
      where_member last m (λ x. member_deliver m x (message.Prepare t c m n)) (prepare_moves (s.member m) t m c n (standing_of (s.member m) t)) (nodes.prepare_told (rest_of s) m (s.member m) (w m) t c n (standing_of (s.member m) t))
  arrival last (message.Decide t c m true) =
      where_member last m (λ x. member_deliver m x (message.Decide t c m true)) (commit_moves (s.member m) t m c (standing_of (s.member m) t)) (nodes.commit_event_told (rest_of s) m (s.member m) (w m) t c (standing_of (s.member m) t))
  arrival last (message.Decide t c m false) =
      where_member last m (λ x. member_deliver m x (message.Decide t c m false)) (abort_moves t m (standing_of (s.member m) t)) (nodes.abort_event_told (rest_of s) m (s.member m) (w m) t (standing_of (s.member m) t))
  arrival last (message.Vote t m c true) =
      where_coord last c (λ y. coord_deliver c y (message.Vote t m c true)) (yes_moves (s.coord c) t c m (look (s.coord c).table t)) (nodes.yes_told c (s.coord c) (f.coords c).ends t m (look (s.coord c).table t))
  arrival last (message.Vote t m c false) =
      where_coord last c (λ y. coord_deliver c y (message.Vote t m c false)) (no_moves t c m (look (s.coord c).table t)) (nodes.no_told c (s.coord c) (f.coords c).ends t m (look (s.coord c).table t))
  arrival last (message.Ask t m c) =
      where_coord last c (λ y. coord_deliver c y (message.Ask t m c)) (ask_moves t c m (look (s.coord c).table t)) (nodes.ask_entry_told c (s.coord c) (f.coords c).ends t m (look (s.coord c).table t))
  arrival last (message.Ack t m c) =
      where_coord last c (λ y. coord_deliver c y (message.Ack t m c)) (ack_moves t c m (look (s.coord c).table t)) (nodes.ack_told c (s.coord c) (f.coords c).ends t m (look (s.coord c).table t))

  delivers : (e : Event) (note : Message) → Says s (Some e) (if was_sent s.sent note then arrival_moves s note else []) (deliver s note)
  delivers e note = by (was_sent s.sent note)
    where
      by : (b : Bool) → Says s (Some e) (if b then arrival_moves s note else []) (if b then arrives s note else answers s answer.Unsent)
      by true = arrival (Some e) note
      by false = (λ rest. refl, refl)

  timer : (e : Event) (t : ℕ) (at : Node) → Says s (Some e) (timer_at_moves s t at) (timer_at s t at)
  timer e t (node.Member m) = where_member (Some e) m (λ x. member_timer x t) (timer_moves t m (standing_of (s.member m) t)) (nodes.timer_told (rest_of s) m (s.member m) (w m) t (standing_of (s.member m) t))
  timer e t (node.Coord c) = where_coord (Some e) c (λ y. coord_timer c y t) (coord_timer_moves t c (look (s.coord c).table t)) (nodes.coord_timer_told c (s.coord c) (f.coords c).ends t (look (s.coord c).table t))

  crash : (e : Event) (at : Node) → Says s (Some e) (crash_at_moves s at) (crash_at s at)
  crash e (node.Member m) = where_member (Some e) m member_crash (CrashMember m ∷ []) (λ z. refl, λ e. refl, refl)
  crash e (node.Coord c) = where_coord (Some e) c coord_crash (CrashCoord c ∷ []) (λ z. refl, λ e. refl, refl)

  restart : (e : Event) (at : Node) → Says s (Some e) (restart_at_moves s at) (restart_at s at)
  restart e (node.Member m) = at_m (Some e) s m (member_restart (s.member m)) (restart_moves (RestartMember m) (s.member m).up) (nodes.restart_told (rest_of s) m (s.member m) (w m) (s.member m).up)
  restart e (node.Coord c) = at_c (Some e) s c (coord_restart (s.coord c)) (restart_moves (RestartCoord c) (s.coord c).up) (nodes.coord_restart_told c (s.coord c) (f.coords c).ends (s.coord c).up)

  arm : (e : Event) (call : ℕ) (leaves : Leaves) (at : Node) → Says s (Some e) (arm_at_moves s call leaves at) (arm_at s call leaves at)
  arm e call leaves (node.Member m) = where_member (Some e) m (λ x. member_arm x call leaves) (ArmMember m (Some (record { call = call; leaves = leaves })) ∷ []) (λ z. refl, λ e. refl, refl)
  arm e call leaves (node.Coord c) = where_coord (Some e) c (λ y. coord_arm y call leaves) (ArmCoord c (Some (record { call = call; leaves = leaves })) ∷ []) (λ z. refl, λ e. refl, refl)

  checkpoint : (e : Event) (at : Node) → Says s (Some e) (checkpoint_at_moves s at) (checkpoint_at s at)
  checkpoint e (node.Member m) = where_member (Some e) m (member_checkpoint m) (member_checkpoint_moves (s.member m) m (s.member m).log.spare_closed) (nodes.checkpoint_told (rest_of s) m (s.member m) (w m) (s.member m).log.spare_closed)
  checkpoint e (node.Coord c) = where_coord (Some e) c (coord_checkpoint c) (coord_checkpoint_moves (s.coord c) c (s.coord c).log.spare_closed) (nodes.coord_checkpoint_told c (s.coord c) (f.coords c).ends (s.coord c).log.spare_closed)

  line : (e : Event) → Says s (Some e) (line_moves s e) (step_line s e)
  line (event.Begin t c) = begins t c (is_used s t) (s.coord c).up
  line (event.Local t m) = begins_local t m (is_used s t) (s.member m).up
  line (event.Read t m key) = operates (event.Read t m key) t m (op.Read key) refl
  line (event.Write t m key value) = operates (event.Write t m key value) t m (op.Write key value) refl
  line (event.Erase t m key) = operates (event.Erase t m key) t m (op.Erase key) refl
  line (event.Scan t m span) = operates (event.Scan t m span) t m (op.Scan span) refl
  line (event.Commit t) = commits (event.Commit t) t
  line (event.Abort t) = aborts (event.Abort t) t
  line (event.Deliver note) = delivers (event.Deliver note) note
  line (event.Vote t m) = where_member (Some (event.Vote t m)) m (λ x. member_vote m x t) (again_moves (s.member m) t m (standing_of (s.member m) t)) (nodes.again_told (rest_of s) m (s.member m) (w m) t (standing_of (s.member m) t))
  line (event.Timer t at) = timer (event.Timer t at) t at
  line (event.Ask t m) = where_member (Some (event.Ask t m)) m (λ x. member_ask m x t) (question_moves (s.member m) t m (standing_of (s.member m) t)) (nodes.question_told (rest_of s) m (s.member m) (w m) t (standing_of (s.member m) t))
  line (event.Resend t c) = where_coord (Some (event.Resend t c)) c (λ y. coord_resend c y t) (resend_moves t c (look (s.coord c).table t)) (nodes.resend_told c (s.coord c) (f.coords c).ends t (look (s.coord c).table t))
  line (event.Crash at) = crash (event.Crash at) at
  line (event.Restart at) = restart (event.Restart at) at
  line (event.Arm at call leaves) = arm (event.Arm at call leaves) call leaves at
  line (event.Checkpoint at) = checkpoint (event.Checkpoint at) at

  hand : (t m : ℕ) (commit : Bool) → Says s None (where_up (s.member m).up (decision_moves (s.member m) t m (coord_of (s.member m) t) commit)) (step s (happening.Hand t m commit))
  hand t m true =
      where_member None m (λ x. member_decide m x t (coord_of x t) true) (commit_moves (s.member m) t m (coord_of (s.member m) t) (standing_of (s.member m) t)) (nodes.commit_event_told (rest_of s) m (s.member m) (w m) t (coord_of (s.member m) t) (standing_of (s.member m) t))
  hand t m false =
      where_member None m (λ x. member_decide m x t (coord_of x t) false) (abort_moves t m (standing_of (s.member m) t)) (nodes.abort_event_told (rest_of s) m (s.member m) (w m) t (standing_of (s.member m) t))

-- what a step tells, with what is told after it
pub step_told : (s : Federation) → Facts s → (h : Happening) (rest : List ItemKind) → trace_from None (told_with h (step s h).items ++ rest) ≡ moves_trace (moves_of s h) s ++ trace_from None rest
step_told s f (happening.Line e) rest = (line s f e).0 rest
step_told s f (happening.Hand t m commit) rest = (hand s f t m commit).0 rest
step_told s f happening.Disarm rest = refl

-- and which messages it sends
pub step_sends : (s : Federation) → Facts s → (h : Happening) → messages_in (told_with h (step s h).items) ≡ sent_by (moves_of s h)
step_sends s f (happening.Line e) = (line s f e).1
step_sends s f (happening.Hand t m commit) = (hand s f t m commit).1
step_sends s f happening.Disarm = refl
