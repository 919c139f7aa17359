-- Every event is its list of moves, each with its guard, where a verdict that is handed is true of the run.
use Rattle.std.proofs.Common.{◌≡◌, ◌≢◌, ℕ, Bool, true, false, if◌then◌else◌, List, [], ◌∷◌, Option, None, Some, refl, sym, ap, ◌∙◌}
use Rattle.std.proofs.lemmas.Bool.{eqb-true}
use Rattle.co_base.specs.declared.leaves.Leaves.{Leaves}
use Rattle.co_base.specs.declared.node.Node.{Node}
use Rattle.co_base.specs.declared.node.Node.TheVariants as node
use Rattle.co_base.specs.declared.op.Op.{Op}
use Rattle.co_base.specs.declared.op.Op.TheVariants as op
use Rattle.co_message.specs.declared.answer.Answer.TheVariants as answer
use Rattle.co_message.specs.declared.event.Event.{Event}
use Rattle.co_message.specs.declared.event.Event.TheVariants as event
use Rattle.co_message.specs.declared.message.Message.{Message}
use Rattle.co_message.specs.declared.message.Message.TheVariants as message
use Rattle.co_state.specs.Table.{look}
use Rattle.co_plain.specs.declared.coord_state.CoordState.{CoordState}
use Rattle.co_plain.specs.declared.happening.Happening.{Happening}
use Rattle.co_plain.specs.declared.happening.Happening.TheVariants as happening
use Rattle.co_plain.specs.declared.member_state.MemberState.{MemberState}
use Rattle.co_plain.specs.declared.session.Session.{Session}
use Rattle.co_plain.specs.MemberStep.{standing_of}
use Rattle.co_plain.specs.declared.member_step.MemberStep.{MemberStep}
use Rattle.co_plain.specs.declared.coord_step.CoordStep.{CoordStep}
use Rattle.co_plain.specs.Member.{coord_of, member_deliver, member_vote, member_timer, member_ask, member_decide}
use Rattle.co_plain.specs.MemberLog.{member_checkpoint, member_crash, member_arm}
use Rattle.co_plain.specs.LocalCommit.{member_local_commit, member_local_abort}
use Rattle.co_plain.specs.Coordinator.{coord_commit, coord_abort, coord_deliver, coord_timer, coord_resend}
use Rattle.co_plain.specs.CoordLog.{coord_checkpoint, coord_crash, coord_arm}
use Rattle.co_plain.specs.Sessions.{Refuses, Grants, parts_of, leave_to_visit, leave_to_end, unless_asked, may_visit, count_at}
use Rattle.co_plain.specs.Wire.{was_sent}
use Rattle.co_plain.specs.Federation.{Federation, answers, at_member, at_coord}
use Rattle.co_plain.specs.Step.{up_member, member_step, up_coord, coord_step, coord_answers, local_answers, is_used, begin_where, local_where, operate, operate_with, commit_at, commit_with, abort_at, abort_with, arrives, deliver, timer_at, crash_at, restart_at, arm_at, checkpoint_at, step_line, step}
use Rattle.co_plain.specs.Moves.{Move, Begin, BeginLocal, CrashMember, CrashCoord, ArmMember, ArmCoord, may_operate_at}
use Rattle.co_law_base.proofs.Facts.{Facts}
use Rattle.co_law_base.proofs.VoteMoves.{as_settled}
use Rattle.co_plain.specs.Premises.{IsTrueVerdict}
use Rattle.co_law_moves.specs.EventMoves.{where_up, begin_moves, operate_moves, operate_with_moves, commit_entry_moves, local_commit_moves, commit_at_moves, commit_with_moves, abort_entry_moves, local_abort_moves, abort_at_moves, abort_with_moves, prepare_moves, commit_moves, abort_moves, decision_moves, yes_moves, no_moves, ask_moves, ack_moves, arrival_moves, timer_moves, coord_timer_moves, timer_at_moves, crash_at_moves, restart_at_moves, arm_at_moves, member_checkpoint_moves, coord_checkpoint_moves, checkpoint_at_moves, again_moves, question_moves, resend_moves, line_moves, moves_of}
use Rattle.co_law_moves.proofs.Made.{where_map, Made, MadeOver, sound_made, no_move}
use Rattle.co_law_moves.proofs.MemberMade as members
use Rattle.co_law_moves.proofs.CoordMade as coords
use Rattle.co_law_moves.proofs.ClientMade as clients
use Rattle.co_law_moves.proofs.LocalMade as locals
use Rattle.co_law_moves.specs.OwnGuards.{Logs, SoundLogs, Where}
use Rattle.co_law_moves.proofs.FactsOver.{FactsOver, where_sound}

visits_there : (session : Session) (m : ℕ) → may_visit session.by m ≡ true → session.asked ≡ false → may_operate_at (Some session) m
visits_there session m v a = (a, λ n b. eqb-true n m (sym (ap (λ k. may_visit k m) b) ∙ v))

module _ (l : Logs) (s : Federation) (f : FactsOver l s) where
  begins : (t c : ℕ) (used up : Bool) → is_used s t ≡ used → MadeOver l s (begin_moves (Begin t c) used up) (begin_where s t c used up).state
  begins t c true up e = no_move l s
  begins t c false true e = record { same = refl; guards = (e, tt) }
  begins t c false false e = no_move l s

  begins_local : (t m : ℕ) (used up : Bool) → is_used s t ≡ used → MadeOver l s (begin_moves (BeginLocal t m) used up) (local_where s t m used up).state
  begins_local t m true up e = no_move l s
  begins_local t m false true e = record { same = refl; guards = (e, tt) }
  begins_local t m false false e = no_move l s

  operates : (t m : ℕ) (o : Op) → MadeOver l s (operate_moves s t m o) (operate s t m o).state
  operates t m o = by (look s.sessions t) refl
    where
      asked : (session : Session) → look s.sessions t ≡ Some session → may_visit session.by m ≡ true → (b : Bool) → session.asked ≡ b →
          MadeOver l s (operate_with_moves s t m o (if b then Refuses answer.Asked else Grants session)) (operate_with s t m o (if b then Refuses answer.Asked else Grants session)).state
      asked session e v true a = no_move l s
      asked session e v false a = clients.operation_made l s f t m o session e (visits_there session m v a) (s.member m).up

      visits : (session : Session) → look s.sessions t ≡ Some session → (b : Bool) → may_visit session.by m ≡ b →
          MadeOver l s (operate_with_moves s t m o (if b then unless_asked session else Refuses answer.NotBegun)) (operate_with s t m o (if b then unless_asked session else Refuses answer.NotBegun)).state
      visits session e false v = no_move l s
      visits session e true v = asked session e v session.asked refl

      by : (z : Option Session) → look s.sessions t ≡ z → MadeOver l s (operate_with_moves s t m o (leave_to_visit z m)) (operate_with s t m o (leave_to_visit z m)).state
      by None e = no_move l s
      by (Some session) e = visits session e (may_visit session.by m) refl

  commits_at : (t : ℕ) (session : Session) → look s.sessions t ≡ Some session → session.asked ≡ false → (at : Node) → session.by ≡ at → MadeOver l s (commit_at_moves s t session at) (commit_at s t session at).state
  commits_at t session e a (node.Coord c) b = by (s.coord c).up
    where
      by : (up : Bool) → MadeOver l s (where_up up (commit_entry_moves (s.coord c) t c (parts_of session.told) (look (s.coord c).table t))) (coord_answers s t session c up (coord_commit c (s.coord c) t (parts_of session.told))).state
      by true = clients.commit_made l s f t c session e b (look (s.coord c).table t) refl
      by false = no_move l s
  commits_at t session e a (node.Member m) b = by (s.member m).up
    where
      by : (up : Bool) → MadeOver l s (where_up up (local_commit_moves (s.member m) t m (count_at session.told m))) (local_answers s t session m up (member_local_commit m (s.member m) t (count_at session.told m))).state
      by true = locals.local_commit_made l s f t m session e b a
      by false = no_move l s

  aborts_at : (t : ℕ) (session : Session) → look s.sessions t ≡ Some session → session.asked ≡ false → (at : Node) → session.by ≡ at → MadeOver l s (abort_at_moves s t session at) (abort_at s t session at).state
  aborts_at t session e a (node.Coord c) b = by (s.coord c).up
    where
      by : (up : Bool) → MadeOver l s (where_up up (abort_entry_moves t c (parts_of session.told) (look (s.coord c).table t))) (coord_answers s t session c up (coord_abort c (s.coord c) t (parts_of session.told))).state
      by true = clients.abort_made l s f t c session e b (look (s.coord c).table t) refl
      by false = no_move l s
  aborts_at t session e a (node.Member m) b = by (s.member m).up
    where
      by : (up : Bool) → MadeOver l s (where_up up (local_abort_moves t m (standing_of (s.member m) t))) (local_answers s t session m up (member_local_abort (s.member m) t)).state
      by true = locals.local_abort_made l s f t m session e b a (standing_of (s.member m) t) refl
      by false = no_move l s

  commits : (t : ℕ) → MadeOver l s (commit_with_moves s t (leave_to_end (look s.sessions t))) (commit_with s t (leave_to_end (look s.sessions t))).state
  commits t = by (look s.sessions t) refl
    where
      asked : (session : Session) → look s.sessions t ≡ Some session → (b : Bool) → session.asked ≡ b →
          MadeOver l s (commit_with_moves s t (if b then Refuses answer.Asked else Grants session)) (commit_with s t (if b then Refuses answer.Asked else Grants session)).state
      asked session e true a = no_move l s
      asked session e false a = commits_at t session e a session.by refl

      by : (z : Option Session) → look s.sessions t ≡ z → MadeOver l s (commit_with_moves s t (leave_to_end z)) (commit_with s t (leave_to_end z)).state
      by None e = no_move l s
      by (Some session) e = asked session e session.asked refl

  aborts : (t : ℕ) → MadeOver l s (abort_with_moves s t (leave_to_end (look s.sessions t))) (abort_with s t (leave_to_end (look s.sessions t))).state
  aborts t = by (look s.sessions t) refl
    where
      asked : (session : Session) → look s.sessions t ≡ Some session → (b : Bool) → session.asked ≡ b →
          MadeOver l s (abort_with_moves s t (if b then Refuses answer.Asked else Grants session)) (abort_with s t (if b then Refuses answer.Asked else Grants session)).state
      asked session e true a = no_move l s
      asked session e false a = aborts_at t session e a session.by refl

      by : (z : Option Session) → look s.sessions t ≡ z → MadeOver l s (abort_with_moves s t (leave_to_end z)) (abort_with s t (leave_to_end z)).state
      by None e = no_move l s
      by (Some session) e = asked session e session.asked refl

  -- a step of a node that is up
  where_member : (m : ℕ) (does : MemberState → MemberStep) (moves : List Move) → MadeOver l s moves (at_member s m (does (s.member m))).state → MadeOver l s (where_up (s.member m).up moves) (member_step s m does).state
  where_member m does moves h = by (s.member m).up
    where
      by : (up : Bool) → MadeOver l s (where_up up moves) (up_member s m up (does (s.member m))).state
      by true = h
      by false = no_move l s

  where_coord : (c : ℕ) (does : CoordState → CoordStep) (moves : List Move) → MadeOver l s moves (at_coord s c (does (s.coord c))).state → MadeOver l s (where_up (s.coord c).up moves) (coord_step s c does).state
  where_coord c does moves h = by (s.coord c).up
    where
      by : (up : Bool) → MadeOver l s (where_up up moves) (up_coord s c up (does (s.coord c))).state
      by true = h
      by false = no_move l s

  arrival : (note : Message) → was_sent s.sent note ≡ true → MadeOver l s (arrival_moves s note) (arrives s note).state
  arrival (message.Prepare t c m n) h =
      where_member m (λ x. member_deliver m x (message.Prepare t c m n)) (prepare_moves (s.member m) t m c n (standing_of (s.member m) t)) (members.prepare_made l s m f t c n h (standing_of (s.member m) t) refl)
  arrival (message.Decide t c m true) h =
      where_member m (λ x. member_deliver m x (message.Decide t c m true)) (commit_moves (s.member m) t m c (standing_of (s.member m) t)) (members.commit_made l s m f t c (where_sound l s f (λ g. (g.sent.commits t c m h).0)) (standing_of (s.member m) t) refl)
  arrival (message.Decide t c m false) h =
      where_member m (λ x. member_deliver m x (message.Decide t c m false)) (abort_moves t m (standing_of (s.member m) t)) (members.abort_made l s m f t c (λ g. g.sent.aborts t c m h) (standing_of (s.member m) t) refl)
  arrival (message.Vote t m c true) h =
      where_coord c (λ y. coord_deliver c y (message.Vote t m c true)) (yes_moves (s.coord c) t c m (look (s.coord c).table t)) (coords.yes_made l s c f t m h (look (s.coord c).table t) refl)
  arrival (message.Vote t m c false) h =
      where_coord c (λ y. coord_deliver c y (message.Vote t m c false)) (no_moves t c m (look (s.coord c).table t)) (coords.no_made l s c f t m (look (s.coord c).table t) refl)
  arrival (message.Ask t m c) h = where_coord c (λ y. coord_deliver c y (message.Ask t m c)) (ask_moves t c m (look (s.coord c).table t)) (coords.ask_made l s c f t m h (look (s.coord c).table t) refl)
  arrival (message.Ack t m c) h = where_coord c (λ y. coord_deliver c y (message.Ack t m c)) (ack_moves t c m (look (s.coord c).table t)) (coords.ack_made l s c f t m h (look (s.coord c).table t) refl)

  delivers : (note : Message) → MadeOver l s (if was_sent s.sent note then arrival_moves s note else []) (deliver s note).state
  delivers note = by (was_sent s.sent note) refl
    where
      by : (b : Bool) → was_sent s.sent note ≡ b → MadeOver l s (if b then arrival_moves s note else []) (if b then arrives s note else answers s answer.Unsent).state
      by true h = arrival note h
      by false h = no_move l s

  timer : (t : ℕ) (at : Node) → MadeOver l s (timer_at_moves s t at) (timer_at s t at).state
  timer t (node.Member m) = where_member m (λ x. member_timer x t) (timer_moves t m (standing_of (s.member m) t)) (members.timer_made l s m f t (standing_of (s.member m) t) refl)
  timer t (node.Coord c) = where_coord c (λ y. coord_timer c y t) (coord_timer_moves t c (look (s.coord c).table t)) (coords.timer_made l s c f t (look (s.coord c).table t) refl)

  crash : (at : Node) → MadeOver l s (crash_at_moves s at) (crash_at s at).state
  crash (node.Member m) = where_member m member_crash (CrashMember m ∷ []) (members.crash_event_made l s m f)
  crash (node.Coord c) = where_coord c coord_crash (CrashCoord c ∷ []) (coords.crash_event_made l s c f)

  restart : (at : Node) → MadeOver l s (restart_at_moves s at) (restart_at s at).state
  restart (node.Member m) = members.restart_made l s m f (s.member m).up
  restart (node.Coord c) = coords.restart_made l s c f (s.coord c).up

  arm : (call : ℕ) (leaves : Leaves) (at : Node) → MadeOver l s (arm_at_moves s call leaves at) (arm_at s call leaves at).state
  arm call leaves (node.Member m) =
      where_member m (λ x. member_arm x call leaves) (ArmMember m (Some (record { call = call; leaves = leaves })) ∷ []) (members.arm_made l s m f (Some (record { call = call; leaves = leaves })))
  arm call leaves (node.Coord c) =
      where_coord c (λ y. coord_arm y call leaves) (ArmCoord c (Some (record { call = call; leaves = leaves })) ∷ []) (coords.arm_made l s c f (Some (record { call = call; leaves = leaves })))

  checkpoint : (at : Node) → MadeOver l s (checkpoint_at_moves s at) (checkpoint_at s at).state
  checkpoint (node.Member m) = where_member m (member_checkpoint m) (member_checkpoint_moves (s.member m) m (s.member m).log.spare_closed) (members.checkpoint_made l s m f (s.member m).log.spare_closed)
  checkpoint (node.Coord c) = where_coord c (coord_checkpoint c) (coord_checkpoint_moves (s.coord c) c (s.coord c).log.spare_closed) (coords.checkpoint_made l s c f (s.coord c).log.spare_closed)

  line : (e : Event) → MadeOver l s (line_moves s e) (step_line s e).state
  line (event.Begin t c) = begins t c (is_used s t) (s.coord c).up refl
  line (event.Local t m) = begins_local t m (is_used s t) (s.member m).up refl
  line (event.Read t m key) = operates t m (op.Read key)
  line (event.Write t m key value) = operates t m (op.Write key value)
  line (event.Erase t m key) = operates t m (op.Erase key)
  line (event.Scan t m span) = operates t m (op.Scan span)
  line (event.Commit t) = commits t
  line (event.Abort t) = aborts t
  line (event.Deliver note) = delivers note
  line (event.Vote t m) = where_member m (λ x. member_vote m x t) (again_moves (s.member m) t m (standing_of (s.member m) t)) (members.again_made l s m f t (standing_of (s.member m) t) refl)
  line (event.Timer t at) = timer t at
  line (event.Ask t m) = where_member m (λ x. member_ask m x t) (question_moves (s.member m) t m (standing_of (s.member m) t)) (members.question_made l s m f t (standing_of (s.member m) t) refl)
  line (event.Resend t c) = where_coord c (λ y. coord_resend c y t) (resend_moves t c (look (s.coord c).table t)) (coords.resend_made l s c f t (look (s.coord c).table t) refl)
  line (event.Crash at) = crash at
  line (event.Restart at) = restart at
  line (event.Arm at call leaves) = arm call leaves at
  line (event.Checkpoint at) = checkpoint at

  hand : (t m : ℕ) (commit : Bool) → Where l (IsTrueVerdict s (happening.Hand t m commit)) →
      MadeOver l s (where_up (s.member m).up (decision_moves (s.member m) t m (coord_of (s.member m) t) commit)) (step s (happening.Hand t m commit)).state
  hand t m true d =
      where_member m (λ x. member_decide m x t (coord_of x t) true) (commit_moves (s.member m) t m (coord_of (s.member m) t) (standing_of (s.member m) t))
      (members.commit_made l s m f t (coord_of (s.member m) t) (where_map l (as_settled s t) d) (standing_of (s.member m) t) refl)
  hand t m false d =
      where_member m (λ x. member_decide m x t (coord_of x t) false) (abort_moves t m (standing_of (s.member m) t)) (members.handed_abort_made l s m f t d (standing_of (s.member m) t) refl)

pub event_over : (l : Logs) (s : Federation) → FactsOver l s → (h : Happening) → h ≢ happening.Disarm → Where l (IsTrueVerdict s h) → MadeOver l s (moves_of s h) (step s h).state
event_over l s f (happening.Line e) n v = line l s f e
event_over l s f (happening.Hand t m commit) n v = hand l s f t m commit v
event_over l s f happening.Disarm n v = absurd (n refl)

-- over sound logs, with the strong guards
pub event_made : (s : Federation) → Facts s → (h : Happening) → h ≢ happening.Disarm → IsTrueVerdict s h → Made s (moves_of s h) (step s h).state
event_made s f h n v = sound_made s (moves_of s h) (step s h).state (event_over SoundLogs s f h n v)
