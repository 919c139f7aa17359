-- Which events make no move that decides.
use Rattle.std.proofs.Common.{◌≡◌, ◌≢◌, ℕ, Bool, true, false, ◌&&◌, ◌==◌, not, if◌then◌else◌, List, [], ◌∷◌, ◌++◌, Option, None, Some, refl, sym, ap, ◌∙◌, arith}
use Rattle.std.specs.List.{list_any}
use Rattle.std.proofs.lemmas.Bool.{or_from}
use Rattle.std.proofs.lemmas.List.Folds.{list_any-append}
use Rattle.co_base.specs.declared.node.Node.{Node}
use Rattle.co_base.specs.declared.node.Node.TheVariants as node
use Rattle.co_base.specs.declared.op.Op.{Op}
use Rattle.co_base.specs.declared.op.Op.TheVariants as op
use Rattle.co_base.specs.declared.part.Part.{Part}
use Rattle.co_base.specs.Limits.{most_operations}
use Rattle.co_frame.specs.Gate.{batch_is_stable}
use Rattle.co_message.specs.declared.event.Event.{Event}
use Rattle.co_message.specs.declared.event.Event.TheVariants as event
use Rattle.co_message.specs.declared.message.Message.{Message}
use Rattle.co_message.specs.declared.message.Message.TheVariants as message
use Rattle.co_state.specs.declared.verdict.Verdict.{Verdict}
use Rattle.co_state.specs.declared.verdict.Verdict.TheVariants.{LostOperations, StaleRead, HeldBy, VoteYes}
use Rattle.co_state.specs.LockRule.{lock_blocker}
use Rattle.co_state.specs.Table.{look, holds}
use Rattle.co_state.specs.VotingRule.{kept_count, vote_of}
use Rattle.co_plain.specs.declared.coord_state.CoordState.{CoordState}
use Rattle.co_plain.specs.declared.coord_state.Entry.{Entry}
use Rattle.co_plain.specs.declared.coord_state.Entry.TheVariants as entry
use Rattle.co_plain.specs.declared.member_state.AskedMark.{AskedMark}
use Rattle.co_plain.specs.declared.member_state.MemberState.{MemberState}
use Rattle.co_plain.specs.declared.outcome.Outcome.{Outcome}
use Rattle.co_plain.specs.declared.outcome.Outcome.TheVariants.{Completes, StopsAt}
use Rattle.co_plain.specs.declared.session.Session.{Session}
use Rattle.co_plain.specs.declared.standing.Standing.{Standing}
use Rattle.co_plain.specs.declared.standing.Standing.TheVariants.{IsActive, IsVoted, IsInstalled, IsAbsent}
use Rattle.co_plain.specs.Numbers.{first_lacking, has_number, numbers_lacking}
use Rattle.co_plain.specs.LogWrite.{outcome_of}
use Rattle.co_plain.specs.MemberStep.{standing_of}
use Rattle.co_plain.specs.Coordinator.{decisions_to, prepares_to, parts_lacking}
use Rattle.co_plain.specs.CoordStep.{has_part, members_of}
use Rattle.co_plain.specs.Sessions.{Leave, Refuses, Grants, leave_to_end, leave_to_visit, count_at, parts_of}
use Rattle.co_plain.specs.Wire.{was_sent}
use Rattle.co_plain.specs.Federation.{Federation}
use Rattle.co_plain.specs.Step.{is_used}
use Rattle.co_plain.specs.Moves.{Move, Cast, Install, CommitLocally, CrashMember, RestartMember, ArmMember, CloseMemberSpare, FillMemberSpare, Begin, Decide, CrashCoord, RestartCoord, ArmCoord, CloseCoordSpare, FillCoordSpare, BeginLocal, Send}
use Rattle.co_law_moves.specs.EventMoves.{sends, stopped_moves, written_moves, where_up, unless_lock, operation_moves, operate_with_moves, drop_moves, vote_moves, prepare_moves, asked_moves, again_moves, commit_moves, abort_moves, decision_moves, timer_moves, question_moves, closing_moves, member_checkpoint_moves, restart_moves, local_abort_moves, leave_moves, abort_entry_moves, no_moves, ask_moves, ack_counted_moves, ack_moves, coord_timer_moves, resend_moves, coord_checkpoint_moves, begin_moves, abort_at_moves, abort_with_moves, arrival_moves, timer_at_moves, crash_at_moves, restart_at_moves, arm_at_moves, checkpoint_at_moves, line_moves}

-- the moves that decide a transaction
abbrev pub is_deciding : ℕ → Move → Bool
is_deciding t (Decide u c) = u == t
is_deciding t (CommitLocally u m) = u == t
is_deciding t _ = false

abbrev pub decides_in : ℕ → List Move → Bool
decides_in t moves = list_any (is_deciding t) moves

module _ (t : ℕ) where
  abbrev pub IsQuietList : List Move → Type 0
  IsQuietList moves = decides_in t moves ≡ false

  both_quiet : (xs ys : List Move) → IsQuietList xs → IsQuietList ys → IsQuietList (xs ++ ys)
  both_quiet xs ys a b = list_any-append (is_deciding t) xs ys ∙ or_from (decides_in t xs) (decides_in t ys) a b

  pub sends_quiet : (notes : List Message) → IsQuietList (sends notes)
  sends_quiet [] = refl
  sends_quiet (note ∷ notes) = sends_quiet notes

  pub up_quiet : (b : Bool) (moves : List Move) → IsQuietList moves → IsQuietList (where_up b moves)
  up_quiet true moves h = h
  up_quiet false moves h = refl

  written_quiet : (done crash : Move) (rest : List Move) (o : Outcome) → is_deciding t done ≡ false → is_deciding t crash ≡ false → IsQuietList rest → IsQuietList (written_moves done crash rest o)
  written_quiet done crash rest Completes a b c = or_from (is_deciding t done) (decides_in t rest) a c
  written_quiet done crash rest (StopsAt call leaves) a b c = by (batch_is_stable call leaves)
    where
      by : (v : Bool) → IsQuietList (stopped_moves done crash v)
      by true = or_from (is_deciding t done) _ a (or_from (is_deciding t crash) false b refl)
      by false = or_from (is_deciding t crash) false b refl

  drop_quiet : (b : Bool) (u m : ℕ) → IsQuietList (drop_moves b u m)
  drop_quiet true u m = refl
  drop_quiet false u m = refl

  votes_quiet : (x : MemberState) (u m c n : ℕ) (v : Verdict) → IsQuietList (vote_moves x u m c n v)
  votes_quiet x u m c n LostOperations = both_quiet (drop_moves (holds x.engine.active u) u m) (Send (message.Vote u m c false) ∷ []) (drop_quiet (holds x.engine.active u) u m) refl
  votes_quiet x u m c n (StaleRead key) = both_quiet (drop_moves (holds x.engine.active u) u m) (Send (message.Vote u m c false) ∷ []) (drop_quiet (holds x.engine.active u) u m) refl
  votes_quiet x u m c n (HeldBy v) = refl
  votes_quiet x u m c n VoteYes = written_quiet (Cast u m c n) (CrashMember m) (Send (message.Vote u m c true) ∷ []) (outcome_of x.log.armed 4) refl refl refl

  prepare_quiet : (x : MemberState) (u m c n : ℕ) (st : Standing) → IsQuietList (prepare_moves x u m c n st)
  prepare_quiet x u m c n IsActive = votes_quiet x u m c n (vote_of x.engine u n)
  prepare_quiet x u m c n IsVoted = refl
  prepare_quiet x u m c n IsInstalled = refl
  prepare_quiet x u m c n IsAbsent = votes_quiet x u m c n (vote_of x.engine u n)

  again_quiet : (x : MemberState) (u m : ℕ) (st : Standing) → IsQuietList (again_moves x u m st)
  again_quiet x u m IsActive = by (look x.asked u)
    where
      by : (o : Option AskedMark) → IsQuietList (asked_moves x u m o)
      by None = refl
      by (Some mark) = votes_quiet x u m mark.coord mark.count (vote_of x.engine u mark.count)
  again_quiet x u m IsVoted = refl
  again_quiet x u m IsInstalled = refl
  again_quiet x u m IsAbsent = refl

  commits_quiet : (x : MemberState) (u m c : ℕ) (st : Standing) → IsQuietList (commit_moves x u m c st)
  commits_quiet x u m c IsActive = refl
  commits_quiet x u m c IsVoted = written_quiet (Install u m) (CrashMember m) (Send (message.Ack u m c) ∷ []) (outcome_of x.log.armed 4) refl refl refl
  commits_quiet x u m c IsInstalled = refl
  commits_quiet x u m c IsAbsent = refl

  aborts_quiet : (u m : ℕ) (st : Standing) → IsQuietList (abort_moves u m st)
  aborts_quiet u m IsActive = refl
  aborts_quiet u m IsVoted = refl
  aborts_quiet u m IsInstalled = refl
  aborts_quiet u m IsAbsent = refl

  pub decision_quiet : (x : MemberState) (u m c : ℕ) (commit : Bool) → IsQuietList (decision_moves x u m c commit)
  decision_quiet x u m c true = commits_quiet x u m c (standing_of x u)
  decision_quiet x u m c false = aborts_quiet u m (standing_of x u)

  timer_quiet : (u m : ℕ) (st : Standing) → IsQuietList (timer_moves u m st)
  timer_quiet u m IsActive = refl
  timer_quiet u m IsVoted = refl
  timer_quiet u m IsInstalled = refl
  timer_quiet u m IsAbsent = refl

  question_quiet : (x : MemberState) (u m : ℕ) (st : Standing) → IsQuietList (question_moves x u m st)
  question_quiet x u m IsActive = refl
  question_quiet x u m IsVoted = refl
  question_quiet x u m IsInstalled = refl
  question_quiet x u m IsAbsent = refl

  member_checkpoint_quiet : (x : MemberState) (m : ℕ) (b : Bool) → IsQuietList (member_checkpoint_moves x m b)
  member_checkpoint_quiet x m true = written_quiet (FillMemberSpare m) (CrashMember m) [] (outcome_of x.log.armed 4) refl refl refl
  member_checkpoint_quiet x m false = by (outcome_of x.log.armed 2)
    where
      by : (o : Outcome) → IsQuietList (closing_moves (CloseMemberSpare m true) (CrashMember m) (CloseMemberSpare m) o)
      by Completes = refl
      by (StopsAt call leaves) = refl

  coord_checkpoint_quiet : (y : CoordState) (c : ℕ) (b : Bool) → IsQuietList (coord_checkpoint_moves y c b)
  coord_checkpoint_quiet y c true = written_quiet (FillCoordSpare c) (CrashCoord c) [] (outcome_of y.log.armed 4) refl refl refl
  coord_checkpoint_quiet y c false = by (outcome_of y.log.armed 2)
    where
      by : (o : Outcome) → IsQuietList (closing_moves (CloseCoordSpare c true) (CrashCoord c) (CloseCoordSpare c) o)
      by Completes = refl
      by (StopsAt call leaves) = refl

  local_abort_quiet : (u m : ℕ) (st : Standing) → IsQuietList (local_abort_moves u m st)
  local_abort_quiet u m IsActive = refl
  local_abort_quiet u m IsVoted = refl
  local_abort_quiet u m IsInstalled = refl
  local_abort_quiet u m IsAbsent = refl

  leave_quiet : (u c : ℕ) (parts : List Part) → IsQuietList (leave_moves u c parts)
  leave_quiet u c parts = sends_quiet (decisions_to c u false (members_of parts))

  abort_entry_quiet : (u c : ℕ) (parts : List Part) (o : Option Entry) → IsQuietList (abort_entry_moves u c parts o)
  abort_entry_quiet u c parts None = refl
  abort_entry_quiet u c parts (Some entry.Idle) = leave_quiet u c parts
  abort_entry_quiet u c parts (Some (entry.Collecting ps yeses)) = refl
  abort_entry_quiet u c parts (Some (entry.Committed ms acks)) = refl

  no_quiet : (u c m : ℕ) (o : Option Entry) → IsQuietList (no_moves u c m o)
  no_quiet u c m None = refl
  no_quiet u c m (Some entry.Idle) = refl
  no_quiet u c m (Some (entry.Collecting parts yeses)) = by (has_part parts m)
    where
      by : (b : Bool) → IsQuietList (if b then leave_moves u c parts else [])
      by true = leave_quiet u c parts
      by false = refl
  no_quiet u c m (Some (entry.Committed members acks)) = refl

  ask_quiet : (u c m : ℕ) (o : Option Entry) → IsQuietList (ask_moves u c m o)
  ask_quiet u c m None = refl
  ask_quiet u c m (Some entry.Idle) = refl
  ask_quiet u c m (Some (entry.Collecting parts yeses)) = refl
  ask_quiet u c m (Some (entry.Committed members acks)) = refl

  ack_quiet : (u c m : ℕ) (o : Option Entry) → IsQuietList (ack_moves u c m o)
  ack_quiet u c m None = refl
  ack_quiet u c m (Some entry.Idle) = refl
  ack_quiet u c m (Some (entry.Collecting parts yeses)) = refl
  ack_quiet u c m (Some (entry.Committed members acks)) = by (has_number members m && not (has_number acks m)) (first_lacking members (m ∷ acks))
    where
      by : (b : Bool) (o : Option ℕ) → IsQuietList (if b then ack_counted_moves u c m o else [])
      by true None = refl
      by true (Some k) = refl
      by false o = refl

  coord_timer_quiet : (u c : ℕ) (o : Option Entry) → IsQuietList (coord_timer_moves u c o)
  coord_timer_quiet u c None = refl
  coord_timer_quiet u c (Some entry.Idle) = refl
  coord_timer_quiet u c (Some (entry.Collecting parts yeses)) = leave_quiet u c parts
  coord_timer_quiet u c (Some (entry.Committed members acks)) = refl

  resend_quiet : (u c : ℕ) (o : Option Entry) → IsQuietList (resend_moves u c o)
  resend_quiet u c None = refl
  resend_quiet u c (Some entry.Idle) = refl
  resend_quiet u c (Some (entry.Collecting parts yeses)) = sends_quiet (prepares_to c u (parts_lacking parts yeses))
  resend_quiet u c (Some (entry.Committed members acks)) = sends_quiet (decisions_to c u true (numbers_lacking members acks))

  begin_quiet : (begins : Move) (used up : Bool) → is_deciding t begins ≡ false → IsQuietList (begin_moves begins used up)
  begin_quiet begins true up h = refl
  begin_quiet begins false true h = or_from (is_deciding t begins) false h refl
  begin_quiet begins false false h = refl

  operation_quiet : (x : MemberState) (u m : ℕ) (o : Op) (carried : ℕ) → IsQuietList (operation_moves x u m o carried)
  operation_quiet x u m o carried = by (kept_count x.engine u == carried) (carried == most_operations) (lock_blocker x.engine u o)
    where
      by : (a b : Bool) (z : Option ℕ) → IsQuietList (if a then (if b then [] else unless_lock u m o z) else [])
      by true true z = refl
      by true false None = refl
      by true false (Some v) = refl
      by false b z = refl

  operate_quiet : (s : Federation) (u m : ℕ) (o : Op) (leave : Leave) → IsQuietList (operate_with_moves s u m o leave)
  operate_quiet s u m o (Refuses a) = refl
  operate_quiet s u m o (Grants session) = up_quiet (s.member m).up (operation_moves (s.member m) u m o (count_at session.told m)) (operation_quiet (s.member m) u m o (count_at session.told m))

  abort_at_quiet : (s : Federation) (u : ℕ) (session : Session) (at : Node) → IsQuietList (abort_at_moves s u session at)
  abort_at_quiet s u session (node.Coord c) =
      up_quiet (s.coord c).up (abort_entry_moves u c (parts_of session.told) (look (s.coord c).table u)) (abort_entry_quiet u c (parts_of session.told) (look (s.coord c).table u))
  abort_at_quiet s u session (node.Member m) = up_quiet (s.member m).up (local_abort_moves u m (standing_of (s.member m) u)) (local_abort_quiet u m (standing_of (s.member m) u))

  abort_quiet : (s : Federation) (u : ℕ) (leave : Leave) → IsQuietList (abort_with_moves s u leave)
  abort_quiet s u (Refuses a) = refl
  abort_quiet s u (Grants session) = abort_at_quiet s u session session.by

  -- a message other than a yes
  pub arrival_quiet : (s : Federation) (note : Message) → ((u m c : ℕ) → note ≢ message.Vote u m c true) → IsQuietList (arrival_moves s note)
  arrival_quiet s (message.Prepare u c m n) d =
      up_quiet (s.member m).up (prepare_moves (s.member m) u m c n (standing_of (s.member m) u)) (prepare_quiet (s.member m) u m c n (standing_of (s.member m) u))
  arrival_quiet s (message.Decide u c m commit) d = up_quiet (s.member m).up (decision_moves (s.member m) u m c commit) (decision_quiet (s.member m) u m c commit)
  arrival_quiet s (message.Vote u m c true) d = absurd (d u m c refl)
  arrival_quiet s (message.Vote u m c false) d = up_quiet (s.coord c).up (no_moves u c m (look (s.coord c).table u)) (no_quiet u c m (look (s.coord c).table u))
  arrival_quiet s (message.Ask u m c) d = up_quiet (s.coord c).up (ask_moves u c m (look (s.coord c).table u)) (ask_quiet u c m (look (s.coord c).table u))
  arrival_quiet s (message.Ack u m c) d = up_quiet (s.coord c).up (ack_moves u c m (look (s.coord c).table u)) (ack_quiet u c m (look (s.coord c).table u))

  -- an event that is no commit and delivers no yes
  abbrev pub IsOtherEvent : Event → Type 0
  IsOtherEvent (event.Commit u) = ⊥
  IsOtherEvent (event.Deliver (message.Vote u m c true)) = ⊥
  IsOtherEvent _ = Unit {0}

  quiet_at : (s : Federation) (at : Node) → (ms : Federation → Node → List Move) → ((m : ℕ) → IsQuietList (ms s (node.Member m))) → ((c : ℕ) → IsQuietList (ms s (node.Coord c))) → IsQuietList (ms s at)
  quiet_at s (node.Member m) ms a b = a m
  quiet_at s (node.Coord c) ms a b = b c

  restart_quiet : (up : Move) (b : Bool) → is_deciding t up ≡ false → IsQuietList (restart_moves up b)
  restart_quiet up true h = refl
  restart_quiet up false h = or_from (is_deciding t up) false h refl

  delivered_quiet : (s : Federation) (note : Message) (b : Bool) → ((u m c : ℕ) → note ≢ message.Vote u m c true) → IsQuietList (if b then arrival_moves s note else [])
  delivered_quiet s note true d = arrival_quiet s note d
  delivered_quiet s note false d = refl

  abbrev tag : Message → ℕ
  tag (message.Vote u m c true) = 1
  tag _ = 0

  no_yes : (note : Message) → tag note ≡ 0 → (u m c : ℕ) → note ≢ message.Vote u m c true
  no_yes note e u m c h = let z : 0 ≡ 1 = sym e ∙ ap tag h in omega (arith, z)

  pub line_quiet : (s : Federation) (e : Event) → IsOtherEvent e → IsQuietList (line_moves s e)
  line_quiet s (event.Begin u c) o = begin_quiet (Begin u c) (is_used s u) (s.coord c).up refl
  line_quiet s (event.Local u m) o = begin_quiet (BeginLocal u m) (is_used s u) (s.member m).up refl
  line_quiet s (event.Read u m key) o = operate_quiet s u m (op.Read key) (leave_to_visit (look s.sessions u) m)
  line_quiet s (event.Write u m key value) o = operate_quiet s u m (op.Write key value) (leave_to_visit (look s.sessions u) m)
  line_quiet s (event.Erase u m key) o = operate_quiet s u m (op.Erase key) (leave_to_visit (look s.sessions u) m)
  line_quiet s (event.Scan u m span) o = operate_quiet s u m (op.Scan span) (leave_to_visit (look s.sessions u) m)
  line_quiet s (event.Commit u) o = absurd o
  line_quiet s (event.Abort u) o = abort_quiet s u (leave_to_end (look s.sessions u))
  line_quiet s (event.Deliver (message.Vote u m c true)) o = absurd o
  line_quiet s (event.Deliver (message.Vote u m c false)) o = delivered_quiet s (message.Vote u m c false) (was_sent s.sent (message.Vote u m c false)) (no_yes (message.Vote u m c false) refl)
  line_quiet s (event.Deliver (message.Prepare u c m n)) o = delivered_quiet s (message.Prepare u c m n) (was_sent s.sent (message.Prepare u c m n)) (no_yes (message.Prepare u c m n) refl)
  line_quiet s (event.Deliver (message.Decide u c m commit)) o = delivered_quiet s (message.Decide u c m commit) (was_sent s.sent (message.Decide u c m commit)) (no_yes (message.Decide u c m commit) refl)
  line_quiet s (event.Deliver (message.Ask u m c)) o = delivered_quiet s (message.Ask u m c) (was_sent s.sent (message.Ask u m c)) (no_yes (message.Ask u m c) refl)
  line_quiet s (event.Deliver (message.Ack u m c)) o = delivered_quiet s (message.Ack u m c) (was_sent s.sent (message.Ack u m c)) (no_yes (message.Ack u m c) refl)
  line_quiet s (event.Vote u m) o = up_quiet (s.member m).up (again_moves (s.member m) u m (standing_of (s.member m) u)) (again_quiet (s.member m) u m (standing_of (s.member m) u))
  line_quiet s (event.Timer u at) o =
      quiet_at s at (λ z n. timer_at_moves z u n)
      (λ m. up_quiet (s.member m).up (timer_moves u m (standing_of (s.member m) u)) (timer_quiet u m (standing_of (s.member m) u)))
      (λ c. up_quiet (s.coord c).up (coord_timer_moves u c (look (s.coord c).table u)) (coord_timer_quiet u c (look (s.coord c).table u)))
  line_quiet s (event.Ask u m) o = up_quiet (s.member m).up (question_moves (s.member m) u m (standing_of (s.member m) u)) (question_quiet (s.member m) u m (standing_of (s.member m) u))
  line_quiet s (event.Resend u c) o = up_quiet (s.coord c).up (resend_moves u c (look (s.coord c).table u)) (resend_quiet u c (look (s.coord c).table u))
  line_quiet s (event.Crash at) o = quiet_at s at crash_at_moves (λ m. up_quiet (s.member m).up (CrashMember m ∷ []) refl) (λ c. up_quiet (s.coord c).up (CrashCoord c ∷ []) refl)
  line_quiet s (event.Restart at) o = quiet_at s at restart_at_moves (λ m. restart_quiet (RestartMember m) (s.member m).up refl) (λ c. restart_quiet (RestartCoord c) (s.coord c).up refl)
  line_quiet s (event.Arm at call leaves) o =
      quiet_at s at (λ z n. arm_at_moves z call leaves n)
      (λ m. up_quiet (s.member m).up (ArmMember m (Some (record { call = call; leaves = leaves })) ∷ []) refl)
      (λ c. up_quiet (s.coord c).up (ArmCoord c (Some (record { call = call; leaves = leaves })) ∷ []) refl)
  line_quiet s (event.Checkpoint at) o =
      quiet_at s at checkpoint_at_moves
      (λ m. up_quiet (s.member m).up (member_checkpoint_moves (s.member m) m (s.member m).log.spare_closed) (member_checkpoint_quiet (s.member m) m (s.member m).log.spare_closed))
      (λ c. up_quiet (s.coord c).up (coord_checkpoint_moves (s.coord c) c (s.coord c).log.spare_closed) (coord_checkpoint_quiet (s.coord c) c (s.coord c).log.spare_closed))
