-- Of which moves each event is made: one definition for each event, by the cases of its table. A forced record is
-- its own move, with the message after it; where the write is stopped, the move and a crash, or the crash alone.
use Rattle.std.specs.Prelude.{ℕ, Bool, true, false, not, ◌&&◌, ◌==◌, List, [], ◌∷◌, ◌++◌, map, if◌then◌else◌, Option, None, Some}
use Rattle.co_base.specs.declared.leaves.Leaves.{Leaves}
use Rattle.co_base.specs.declared.node.Node.{Node}
use Rattle.co_base.specs.declared.node.Node.TheVariants as node
use Rattle.co_base.specs.declared.op.Op.{Op}
use Rattle.co_base.specs.declared.op.Op.TheVariants as op
use Rattle.co_base.specs.declared.part.Part.{Part}
use Rattle.co_base.specs.Limits.{most_operations}
use Rattle.co_message.specs.declared.event.Event.{Event}
use Rattle.co_message.specs.declared.event.Event.TheVariants as event
use Rattle.co_message.specs.declared.message.Message.{Message}
use Rattle.co_message.specs.declared.message.Message.TheVariants as message
use Rattle.co_frame.specs.Gate.{batch_is_stable, closes_spare}
use Rattle.co_state.specs.Table.{look, holds}
use Rattle.co_state.specs.LockRule.{lock_blocker}
use Rattle.co_state.specs.declared.verdict.Verdict.{Verdict}
use Rattle.co_state.specs.declared.verdict.Verdict.TheVariants.{LostOperations, StaleRead, HeldBy, VoteYes}
use Rattle.co_state.specs.VotingRule.{vote_of, kept_count}
use Rattle.co_plain.specs.declared.coord_state.CoordState.{CoordState}
use Rattle.co_plain.specs.declared.coord_state.Entry.{Entry}
use Rattle.co_plain.specs.declared.coord_state.Entry.TheVariants as entry
use Rattle.co_plain.specs.declared.happening.Happening.{Happening}
use Rattle.co_plain.specs.declared.happening.Happening.TheVariants as happening
use Rattle.co_plain.specs.declared.member_state.AskedMark.{AskedMark}
use Rattle.co_plain.specs.declared.member_state.MemberState.{MemberState}
use Rattle.co_plain.specs.declared.outcome.Outcome.{Outcome}
use Rattle.co_plain.specs.declared.outcome.Outcome.TheVariants.{Completes, StopsAt}
use Rattle.co_plain.specs.declared.session.Session.{Session}
use Rattle.co_plain.specs.declared.standing.Standing.{Standing}
use Rattle.co_plain.specs.declared.standing.Standing.TheVariants.{IsActive, IsVoted, IsInstalled, IsAbsent}
use Rattle.co_plain.specs.Numbers.{first_lacking, has_number, numbers_lacking}
use Rattle.co_plain.specs.LogWrite.{outcome_of}
use Rattle.co_plain.specs.MemberStep.{standing_of}
use Rattle.co_plain.specs.Member.{coord_of}
use Rattle.co_plain.specs.CoordStep.{has_part, members_of}
use Rattle.co_plain.specs.Coordinator.{prepares_to, decisions_to, parts_lacking}
use Rattle.co_plain.specs.Sessions.{Leave, Refuses, Grants, leave_to_visit, leave_to_end, count_at, parts_of}
use Rattle.co_plain.specs.Wire.{was_sent}
use Rattle.co_plain.specs.Federation.{Federation}
use Rattle.co_plain.specs.Step.{is_used}
use Rattle.co_plain.specs.Moves.{Move, Operate, MarkAsked, Cast, DropActive, DropVoted, Install, CommitLocally, CrashMember, RestartMember, ArmMember, CloseMemberSpare, FillMemberSpare, Begin, Collect, RecordYes, Decide, Leave as LeaveTable, RecordAck, End, CrashCoord, RestartCoord, ArmCoord, CloseCoordSpare, FillCoordSpare, BeginLocal, AskEnd, Send}

abbrev pub sends : List Message → List Move
sends messages = map Send messages

-- a log write: its move, and what follows it; where it is stopped, the move and the crash, or the crash alone
abbrev pub stopped_moves : Move → Move → Bool → List Move
stopped_moves done crash true = done ∷ crash ∷ []
stopped_moves done crash false = crash ∷ []

abbrev pub written_moves : Move → Move → List Move → Outcome → List Move
written_moves done crash rest Completes = done ∷ rest
written_moves done crash rest (StopsAt call leaves) = stopped_moves done crash (batch_is_stable call leaves)

-- what is done at a node that is up
abbrev pub where_up : Bool → List Move → List Move
where_up true moves = moves
where_up false moves = []

-- a member: an operation
abbrev pub unless_lock : ℕ → ℕ → Op → Option ℕ → List Move
unless_lock t m o (Some u) = []
unless_lock t m o None = Operate t m o ∷ []

abbrev pub operation_moves : MemberState → ℕ → ℕ → Op → ℕ → List Move
operation_moves x t m o carried =
    if kept_count x.engine t == carried
    then (if carried == most_operations then [] else unless_lock t m o (lock_blocker x.engine t o))
    else []

abbrev pub operate_with_moves : Federation → ℕ → ℕ → Op → Leave → List Move
operate_with_moves s t m o (Refuses a) = []
operate_with_moves s t m o (Grants session) = where_up (s.member m).up (operation_moves (s.member m) t m o (count_at session.told m))

abbrev pub operate_moves : Federation → ℕ → ℕ → Op → List Move
operate_moves s t m o = operate_with_moves s t m o (leave_to_visit (look s.sessions t) m)

-- a vote; who is nowhere is dropped without a move
abbrev pub drop_moves : Bool → ℕ → ℕ → List Move
drop_moves true t m = DropActive t m ∷ []
drop_moves false t m = []

abbrev pub vote_moves : MemberState → ℕ → ℕ → ℕ → ℕ → Verdict → List Move
vote_moves x t m c n LostOperations = drop_moves (holds x.engine.active t) t m ++ Send (message.Vote t m c false) ∷ []
vote_moves x t m c n (StaleRead key) = drop_moves (holds x.engine.active t) t m ++ Send (message.Vote t m c false) ∷ []
vote_moves x t m c n (HeldBy u) = []
vote_moves x t m c n VoteYes = written_moves (Cast t m c n) (CrashMember m) (Send (message.Vote t m c true) ∷ []) (outcome_of x.log.armed 4)

abbrev pub prepare_moves : MemberState → ℕ → ℕ → ℕ → ℕ → Standing → List Move
prepare_moves x t m c n IsActive = MarkAsked t m c n ∷ vote_moves x t m c n (vote_of x.engine t n)
prepare_moves x t m c n IsVoted = Send (message.Vote t m (coord_of x t) true) ∷ []
prepare_moves x t m c n IsInstalled = []
prepare_moves x t m c n IsAbsent = vote_moves x t m c n (vote_of x.engine t n)

abbrev pub asked_moves : MemberState → ℕ → ℕ → Option AskedMark → List Move
asked_moves x t m None = []
asked_moves x t m (Some mark) = vote_moves x t m mark.coord mark.count (vote_of x.engine t mark.count)

abbrev pub again_moves : MemberState → ℕ → ℕ → Standing → List Move
again_moves x t m IsActive = asked_moves x t m (look x.asked t)
again_moves x t m IsVoted = []
again_moves x t m IsInstalled = []
again_moves x t m IsAbsent = []

-- a decision
abbrev pub commit_moves : MemberState → ℕ → ℕ → ℕ → Standing → List Move
commit_moves x t m c IsActive = []
commit_moves x t m c IsVoted = written_moves (Install t m) (CrashMember m) (Send (message.Ack t m c) ∷ []) (outcome_of x.log.armed 4)
commit_moves x t m c IsInstalled = Send (message.Ack t m c) ∷ []
commit_moves x t m c IsAbsent = []

abbrev pub abort_moves : ℕ → ℕ → Standing → List Move
abort_moves t m IsActive = DropActive t m ∷ []
abort_moves t m IsVoted = DropVoted t m ∷ []
abort_moves t m IsInstalled = []
abort_moves t m IsAbsent = []

abbrev pub decision_moves : MemberState → ℕ → ℕ → ℕ → Bool → List Move
decision_moves x t m c true = commit_moves x t m c (standing_of x t)
decision_moves x t m c false = abort_moves t m (standing_of x t)

-- a timer and a question
abbrev pub timer_moves : ℕ → ℕ → Standing → List Move
timer_moves t m IsActive = DropActive t m ∷ []
timer_moves t m IsVoted = []
timer_moves t m IsInstalled = []
timer_moves t m IsAbsent = []

abbrev pub question_moves : MemberState → ℕ → ℕ → Standing → List Move
question_moves x t m IsActive = []
question_moves x t m IsVoted = Send (message.Ask t m (coord_of x t)) ∷ []
question_moves x t m IsInstalled = []
question_moves x t m IsAbsent = []

-- a checkpoint, and a restart
abbrev pub closing_moves : Move → Move → (Bool → Move) → Outcome → List Move
closing_moves done crash closes Completes = done ∷ []
closing_moves done crash closes (StopsAt call leaves) = closes (closes_spare leaves) ∷ crash ∷ []

abbrev pub member_checkpoint_moves : MemberState → ℕ → Bool → List Move
member_checkpoint_moves x m false = closing_moves (CloseMemberSpare m true) (CrashMember m) (CloseMemberSpare m) (outcome_of x.log.armed 2)
member_checkpoint_moves x m true = written_moves (FillMemberSpare m) (CrashMember m) [] (outcome_of x.log.armed 4)

abbrev pub restart_moves : Move → Bool → List Move
restart_moves up true = []
restart_moves up false = up ∷ []

-- a local transaction asks for its end
abbrev pub local_decision_moves : ℕ → ℕ → Outcome → List Move
local_decision_moves t m Completes = CommitLocally t m ∷ []
local_decision_moves t m (StopsAt call leaves) =
    if batch_is_stable call leaves then CommitLocally t m ∷ CrashMember m ∷ [] else AskEnd t ∷ CrashMember m ∷ []

abbrev pub local_verdict_moves : MemberState → ℕ → ℕ → Verdict → List Move
local_verdict_moves x t m LostOperations = AskEnd t ∷ drop_moves (holds x.engine.active t) t m
local_verdict_moves x t m (StaleRead key) = AskEnd t ∷ drop_moves (holds x.engine.active t) t m
local_verdict_moves x t m (HeldBy u) = []
local_verdict_moves x t m VoteYes = local_decision_moves t m (outcome_of x.log.armed 4)

abbrev pub local_commit_moves : MemberState → ℕ → ℕ → ℕ → List Move
local_commit_moves x t m carried = if carried == 0 then AskEnd t ∷ [] else local_verdict_moves x t m (vote_of x.engine t carried)

abbrev pub local_abort_moves : ℕ → ℕ → Standing → List Move
local_abort_moves t m IsActive = AskEnd t ∷ DropActive t m ∷ []
local_abort_moves t m IsVoted = AskEnd t ∷ []
local_abort_moves t m IsInstalled = AskEnd t ∷ []
local_abort_moves t m IsAbsent = AskEnd t ∷ []

-- a client asks a coordinator for the end
abbrev pub decided_at_once : ℕ → ℕ → Outcome → List Move
decided_at_once t c Completes = AskEnd t ∷ Decide t c ∷ []
decided_at_once t c (StopsAt call leaves) = stopped_moves (Decide t c) (CrashCoord c) (batch_is_stable call leaves)

abbrev pub ask_commit_moves : CoordState → ℕ → ℕ → List Part → List Move
ask_commit_moves x t c [] = decided_at_once t c (outcome_of x.log.armed 4)
ask_commit_moves x t c (p ∷ ps) = AskEnd t ∷ Collect t c ∷ sends (prepares_to c t (p ∷ ps))

abbrev pub commit_entry_moves : CoordState → ℕ → ℕ → List Part → Option Entry → List Move
commit_entry_moves x t c parts None = AskEnd t ∷ []
commit_entry_moves x t c parts (Some entry.Idle) = ask_commit_moves x t c parts
commit_entry_moves x t c parts (Some (entry.Collecting ps yeses)) = AskEnd t ∷ []
commit_entry_moves x t c parts (Some (entry.Committed ms acks)) = AskEnd t ∷ []

-- a transaction leaves the table, and its participants are told
abbrev pub leave_moves : ℕ → ℕ → List Part → List Move
leave_moves t c parts = LeaveTable t c ∷ sends (decisions_to c t false (members_of parts))

abbrev pub abort_entry_moves : ℕ → ℕ → List Part → Option Entry → List Move
abort_entry_moves t c parts None = AskEnd t ∷ []
abort_entry_moves t c parts (Some entry.Idle) = AskEnd t ∷ leave_moves t c parts
abort_entry_moves t c parts (Some (entry.Collecting ps yeses)) = AskEnd t ∷ []
abort_entry_moves t c parts (Some (entry.Committed ms acks)) = AskEnd t ∷ []

-- a coordinator: a yes, and the last one
abbrev pub yes_counted_moves : CoordState → ℕ → ℕ → ℕ → List Part → Option ℕ → List Move
yes_counted_moves x t c m parts (Some k) = RecordYes t c m ∷ []
yes_counted_moves x t c m parts None =
    written_moves (Decide t c) (CrashCoord c) (sends (decisions_to c t true (members_of parts))) (outcome_of x.log.armed 4)

abbrev pub yes_moves : CoordState → ℕ → ℕ → ℕ → Option Entry → List Move
yes_moves x t c m None = []
yes_moves x t c m (Some entry.Idle) = []
yes_moves x t c m (Some (entry.Collecting parts yeses)) =
    if has_part parts m && not (has_number yeses m)
    then yes_counted_moves x t c m parts (first_lacking (members_of parts) (m ∷ yeses))
    else []
yes_moves x t c m (Some (entry.Committed members acks)) = []

abbrev pub no_moves : ℕ → ℕ → ℕ → Option Entry → List Move
no_moves t c m None = []
no_moves t c m (Some entry.Idle) = []
no_moves t c m (Some (entry.Collecting parts yeses)) = if has_part parts m then leave_moves t c parts else []
no_moves t c m (Some (entry.Committed members acks)) = []

abbrev pub ask_moves : ℕ → ℕ → ℕ → Option Entry → List Move
ask_moves t c m None = Send (message.Decide t c m false) ∷ []
ask_moves t c m (Some entry.Idle) = []
ask_moves t c m (Some (entry.Collecting parts yeses)) = []
ask_moves t c m (Some (entry.Committed members acks)) = Send (message.Decide t c m true) ∷ []

-- an acknowledgement, and the last one
abbrev pub ack_counted_moves : ℕ → ℕ → ℕ → Option ℕ → List Move
ack_counted_moves t c m (Some k) = RecordAck t c m ∷ []
ack_counted_moves t c m None = End t c ∷ []

abbrev pub ack_moves : ℕ → ℕ → ℕ → Option Entry → List Move
ack_moves t c m None = []
ack_moves t c m (Some entry.Idle) = []
ack_moves t c m (Some (entry.Collecting parts yeses)) = []
ack_moves t c m (Some (entry.Committed members acks)) =
    if has_number members m && not (has_number acks m) then ack_counted_moves t c m (first_lacking members (m ∷ acks)) else []

abbrev pub coord_timer_moves : ℕ → ℕ → Option Entry → List Move
coord_timer_moves t c None = []
coord_timer_moves t c (Some entry.Idle) = LeaveTable t c ∷ []
coord_timer_moves t c (Some (entry.Collecting parts yeses)) = leave_moves t c parts
coord_timer_moves t c (Some (entry.Committed members acks)) = []

abbrev pub resend_moves : ℕ → ℕ → Option Entry → List Move
resend_moves t c None = []
resend_moves t c (Some entry.Idle) = []
resend_moves t c (Some (entry.Collecting parts yeses)) = sends (prepares_to c t (parts_lacking parts yeses))
resend_moves t c (Some (entry.Committed members acks)) = sends (decisions_to c t true (numbers_lacking members acks))

abbrev pub coord_checkpoint_moves : CoordState → ℕ → Bool → List Move
coord_checkpoint_moves x c false = closing_moves (CloseCoordSpare c true) (CrashCoord c) (CloseCoordSpare c) (outcome_of x.log.armed 2)
coord_checkpoint_moves x c true = written_moves (FillCoordSpare c) (CrashCoord c) [] (outcome_of x.log.armed 4)

-- the federation: a transaction begins
abbrev pub begin_moves : Move → Bool → Bool → List Move
begin_moves begins true up = []
begin_moves begins false true = begins ∷ []
begin_moves begins false false = []

-- a client asks for the end, at the node that decides
abbrev pub commit_at_moves : Federation → ℕ → Session → Node → List Move
commit_at_moves s t session (node.Coord c) = where_up (s.coord c).up (commit_entry_moves (s.coord c) t c (parts_of session.told) (look (s.coord c).table t))
commit_at_moves s t session (node.Member m) = where_up (s.member m).up (local_commit_moves (s.member m) t m (count_at session.told m))

abbrev pub commit_with_moves : Federation → ℕ → Leave → List Move
commit_with_moves s t (Refuses a) = []
commit_with_moves s t (Grants session) = commit_at_moves s t session session.by

abbrev pub abort_at_moves : Federation → ℕ → Session → Node → List Move
abort_at_moves s t session (node.Coord c) = where_up (s.coord c).up (abort_entry_moves t c (parts_of session.told) (look (s.coord c).table t))
abort_at_moves s t session (node.Member m) = where_up (s.member m).up (local_abort_moves t m (standing_of (s.member m) t))

abbrev pub abort_with_moves : Federation → ℕ → Leave → List Move
abort_with_moves s t (Refuses a) = []
abort_with_moves s t (Grants session) = abort_at_moves s t session session.by

-- a message arrives
abbrev pub vote_arrives : Federation → ℕ → ℕ → ℕ → Bool → List Move
vote_arrives s t c m true = yes_moves (s.coord c) t c m (look (s.coord c).table t)
vote_arrives s t c m false = no_moves t c m (look (s.coord c).table t)

abbrev pub arrival_moves : Federation → Message → List Move
arrival_moves s (message.Prepare t c m n) = where_up (s.member m).up (prepare_moves (s.member m) t m c n (standing_of (s.member m) t))
arrival_moves s (message.Decide t c m commit) = where_up (s.member m).up (decision_moves (s.member m) t m c commit)
arrival_moves s (message.Vote t m c granted) = where_up (s.coord c).up (vote_arrives s t c m granted)
arrival_moves s (message.Ask t m c) = where_up (s.coord c).up (ask_moves t c m (look (s.coord c).table t))
arrival_moves s (message.Ack t m c) = where_up (s.coord c).up (ack_moves t c m (look (s.coord c).table t))

abbrev pub timer_at_moves : Federation → ℕ → Node → List Move
timer_at_moves s t (node.Member m) = where_up (s.member m).up (timer_moves t m (standing_of (s.member m) t))
timer_at_moves s t (node.Coord c) = where_up (s.coord c).up (coord_timer_moves t c (look (s.coord c).table t))

-- a node's log
abbrev pub crash_at_moves : Federation → Node → List Move
crash_at_moves s (node.Member m) = where_up (s.member m).up (CrashMember m ∷ [])
crash_at_moves s (node.Coord c) = where_up (s.coord c).up (CrashCoord c ∷ [])

abbrev pub restart_at_moves : Federation → Node → List Move
restart_at_moves s (node.Member m) = restart_moves (RestartMember m) (s.member m).up
restart_at_moves s (node.Coord c) = restart_moves (RestartCoord c) (s.coord c).up

abbrev pub arm_at_moves : Federation → ℕ → Leaves → Node → List Move
arm_at_moves s call leaves (node.Member m) = where_up (s.member m).up (ArmMember m (Some (record { call = call; leaves = leaves })) ∷ [])
arm_at_moves s call leaves (node.Coord c) = where_up (s.coord c).up (ArmCoord c (Some (record { call = call; leaves = leaves })) ∷ [])

abbrev pub checkpoint_at_moves : Federation → Node → List Move
checkpoint_at_moves s (node.Member m) = where_up (s.member m).up (member_checkpoint_moves (s.member m) m (s.member m).log.spare_closed)
checkpoint_at_moves s (node.Coord c) = where_up (s.coord c).up (coord_checkpoint_moves (s.coord c) c (s.coord c).log.spare_closed)

-- the event of a schedule line
abbrev pub line_moves : Federation → Event → List Move
line_moves s (event.Begin t c) = begin_moves (Begin t c) (is_used s t) (s.coord c).up
line_moves s (event.Local t m) = begin_moves (BeginLocal t m) (is_used s t) (s.member m).up
line_moves s (event.Read t m key) = operate_moves s t m (op.Read key)
line_moves s (event.Write t m key value) = operate_moves s t m (op.Write key value)
line_moves s (event.Erase t m key) = operate_moves s t m (op.Erase key)
line_moves s (event.Scan t m span) = operate_moves s t m (op.Scan span)
line_moves s (event.Commit t) = commit_with_moves s t (leave_to_end (look s.sessions t))
line_moves s (event.Abort t) = abort_with_moves s t (leave_to_end (look s.sessions t))
line_moves s (event.Deliver note) = if was_sent s.sent note then arrival_moves s note else []
line_moves s (event.Vote t m) = where_up (s.member m).up (again_moves (s.member m) t m (standing_of (s.member m) t))
line_moves s (event.Timer t at) = timer_at_moves s t at
line_moves s (event.Ask t m) = where_up (s.member m).up (question_moves (s.member m) t m (standing_of (s.member m) t))
line_moves s (event.Resend t c) = where_up (s.coord c).up (resend_moves t c (look (s.coord c).table t))
line_moves s (event.Crash at) = crash_at_moves s at
line_moves s (event.Restart at) = restart_at_moves s at
line_moves s (event.Arm at call leaves) = arm_at_moves s call leaves at
line_moves s (event.Checkpoint at) = checkpoint_at_moves s at

-- Everything that may happen. To take all armed stops away is no event: it is no list of moves, since it is done at
-- every node at once.
abbrev pub moves_of : Federation → Happening → List Move
moves_of s (happening.Line e) = line_moves s e
moves_of s (happening.Hand t m commit) = where_up (s.member m).up (decision_moves (s.member m) t m (coord_of (s.member m) t) commit)
moves_of s happening.Disarm = []
