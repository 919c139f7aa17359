-- Moves: the small changes that every event is made of. An invariant is proved for each move, and not for each
-- cell of the tables. A guard is a product of tests and messages: what must hold before the move.
use Rattle.std.specs.Prelude.{ℕ, Bool, true, false, ◌≡◌, ◌≢◌, ◌⊎◌, ◌≤◌, List, [], ◌∷◌, Option, None, Some}
use Rattle.co_base.specs.declared.node.Node.TheVariants as node
use Rattle.co_base.specs.declared.op.Op.{Op}
use Rattle.co_base.specs.declared.part.Part.{Part}
use Rattle.co_message.specs.declared.message.Message.{Message}
use Rattle.co_message.specs.declared.message.Message.TheVariants as message
use Rattle.co_record.specs.declared.record.Record.TheVariants as log
use Rattle.co_state.specs.Table.{look, put, without, holds}
use Rattle.co_state.specs.Changes.{sets_of}
use Rattle.co_state.specs.EngineState.{operations_of}
use Rattle.co_state.specs.ReadRule.{operation_reply}
use Rattle.co_state.specs.LockRule.{lock_blocker}
use Rattle.co_state.specs.declared.verdict.Verdict.TheVariants.{VoteYes}
use Rattle.co_state.specs.VotingRule.{vote_of, kept_count}
use Rattle.co_state.specs.Effects.{with_operation}
use Rattle.co_plain.specs.declared.coord_state.CoordState.{CoordState}
use Rattle.co_plain.specs.declared.coord_state.Entry.{Entry}
use Rattle.co_plain.specs.declared.coord_state.Entry.TheVariants as entry
use Rattle.co_base.specs.declared.leaves.Stop.{Stop}
use Rattle.co_base.specs.Limits.{most_operations}
use Rattle.co_plain.specs.declared.member_state.MemberState.{MemberState}
use Rattle.co_plain.specs.declared.session.Session.{Session}
use Rattle.co_plain.specs.Numbers.{TxnNumber, MemberNumber, CoordNumber, Count, counted, first_lacking, has_number, next_generation}
use Rattle.co_plain.specs.LogWrite.{with_batch, with_filled_spare, with_spare, with_stop, with_waiting, generation_of}
use Rattle.co_plain.specs.MemberStep.{with_log, with_engine, dropped, member_down}
use Rattle.co_plain.specs.Member.{prepare_record, voted_state, installed_state, with_mark, coord_of}
use Rattle.co_plain.specs.MemberLog.{member_spare}
use Rattle.co_plain.specs.LocalCommit.{local_coord}
use Rattle.co_plain.specs.CoordStep.{with_table, with_coord_log, coord_down, has_part, members_of}
use Rattle.co_plain.specs.CoordLog.{coord_spare}
use Rattle.co_plain.specs.Sessions.{count_at, parts_of, begun_by, with_told, asked_to_end}
use Rattle.co_plain.specs.Wire.{send_one, was_sent}
use Rattle.co_plain.specs.Federation.{Federation, with_member, with_coord, with_session}
use Rattle.co_plain.specs.Step.{is_used}
use Rattle.co_plain.specs.Decisions.{told_of, is_asked, BelongsTo, IsPresumedAborted, IsSettled}
use Rattle.co_plain.specs.SoundLogs.{log_has_committed}
use Rattle.co_plain.specs.Invariants.{TookPart, is_asked_or_used}

pub data Move : Type 0 where
  -- of a member: an answered operation, with the session's entry; a prepare is marked; a vote; what is forgotten;
  -- an install; a local transaction is cast, decided and installed at once
  Operate : TxnNumber → MemberNumber → Op → Move
  MarkAsked : TxnNumber → MemberNumber → CoordNumber → Count → Move
  Cast : TxnNumber → MemberNumber → CoordNumber → Count → Move
  DropActive : TxnNumber → MemberNumber → Move
  DropVoted : TxnNumber → MemberNumber → Move
  Install : TxnNumber → MemberNumber → Move
  CommitLocally : TxnNumber → MemberNumber → Move
  -- of a member's log
  CrashMember : MemberNumber → Move
  RestartMember : MemberNumber → Move
  ArmMember : MemberNumber → Option Stop → Move
  CloseMemberSpare : MemberNumber → Bool → Move
  FillMemberSpare : MemberNumber → Move
  -- of a coordinator
  Begin : TxnNumber → CoordNumber → Move
  Collect : TxnNumber → CoordNumber → Move
  RecordYes : TxnNumber → CoordNumber → MemberNumber → Move
  Decide : TxnNumber → CoordNumber → Move
  Leave : TxnNumber → CoordNumber → Move
  RecordAck : TxnNumber → CoordNumber → MemberNumber → Move
  End : TxnNumber → CoordNumber → Move
  -- of a coordinator's log
  CrashCoord : CoordNumber → Move
  RestartCoord : CoordNumber → Move
  ArmCoord : CoordNumber → Option Stop → Move
  CloseCoordSpare : CoordNumber → Bool → Move
  FillCoordSpare : CoordNumber → Move
  -- of the client and the network
  BeginLocal : TxnNumber → MemberNumber → Move
  AskEnd : TxnNumber → Move
  Send : Message → Move

-- the session of a transaction after an answer, where it was begun
abbrev pub entered_reply : Federation → TxnNumber → MemberNumber → Op → Option Session → Federation
entered_reply s t m o None = s
entered_reply s t m o (Some session) =
    with_session s t (with_told session (record { site = record { member = m; op = o }; reply = operation_reply (s.member m).engine t o }))

abbrev pub marked_over : Federation → TxnNumber → Option Session → Federation
marked_over s t None = s
marked_over s t (Some session) = with_session s t (asked_to_end session)

abbrev pub cast_state : MemberState → TxnNumber → CoordNumber → Count → MemberState
cast_state x t c n =
    with_log (voted_state x t c n) (with_batch x.log (prepare_record t c n (sets_of (operations_of x.engine t)) ∷ []))

abbrev pub install_state : MemberState → TxnNumber → MemberState
install_state x t = with_log (installed_state x t) (with_batch x.log (log.Commit t [] ∷ []))

abbrev pub local_state : MemberState → TxnNumber → Count → MemberState
local_state x t n =
    with_log (installed_state (voted_state x t local_coord (counted n)) t)
    (with_batch x.log (log.Commit t [] ∷ prepare_record t local_coord (counted n) (sets_of (operations_of x.engine t)) ∷ []))

abbrev pub restarted : MemberState → MemberState
restarted x = record x { up = true }

-- the decision order grows
abbrev pub with_decision : Federation → TxnNumber → Federation
with_decision s t = record s { decided = record { txn = t; told = told_of s t } ∷ s.decided }

abbrev pub with_message : Federation → Message → Federation
with_message s note = record s { sent = send_one s.sent note }

abbrev pub entry_at : Federation → TxnNumber → CoordNumber → Option Entry
entry_at s t c = look (s.coord c).table t

abbrev pub with_entry : Federation → TxnNumber → CoordNumber → Entry → Federation
with_entry s t c e = with_coord s c (with_table (s.coord c) (put (s.coord c).table t e))

abbrev pub without_entry : Federation → TxnNumber → CoordNumber → Federation
without_entry s t c = with_coord s c (with_table (s.coord c) (without (s.coord c).table t))

-- a coordinator's commit is forced. Without participants the transaction leaves the table at once.
abbrev pub table_decided : CoordState → TxnNumber → List ℕ → CoordState
table_decided x t [] = with_table x (without x.table t)
table_decided x t (m ∷ ms) = with_table x (put x.table t (entry.Committed (m ∷ ms) []))

abbrev pub decide_members : CoordState → TxnNumber → List ℕ → CoordState
decide_members x t members = with_coord_log (table_decided x t members) (with_batch x.log (log.Commit t members ∷ []))

abbrev pub decide_entry : CoordState → TxnNumber → Option Entry → CoordState
decide_entry x t None = x
decide_entry x t (Some entry.Idle) = decide_members x t []
decide_entry x t (Some (entry.Collecting parts yeses)) = decide_members x t (members_of parts)
decide_entry x t (Some (entry.Committed members acks)) = x

abbrev pub record_yes : Federation → TxnNumber → CoordNumber → MemberNumber → Option Entry → Federation
record_yes s t c m (Some (entry.Collecting parts yeses)) = with_entry s t c (entry.Collecting parts (m ∷ yeses))
record_yes s t c m _ = s

abbrev pub record_ack : Federation → TxnNumber → CoordNumber → MemberNumber → Option Entry → Federation
record_ack s t c m (Some (entry.Committed members acks)) = with_entry s t c (entry.Committed members (m ∷ acks))
record_ack s t c m _ = s

-- what each move leaves
abbrev pub effect : Federation → Move → Federation
effect s (Operate t m o) =
    with_member (entered_reply s t m o (look s.sessions t)) m (with_engine (s.member m) (with_operation (s.member m).engine t o))
effect s (MarkAsked t m c n) = with_member s m (with_mark (s.member m) t c n)
effect s (Cast t m c n) = with_member s m (cast_state (s.member m) t c n)
effect s (DropActive t m) = with_member s m (dropped (s.member m) t)
effect s (DropVoted t m) = with_member s m (with_log (dropped (s.member m) t) (with_waiting (s.member m).log (log.Abort t)))
effect s (Install t m) = with_member s m (install_state (s.member m) t)
effect s (CommitLocally t m) =
    with_decision
    (with_member (marked_over s t (look s.sessions t)) m (local_state (s.member m) t (count_at (told_of s t) m))) t
effect s (CrashMember m) = with_member s m (member_down (s.member m) (s.member m).log)
effect s (RestartMember m) = with_member s m (restarted (s.member m))
effect s (ArmMember m stop) = with_member s m (with_log (s.member m) (with_stop (s.member m).log stop))
effect s (CloseMemberSpare m closed) = with_member s m (with_log (s.member m) (with_spare (s.member m).log closed))
effect s (FillMemberSpare m) =
    with_member s m
    (with_log (s.member m) (with_filled_spare (s.member m).log (member_spare m (s.member m) (next_generation (generation_of (s.member m).log.stable)))))
effect s (Begin t c) = with_entry (with_session s t (begun_by (node.Coord c))) t c entry.Idle
effect s (Collect t c) = with_entry s t c (entry.Collecting (parts_of (told_of s t)) [])
effect s (RecordYes t c m) = record_yes s t c m (entry_at s t c)
effect s (Decide t c) = with_decision (with_coord s c (decide_entry (s.coord c) t (entry_at s t c))) t
effect s (Leave t c) = without_entry s t c
effect s (RecordAck t c m) = record_ack s t c m (entry_at s t c)
effect s (End t c) =
    with_coord s c
    (with_coord_log (with_table (s.coord c) (without (s.coord c).table t)) (with_waiting (s.coord c).log (log.End t)))
effect s (CrashCoord c) = with_coord s c (coord_down (s.coord c).log)
effect s (RestartCoord c) = with_coord s c (record (s.coord c) { up = true })
effect s (ArmCoord c stop) = with_coord s c (with_coord_log (s.coord c) (with_stop (s.coord c).log stop))
effect s (CloseCoordSpare c closed) = with_coord s c (with_coord_log (s.coord c) (with_spare (s.coord c).log closed))
effect s (FillCoordSpare c) =
    with_coord s c
    (with_coord_log (s.coord c) (with_filled_spare (s.coord c).log (coord_spare c (s.coord c) (next_generation (generation_of (s.coord c).log.stable)))))
effect s (BeginLocal t m) = with_session s t (begun_by (node.Member m))
effect s (AskEnd t) = marked_over s t (look s.sessions t)
effect s (Send note) = with_message s note

-- a session of a transaction of a coordinator, of a local one, and one that was not asked to end
abbrev pub session_by_coord : Option Session → CoordNumber → Type 0
session_by_coord None c = ⊥
session_by_coord (Some session) c = session.by ≡ node.Coord c

abbrev pub session_by_member : Option Session → MemberNumber → Type 0
session_by_member None m = ⊥
session_by_member (Some session) m = session.by ≡ node.Member m

abbrev pub may_operate_at : Option Session → MemberNumber → Type 0
may_operate_at None m = ⊥
may_operate_at (Some session) m = (session.asked ≡ false) × ((n : ℕ) → session.by ≡ node.Member n → n ≡ m)

-- what a message that is sent must say truly
abbrev pub may_send : Federation → Message → Type 0
may_send s (message.Prepare t c m n) =
    (parts : List Part) × (yeses : List ℕ) × (entry_at s t c ≡ Some (entry.Collecting parts yeses)) × (has_part parts m ≡ true) × (n ≡ count_at (told_of s t) m)
may_send s (message.Vote t m c true) = (holds (s.member m).engine.voted t ≡ true) × (coord_of (s.member m) t ≡ c)
may_send s (message.Vote t m c false) = (n : ℕ) × (was_sent s.sent (message.Prepare t c m n) ≡ true)
may_send s (message.Decide t c m true) = IsSettled s t × TookPart s t m × (is_asked_or_used s t ≡ true)
may_send s (message.Decide t c m false) =
    ((BelongsTo s t c × IsPresumedAborted s t) ⊎ (log_has_committed (s.member m).log.stable t ≡ true)) × (is_asked_or_used s t ≡ true)
may_send s (message.Ask t m c) = (holds (s.member m).engine.voted t ≡ true) × (coord_of (s.member m) t ≡ c)
may_send s (message.Ack t m c) = holds (s.member m).committed t ≡ true

-- what must hold before each move
abbrev pub Guard : Federation → Move → Type 0
Guard s (Operate t m o) =
    may_operate_at (look s.sessions t) m × (kept_count (s.member m).engine t ≡ count_at (told_of s t) m)
    × (count_at (told_of s t) m ≢ most_operations) × (lock_blocker (s.member m).engine t o ≡ None)
Guard s (MarkAsked t m c n) = (holds (s.member m).engine.active t ≡ true) × (was_sent s.sent (message.Prepare t c m n) ≡ true)
Guard s (Cast t m c n) = (was_sent s.sent (message.Prepare t c m n) ≡ true) × (vote_of (s.member m).engine t n ≡ VoteYes)
Guard s (DropActive t m) = holds (s.member m).engine.active t ≡ true
Guard s (DropVoted t m) = (holds (s.member m).engine.voted t ≡ true) × IsPresumedAborted s t
Guard s (Install t m) = (holds (s.member m).engine.voted t ≡ true) × IsSettled s t
Guard s (CommitLocally t m) =
    session_by_member (look s.sessions t) m × (is_asked s t ≡ false) × (1 ≤ count_at (told_of s t) m)
    × (vote_of (s.member m).engine t (count_at (told_of s t) m) ≡ VoteYes)
Guard s (CrashMember m) = Unit {0}
Guard s (RestartMember m) = Unit {0}
Guard s (ArmMember m stop) = Unit {0}
Guard s (CloseMemberSpare m closed) = Unit {0}
Guard s (FillMemberSpare m) = Unit {0}
Guard s (Begin t c) = is_used s t ≡ false
Guard s (Collect t c) =
    (entry_at s t c ≡ Some entry.Idle) × session_by_coord (look s.sessions t) c × (is_asked s t ≡ true) × (parts_of (told_of s t) ≢ [])
Guard s (RecordYes t c m) =
    (parts : List Part) × (yeses : List ℕ) × (entry_at s t c ≡ Some (entry.Collecting parts yeses)) × (has_part parts m ≡ true)
    × (was_sent s.sent (message.Vote t m c true) ≡ true) × (first_lacking (members_of parts) (m ∷ yeses) ≢ None)
Guard s (Decide t c) =
    ((entry_at s t c ≡ Some entry.Idle) × (parts_of (told_of s t) ≡ []))
    ⊎ ((parts : List Part) × (yeses : List ℕ) × (m : ℕ) × (entry_at s t c ≡ Some (entry.Collecting parts yeses))
    × (was_sent s.sent (message.Vote t m c true) ≡ true) × (first_lacking (members_of parts) (m ∷ yeses) ≡ None))
Guard s (Leave t c) =
    (entry_at s t c ≡ Some entry.Idle)
    ⊎ ((parts : List Part) × (yeses : List ℕ) × (entry_at s t c ≡ Some (entry.Collecting parts yeses)))
Guard s (RecordAck t c m) =
    (members : List ℕ) × (acks : List ℕ) × (entry_at s t c ≡ Some (entry.Committed members acks)) × (has_number members m ≡ true)
    × (was_sent s.sent (message.Ack t m c) ≡ true) × (first_lacking members (m ∷ acks) ≢ None)
Guard s (End t c) =
    (members : List ℕ) × (acks : List ℕ) × (m : ℕ) × (entry_at s t c ≡ Some (entry.Committed members acks))
    × (was_sent s.sent (message.Ack t m c) ≡ true) × (first_lacking members (m ∷ acks) ≡ None)
Guard s (CrashCoord c) = Unit {0}
Guard s (RestartCoord c) = Unit {0}
Guard s (ArmCoord c stop) = Unit {0}
Guard s (CloseCoordSpare c closed) = Unit {0}
Guard s (FillCoordSpare c) = Unit {0}
Guard s (BeginLocal t m) = is_used s t ≡ false
Guard s (AskEnd t) = holds s.sessions t ≡ true
Guard s (Send note) = may_send s note

-- moves one after another, and their guards, each where it stands
abbrev pub all_effects : List Move → Federation → Federation
all_effects [] s = s
all_effects (move ∷ moves) s = all_effects moves (effect s move)

abbrev pub GuardsHold : List Move → Federation → Type 0
GuardsHold [] s = Unit {0}
GuardsHold (move ∷ moves) s = Guard s move × GuardsHold moves (effect s move)
