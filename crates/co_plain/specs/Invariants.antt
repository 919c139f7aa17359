-- The invariants of every run, but for the ninth. Facts of a member are facts of its view, and hold of what its memory has and of
-- what its stable records tell: the two sides.
use Rattle.std.specs.Prelude.{ℕ, Bool, true, false, ◌&&◌, ◌||◌, ◌==◌, nat_le, ◌≡◌, ◌≢◌, ◌≤◌, ◌⊎◌, List, [], ◌∷◌, ◌++◌, length, Option, None, Some}
use Rattle.std.specs.FinMap.{entries}
use Rattle.co_base.specs.declared.node.Node.TheVariants as node
use Rattle.co_base.specs.declared.part.Part.{Part}
use Rattle.co_base.specs.declared.written.Written.{Written}
use Rattle.co_message.specs.declared.message.Message.{Message}
use Rattle.co_message.specs.declared.message.Message.TheVariants as message
use Rattle.co_record.specs.declared.record.Record.{Record}
use Rattle.co_record.specs.declared.record.Record.TheVariants as log
use Rattle.co_serial.specs.Records.{Records, with_changes}
use Rattle.co_serial.specs.SerialRun.{reply_to, run_whole}
use Rattle.co_state.specs.declared.engine_state.EngineState.{EngineState}
use Rattle.co_state.specs.declared.engine_state.Operation.{Operation}
use Rattle.co_state.specs.declared.engine_state.Vote.{Vote}
use Rattle.co_state.specs.Table.{look, holds}
use Rattle.co_state.specs.Changes.{with_written, with_span, change_made, span_read, changes_of}
use Rattle.co_state.specs.EngineState.{records_at}
use Rattle.co_base.specs.Span.{Span}
use Rattle.co_plain.specs.declared.coord_state.Entry.{Entry}
use Rattle.co_plain.specs.declared.coord_state.Entry.TheVariants as entry
use Rattle.co_plain.specs.declared.member_state.AskedMark.{AskedMark}
use Rattle.co_plain.specs.declared.member_state.MemberState.{MemberState}
use Rattle.co_plain.specs.declared.session.Decided.{Decided}
use Rattle.co_plain.specs.declared.session.Session.{Session}
use Rattle.co_plain.specs.declared.session.Told.{Told}
use Rattle.co_plain.specs.Numbers.{TxnNumber, MemberNumber, has_number}
use Rattle.co_plain.specs.declared.member_view.MemberView.{MemberView}
use Rattle.co_plain.specs.MemberView.{view_of, recovered_view, sets_conflict}
use Rattle.co_plain.specs.CoordView.{has_commit_of}
use Rattle.co_plain.specs.CoordStep.{members_of}
use Rattle.co_plain.specs.Sessions.{told_at, count_at, parts_of}
use Rattle.co_plain.specs.Wire.{was_sent}
use Rattle.co_plain.specs.Federation.{Federation}
use Rattle.co_plain.specs.Decisions.{is_decided, is_asked, told_of, sites_of, replies_of, BelongsTo, IsPresumedAborted, IsSettled}
use Rattle.co_plain.specs.SoundLogs.{AreSound, log_has_committed, unended_in}
use Rattle.co_plain.specs.DurableRecords.{laid_where}
use Rattle.co_plain.specs.Promises.{serial_records}

-- the two sides of a member
pub data Side : Type 0 where
  Memory : Side
  Stable : Side

abbrev pub view : Side → MemberState → MemberView
view Memory x = view_of x.engine x.committed
view Stable x = recovered_view x.log.stable

-- voted or committed on a side
abbrev pub stands : MemberView → TxnNumber → Bool
stands v t = holds v.voted t || holds v.committed t

-- 1. The voted transactions of a member do not conflict.
abbrev pub VotedAreConflictFree : MemberView → Type 0
VotedAreConflictFree v =
    (t u : ℕ) (a b : Vote) → t ≢ u → look v.voted t ≡ Some a → look v.voted u ≡ Some b → sets_conflict a.sets b.sets ≡ false

-- what told operations read and wrote, the newest first
abbrev pub told_spans : List Told → List Span
told_spans [] = []
told_spans (o ∷ os) = with_span (span_read o.site.op) (told_spans os)

abbrev pub told_changes : List Told → List Written
told_changes [] = []
told_changes (o ∷ os) = with_written (change_made o.site.op) (told_changes os)

-- each told operation, run on the records with the writes of the earlier ones laid over, gives its reply
abbrev pub Replays : Records → List Told → Type 0
Replays records [] = Unit {0}
Replays records (o ∷ os) = (o.reply ≡ reply_to (with_changes records (told_changes os)) o.site.op) × Replays records os

-- 2. A voted transaction of this run replays on the installed records, and its sets are those of its operations.
pub record VotedReplay (v : MemberView) (told : ℕ → List Told) (begun : ℕ → Bool) : Type 0 where
  pub replays : (t : ℕ) (vote : Vote) → begun t ≡ true → look v.voted t ≡ Some vote → Replays v.records (told t)
  pub reads : (t : ℕ) (vote : Vote) → begun t ≡ true → look v.voted t ≡ Some vote → vote.sets.reads ≡ told_spans (told t)
  pub writes : (t : ℕ) (vote : Vote) → begun t ≡ true → look v.voted t ≡ Some vote → vote.sets.writes ≡ told_changes (told t)

abbrev pub is_begun : Federation → TxnNumber → Bool
is_begun s t = holds s.sessions t

abbrev pub told_here : Federation → MemberNumber → TxnNumber → List Told
told_here s m t = told_at (told_of s t) m

-- 3. What a member told is durable.
pub record SaidIsDurable (s : Federation) : Type 0 where
  pub votes : (t m c : ℕ) (side : Side) → was_sent s.sent (message.Vote t m c true) ≡ true → ¬ (IsPresumedAborted s t) →
      stands (view side (s.member m)) t ≡ true
  pub acks : (t m c : ℕ) (side : Side) → was_sent s.sent (message.Ack t m c) ≡ true →
      holds (view side (s.member m)).committed t ≡ true

-- whether a vote is settled: decided in this run, or committed in the opened file of its coordinator
abbrev pub is_settled_vote : Federation → TxnNumber → Vote → Bool
is_settled_vote s t vote = is_decided s.decided t || has_commit_of (s.opened_coord vote.coord) t

-- 4. The serial records are the installed ones with the settled votes laid over, the least number first; and who is decided and
-- held operations here stands here. And committed transactions read serially, each at its place of the decision order.
pub record InstalledIsSerial (s : Federation) (m : ℕ) (v : MemberView) : Type 0 where
  pub serial : laid_where (is_settled_vote s) v.records (entries v.voted) ≡ serial_records s s.decided m
  pub decided_stand : (d : Decided) (later earlier : List Decided) → s.decided ≡ later ++ d ∷ earlier → 1 ≤ count_at d.told m →
      stands v d.txn ≡ true

abbrev pub ReadsAreSerial : Federation → Type 0
ReadsAreSerial s =
    (later earlier : List Decided) (d : Decided) → s.decided ≡ later ++ d ∷ earlier →
    replies_of d.told ≡ run_whole (serial_records s earlier) (sites_of d.told)

-- a participant of a transaction: it holds operations of it, or an opened commit names it
pub data TakesPart (s : Federation) (t m : ℕ) : Type 0 where
  HeldOperations : 1 ≤ count_at (told_of s t) m → TakesPart s t m
  NamedBefore : (c : ℕ) (members : List ℕ) → unended_in (s.opened_coord c) t ≡ Some members → has_number members m ≡ true → TakesPart s t m

-- whether the member held operations of the transaction at its decision
abbrev pub took_part : List Decided → TxnNumber → MemberNumber → Bool
took_part [] t m = false
took_part (d ∷ ds) t m = (d.txn == t) && nat_le 1 (count_at d.told m) || took_part ds t m

-- a participant of a settled transaction: it held operations of it at its decision, or an opened commit names it
pub data TookPart (s : Federation) (t m : ℕ) : Type 0 where
  HeldAtDecision : took_part s.decided t m ≡ true → TookPart s t m
  NamedInOpened : (c : ℕ) (members : List ℕ) → unended_in (s.opened_coord c) t ≡ Some members → has_number members m ≡ true → TookPart s t m

-- 5. Decision messages are true: an abort is of a presumed aborted transaction, a commit of a settled one, and goes to one of its
-- participants.
pub record DecisionsAreTrue (s : Federation) : Type 0 where
  pub aborts : (t c m : ℕ) → was_sent s.sent (message.Decide t c m false) ≡ true →
      (BelongsTo s t c × IsPresumedAborted s t) ⊎ (log_has_committed (s.member m).log.stable t ≡ true)
  pub commits : (t c m : ℕ) → was_sent s.sent (message.Decide t c m true) ≡ true → IsSettled s t × TookPart s t m

-- the operations that a member keeps are those that the client was told of, each with the reply that the
-- records at its stamp give with the earlier writes laid over
abbrev pub KeptAsTold : EngineState → List Operation → List Told → Type 0
KeptAsTold b [] [] = Unit {0}
KeptAsTold b [] (t ∷ ts) = ⊥
KeptAsTold b (o ∷ os) [] = ⊥
KeptAsTold b (o ∷ os) (t ∷ ts) =
    (o.op ≡ t.site.op)
    × (t.reply ≡ reply_to (with_changes (records_at b.base b.installed o.stamp) (changes_of os)) o.op)
    × KeptAsTold b os ts

-- each operation saw installs that were made
abbrev pub StampsIn : ℕ → List Operation → Type 0
StampsIn n [] = Unit {0}
StampsIn n (o ∷ os) = (o.stamp ≤ n) × StampsIn n os

-- 6. An active transaction matches its client's session, and stands nowhere at its member.
pub record ActiveMatchesSession (s : Federation) : Type 0 where
  pub kept : (t m : ℕ) (os : List Operation) → look (s.member m).engine.active t ≡ Some os →
      KeptAsTold (s.member m).engine os (told_here s m t)
  pub stamped : (t m : ℕ) (os : List Operation) → look (s.member m).engine.active t ≡ Some os → StampsIn (length (s.member m).engine.installed) os
  pub begun : (t m : ℕ) (os : List Operation) → look (s.member m).engine.active t ≡ Some os → holds s.sessions t ≡ true
  pub apart : (t m : ℕ) (os : List Operation) → look (s.member m).engine.active t ≡ Some os → stands (view Memory (s.member m)) t ≡ false
  pub prepared : (t c m n : ℕ) → was_sent s.sent (message.Prepare t c m n) ≡ true → (n ≡ count_at (told_of s t) m) × (1 ≤ n)
  pub collecting : (t c : ℕ) (parts : List Part) (yeses : List ℕ) → look (s.coord c).table t ≡ Some (entry.Collecting parts yeses) →
      parts ≡ parts_of (told_of s t)

abbrev pub txn_of : Message → TxnNumber
txn_of (message.Prepare t c m n) = t
txn_of (message.Vote t m c granted) = t
txn_of (message.Decide t c m commit) = t
txn_of (message.Ask t m c) = t
txn_of (message.Ack t m c) = t

-- asked in its session, or in an opened log
abbrev pub is_asked_or_used : Federation → TxnNumber → Bool
is_asked_or_used s t = is_asked s t || holds s.used t

-- 7. Only a transaction that was asked to end is past its last operation.
pub record OnlyAskedVote (s : Federation) : Type 0 where
  pub standing : (t m : ℕ) (side : Side) → stands (view side (s.member m)) t ≡ true → is_asked_or_used s t ≡ true
  pub in_table : (t c : ℕ) (e : Entry) → look (s.coord c).table t ≡ Some e → e ≢ entry.Idle → is_asked_or_used s t ≡ true
  pub named : (note : Message) → was_sent s.sent note ≡ true → is_asked_or_used s (txn_of note) ≡ true
  pub begun_is_new : (t : ℕ) → holds s.sessions t ≡ true → holds s.used t ≡ false
  pub marked : (t m : ℕ) (mark : AskedMark) → look (s.member m).asked t ≡ Some mark →
      (holds (s.member m).engine.active t ≡ true) × (was_sent s.sent (message.Prepare t mark.coord m mark.count) ≡ true)

-- Aborts alone wait at a member, each of a transaction that the records before it have voted; so each waits once,
-- and no restart finds an abort of what is not voted.
abbrev pub OwnAborts : List Record → List Record → Type 0
OwnAborts stable [] = Unit {0}
OwnAborts stable (log.Abort t ∷ rs) = (holds (recovered_view (rs ++ stable)).voted t ≡ true) × OwnAborts stable rs
OwnAborts stable (_ ∷ rs) = ⊥

-- The stable records of a member with the waiting ones tell what memory has.
pub record LogTellsMemory (s : Federation) (m : ℕ) : Type 0 where
  pub same : recovered_view ((s.member m).log.waiting ++ (s.member m).log.stable) ≡ view Memory (s.member m)
  pub waiting : OwnAborts (s.member m).log.stable (s.member m).log.waiting

-- only abort records of transactions wait at a member that their coordinators presume aborted
abbrev pub OnlyAbortsWait : Federation → List Record → Type 0
OnlyAbortsWait s [] = Unit {0}
OnlyAbortsWait s (log.Abort t ∷ rs) = ((c : ℕ) × BelongsTo s t c × IsPresumedAborted s t) × OnlyAbortsWait s rs
OnlyAbortsWait s (_ ∷ rs) = ⊥

-- 8. Log and memory agree, and the aborts that wait are true.
pub record LogMatchesMemory (s : Federation) (m : ℕ) : Type 0 where
  pub tells : LogTellsMemory s m
  pub presumed : OnlyAbortsWait s (s.member m).log.waiting

-- where a transaction is held: in its coordinator's table, as a participant where it collects or is committed,
-- or committed at the member
abbrev pub takes_part_in : Option Entry → MemberNumber → Bool
takes_part_in None m = false
takes_part_in (Some entry.Idle) m = false
takes_part_in (Some (entry.Collecting parts yeses)) m = has_number (members_of parts) m
takes_part_in (Some (entry.Committed members acks)) m = has_number members m

abbrev pub ends_only : List Record → Bool
ends_only [] = true
ends_only (log.End t ∷ rs) = ends_only rs
ends_only (_ ∷ rs) = false

-- 10. The files are sound.
abbrev pub FilesAreSound : Federation → Type 0
FilesAreSound s = AreSound (λ m. (s.member m).log.stable) (λ c. (s.coord c).log.stable)

-- Sessions: a local transaction holds operations at its own member alone, and was asked to end where it is decided; and a
-- decided one was asked to end, and holds the operations that it held at its decision, unless it had none.
pub record SessionsAreKept (s : Federation) : Type 0 where
  pub local_home : (t m n : ℕ) (session : Session) → look s.sessions t ≡ Some session → session.by ≡ node.Member m → n ≢ m → count_at session.told n ≡ 0
  pub local_asked : (t m : ℕ) (session : Session) → look s.sessions t ≡ Some session → session.by ≡ node.Member m → is_decided s.decided t ≡ true →
      session.asked ≡ true
  pub decided_kept : (d : Decided) (later earlier : List Decided) → s.decided ≡ later ++ d ∷ earlier →
      (d.told ≡ []) ⊎ ((told_of s d.txn ≡ d.told) × (is_asked s d.txn ≡ true))

-- Who works at a member was told of operations there: who is active, by now; who is decided and stands there, at its decision.
pub record StandersWereTold (s : Federation) : Type 0 where
  pub active : (m t : ℕ) → holds (s.member m).engine.active t ≡ true → 1 ≤ count_at (told_of s t) m
  pub decided : (d : Decided) (later earlier : List Decided) → s.decided ≡ later ++ d ∷ earlier →
      (m : ℕ) → stands (view Memory (s.member m)) d.txn ≡ true → 1 ≤ count_at d.told m
