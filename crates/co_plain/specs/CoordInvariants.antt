-- The ninth invariant, coordinators and members agree: what a coordinator has, by the entries of its table and by its records; what
-- members have of its transactions; and who was asked about them.
use Rattle.std.specs.Prelude.{ℕ, Bool, true, false, ◌||◌, ◌≡◌, ◌≢◌, ◌≤◌, ◌⊎◌, List, [], ◌∷◌, ◌++◌, Option, None, Some}
use Rattle.co_base.specs.declared.node.Node.TheVariants as node
use Rattle.co_base.specs.declared.part.Part.{Part}
use Rattle.co_message.specs.declared.message.Message.TheVariants as message
use Rattle.co_record.specs.declared.record.Record.{Record}
use Rattle.co_record.specs.declared.record.Record.TheVariants as log
use Rattle.co_state.specs.Table.{Table, look, holds}
use Rattle.co_plain.specs.declared.coord_state.Entry.{Entry}
use Rattle.co_plain.specs.declared.coord_state.Entry.TheVariants as entry
use Rattle.co_plain.specs.declared.member_view.MemberView.{MemberView}
use Rattle.co_plain.specs.declared.session.Decided.{Decided}
use Rattle.co_plain.specs.declared.session.Session.{Session}
use Rattle.co_plain.specs.Numbers.{TxnNumber, CoordNumber, first_lacking, has_number}
use Rattle.co_plain.specs.CoordView.{has_commit_of}
use Rattle.co_plain.specs.CoordStep.{members_of}
use Rattle.co_plain.specs.Sessions.{count_at, parts_of}
use Rattle.co_plain.specs.Wire.{was_sent}
use Rattle.co_plain.specs.Federation.{Federation}
use Rattle.co_plain.specs.Decisions.{is_decided, is_asked, told_of, votes_for, BelongsTo, IsPresumedAborted}
use Rattle.co_plain.specs.SoundLogs.{log_has_committed, unended_in}
use Rattle.co_plain.specs.Invariants.{Side, view, stands, takes_part_in, is_asked_or_used, TakesPart, TookPart}

-- ---- A coordinator by itself

-- begun at this coordinator in this run
abbrev pub BegunAt : Option Session → CoordNumber → Type 0
BegunAt None c = ⊥
BegunAt (Some session) c = session.by ≡ node.Coord c

-- Ends alone wait at a coordinator, each of a transaction that is not in the table and has a commit with participants
-- and without end in the records before it; so each waits once.
abbrev pub OwnEnds : Table Entry → List Record → List Record → Type 0
OwnEnds table stable [] = Unit {0}
OwnEnds table stable (log.End t ∷ rs) =
    (look table t ≡ None) × ((members : List ℕ) × (unended_in (rs ++ stable) t ≡ Some members) × (members ≢ [])) × OwnEnds table stable rs
OwnEnds table stable (_ ∷ rs) = ⊥

-- an entry of a transaction that is still open
pub record IsOpenEntry (s : Federation) (c t : ℕ) : Type 0 where
  pub begun_there : BegunAt (look s.sessions t) c
  pub undecided : is_decided s.decided t ≡ false
  pub unrecorded : has_commit_of (s.coord c).log.stable t ≡ false

-- of one that collects votes
pub record IsCollecting (s : Federation) (c t : ℕ) (parts : List Part) (yeses : List ℕ) : Type 0 where
  pub still : IsOpenEntry s c t
  pub asked : is_asked s t ≡ true
  pub parts_told : parts ≡ parts_of (told_of s t)
  pub lacks : first_lacking (members_of parts) yeses ≢ None
  pub yeses_sent : (m : ℕ) → has_number yeses m ≡ true → was_sent s.sent (message.Vote t m c true) ≡ true

-- of one that is committed and waits for acknowledgements
pub record IsCommitting (s : Federation) (c t : ℕ) (members acks : List ℕ) : Type 0 where
  pub recorded : unended_in (s.coord c).log.stable t ≡ Some members
  pub logged : unended_in ((s.coord c).log.waiting ++ (s.coord c).log.stable) t ≡ Some members
  pub some : members ≢ []
  pub lacks : first_lacking members acks ≢ None
  pub acks_sent : (m : ℕ) → has_number acks m ≡ true → was_sent s.sent (message.Ack t m c) ≡ true

-- Of one coordinator: its table, its records, and the decisions.
pub record TableMatchesLog (s : Federation) (c : ℕ) : Type 0 where
  pub idle : (t : ℕ) → look (s.coord c).table t ≡ Some entry.Idle → IsOpenEntry s c t
  pub collecting : (t : ℕ) (parts : List Part) (yeses : List ℕ) → look (s.coord c).table t ≡ Some (entry.Collecting parts yeses) →
      IsCollecting s c t parts yeses
  pub committed : (t : ℕ) (members acks : List ℕ) → look (s.coord c).table t ≡ Some (entry.Committed members acks) → IsCommitting s c t members acks
  -- a commit in the records was decided here in this run, or stood in the opened file, whose numbers are used ones
  pub recorded : (t : ℕ) → has_commit_of (s.coord c).log.stable t ≡ true →
      (BegunAt (look s.sessions t) c × (is_decided s.decided t ≡ true)) ⊎ (has_commit_of (s.opened_coord c) t ≡ true)
  -- and so did one without end, with these participants
  pub unended : (t : ℕ) (members : List ℕ) → unended_in (s.coord c).log.stable t ≡ Some members →
      (BegunAt (look s.sessions t) c × (is_decided s.decided t ≡ true)) ⊎ (unended_in (s.opened_coord c) t ≡ Some members)
  pub asked : (t : ℕ) (members : List ℕ) → unended_in (s.coord c).log.stable t ≡ Some members → is_asked_or_used s t ≡ true
  pub opened : (t : ℕ) → has_commit_of (s.opened_coord c) t ≡ true → holds s.used t ≡ true
  pub waiting : OwnEnds (s.coord c).table (s.coord c).log.stable (s.coord c).log.waiting

-- ---- Members and coordinators

-- What a member has on one of its sides: a vote names the coordinator of its transaction, whose table holds it for the member
-- unless it is presumed aborted; what is committed is not voted, is decided, and is not presumed aborted.
pub record ViewMatchesCoordinators (s : Federation) (m : ℕ) (v : MemberView) : Type 0 where
  pub named : (t c : ℕ) → votes_for (look v.voted t) c ≡ true → BelongsTo s t c
  pub held : (t c : ℕ) → votes_for (look v.voted t) c ≡ true → ¬ (IsPresumedAborted s t) → takes_part_in (look (s.coord c).table t) m ≡ true
  pub apart : (t : ℕ) → holds v.committed t ≡ true → holds v.voted t ≡ false
  pub decided : (t : ℕ) → holds v.committed t ≡ true → holds s.sessions t ≡ true → is_decided s.decided t ≡ true
  pub settled : (t c : ℕ) → holds v.committed t ≡ true → BelongsTo s t c → (is_decided s.decided t || has_commit_of (s.opened_coord c) t) ≡ true
  pub alive : (t : ℕ) → holds v.committed t ≡ true → ¬ (IsPresumedAborted s t)

-- the record is one of these
abbrev pub IsOneOf : Record → List Record → Type 0
IsOneOf r [] = ⊥
IsOneOf r (q ∷ rs) = (q ≡ r) ⊎ IsOneOf r rs

-- these were the participants of the transaction at its decision
abbrev pub TookPartIn : List Decided → TxnNumber → List ℕ → Type 0
TookPartIn [] t members = ⊥
TookPartIn (d ∷ ds) t members = ((d.txn ≡ t) × (members ≡ members_of (parts_of d.told))) ⊎ TookPartIn ds t members

-- The commit records of coordinators, and the members.
pub record CommitsMatchMembers (s : Federation) : Type 0 where
  -- a commit without end has only members that voted or committed, and that took part in its transaction
  pub unended : (t c m : ℕ) (members : List ℕ) (side : Side) → unended_in (s.coord c).log.stable t ≡ Some members → has_number members m ≡ true →
      stands (view side (s.member m)) t ≡ true
  pub taking : (t c m : ℕ) (members : List ℕ) → unended_in (s.coord c).log.stable t ≡ Some members → has_number members m ≡ true → TookPart s t m
  -- each commit record, ended or not, names those that took part at the decision, or stood in the opened file
  pub recorded : (c t : ℕ) (members : List ℕ) → IsOneOf (log.Commit t members) (s.coord c).log.stable →
      TookPartIn s.decided t members ⊎ IsOneOf (log.Commit t members) (s.opened_coord c)
  -- a commit without end of a transaction of this run names the participants of its session
  pub parts : (c t : ℕ) (members : List ℕ) → unended_in (s.coord c).log.stable t ≡ Some members → holds s.sessions t ≡ true →
      members ≡ members_of (parts_of (told_of s t))
  -- one that was opened without end has only members that still stand
  pub opened : (t c m : ℕ) (members : List ℕ) (side : Side) → unended_in (s.opened_coord c) t ≡ Some members → has_number members m ≡ true →
      stands (view side (s.member m)) t ≡ true
  -- a commit that ended has only members whose logs have it: those with operations at the decision, or those
  -- that the opened file of the same coordinator names
  pub ended : (c m : ℕ) (d : Decided) (later earlier : List Decided) → s.decided ≡ later ++ d ∷ earlier →
      has_commit_of (s.coord c).log.stable d.txn ≡ true → look (s.coord c).table d.txn ≡ None → 1 ≤ count_at d.told m →
      log_has_committed (s.member m).log.stable d.txn ≡ true
  pub ended_before : (t c m : ℕ) (members : List ℕ) → has_commit_of (s.coord c).log.stable t ≡ true →
      look (s.coord c).table t ≡ None → unended_in (s.opened_coord c) t ≡ Some members → has_number members m ≡ true →
      log_has_committed (s.member m).log.stable t ≡ true

-- ---- Messages

-- prepares, votes and questions name the coordinator to which their transaction belongs
pub record MessagesAreNamed (s : Federation) : Type 0 where
  pub prepares : (t c m n : ℕ) → was_sent s.sent (message.Prepare t c m n) ≡ true → BelongsTo s t c
  pub votes : (t c m : ℕ) (granted : Bool) → was_sent s.sent (message.Vote t m c granted) ≡ true → BelongsTo s t c
  pub questions : (t m c : ℕ) → was_sent s.sent (message.Ask t m c) ≡ true → BelongsTo s t c

-- A transaction is held for a member, which takes part in it: it is in the table of its coordinator, or committed at the member;
-- where it is in the table, the member is a participant of its entry; where a commit of it without end is stable at the
-- coordinator, it names the member; and so does each commit record of it there, ended or not, where it was begun in this run.
pub record IsHeldFor (s : Federation) (t c m : ℕ) : Type 0 where
  pub takes : TakesPart s t m
  pub held : (holds (s.coord c).table t || log_has_committed (s.member m).log.stable t) ≡ true
  pub participant : (e : Entry) → look (s.coord c).table t ≡ Some e → takes_part_in (Some e) m ≡ true
  pub recorded : (members : List ℕ) → unended_in (s.coord c).log.stable t ≡ Some members → has_number members m ≡ true
  pub named : (members : List ℕ) → holds s.sessions t ≡ true → IsOneOf (log.Commit t members) (s.coord c).log.stable → has_number members m ≡ true

-- Unless it is presumed aborted, who was asked to prepare, is voted, or was asked about, is held for the member.
pub record AskedAreHeld (s : Federation) : Type 0 where
  pub prepared : (t c m n : ℕ) → was_sent s.sent (message.Prepare t c m n) ≡ true → ¬ (IsPresumedAborted s t) → IsHeldFor s t c m
  pub voted : (t c m : ℕ) (side : Side) → votes_for (look (view side (s.member m)).voted t) c ≡ true → ¬ (IsPresumedAborted s t) → IsHeldFor s t c m
  pub questioned : (t m c : ℕ) → was_sent s.sent (message.Ask t m c) ≡ true → ¬ (IsPresumedAborted s t) → IsHeldFor s t c m
