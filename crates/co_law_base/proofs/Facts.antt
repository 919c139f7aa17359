-- The facts that every state of a run has, in the form in which a move keeps them. Each speaks of the parts that it
-- needs, so that a move that leaves those parts leaves the fact.
use Rattle.std.proofs.Common.{◌≡◌, ◌≢◌, ◌⊎◌, ℕ, Bool, true, false, ◌||◌, ◌&&◌, ◌≤◌, List, [], ◌∷◌, ◌++◌, map, reverse, length, Option, None, Some}
use Rattle.co_base.specs.declared.node.Node.TheVariants as node
use Rattle.co_base.specs.declared.part.Part.{Part}
use Rattle.co_message.specs.declared.message.Message.{Message}
use Rattle.co_message.specs.declared.message.Message.TheVariants as message
use Rattle.co_record.specs.declared.record.Record.{Record}
use Rattle.co_record.specs.declared.record.Record.TheVariants as log
use Rattle.co_serial.specs.SerialRun.{AllRecords, after, run_whole}
use Rattle.co_state.specs.declared.engine_state.Operation.{Operation}
use Rattle.co_state.specs.Table.{Table, look, holds}
use Rattle.co_plain.specs.declared.coord_state.CoordState.{CoordState}
use Rattle.co_plain.specs.declared.coord_state.Entry.{Entry}
use Rattle.co_plain.specs.declared.coord_state.Entry.TheVariants as entry
use Rattle.co_plain.specs.declared.member_state.AskedMark.{AskedMark}
use Rattle.co_plain.specs.declared.member_state.MemberState.{MemberState}
use Rattle.co_plain.specs.declared.member_view.MemberView.{MemberView}
use Rattle.co_plain.specs.declared.session.Decided.{Decided}
use Rattle.co_plain.specs.declared.session.Session.{Session}
use Rattle.co_plain.specs.declared.session.Told.{Told}
use Rattle.co_plain.specs.Numbers.{first_lacking, has_number}
use Rattle.co_plain.specs.MemberView.{Numbers, recovered_view}
use Rattle.co_plain.specs.CoordView.{has_commit_of}
use Rattle.co_plain.specs.CoordStep.{members_of}
use Rattle.co_plain.specs.Sessions.{told_at, count_at, parts_of}
use Rattle.co_base.specs.Nodes.{same_node}
use Rattle.co_plain.specs.Wire.{was_sent}
use Rattle.co_plain.specs.Federation.{Federation}
use Rattle.co_plain.specs.Decisions.{sites_of, replies_of, is_decided, told_in, asked_in, votes_for}
use Rattle.co_plain.specs.DurableRecords.{durable_records}
use Rattle.co_plain.specs.SoundLogs.{unended_in}
use Rattle.co_plain.specs.Promises.{AreDecidedOnce}
use Rattle.co_plain.specs.Invariants.{Side, Memory, Stable, view, stands, VotedAreConflictFree, KeptAsTold, StampsIn, takes_part_in, took_part, ends_only, txn_of}
use Rattle.co_law_base.proofs.ViewRules.{AllReplay}
use Rattle.co_law_base.proofs.ImageRules.{IsImage}

-- All but the members' states.
pub record Rest : Type 0 where
  pub coord : ℕ → CoordState
  pub sessions : Table Session
  pub sent : List Message
  pub decided : List Decided
  pub opened_member : ℕ → List Record
  pub opened_coord : ℕ → List Record
  pub used : Numbers

abbrev pub rest_of : Federation → Rest
rest_of s =
    record {
      coord = s.coord;
      sessions = s.sessions;
      sent = s.sent;
      decided = s.decided;
      opened_member = s.opened_member;
      opened_coord = s.opened_coord;
      used = s.used;
    }

-- other coordinators, sessions and messages, with the same decisions and opened logs
abbrev pub changed : Rest → (ℕ → CoordState) → Table Session → List Message → Rest
changed r coord sessions sent = record r { coord = coord; sessions = sessions; sent = sent }

abbrev pub told : Rest → ℕ → List Told
told r t = told_in (look r.sessions t)

abbrev pub told_here : Rest → ℕ → ℕ → List Told
told_here r m t = told_at (told r t) m

abbrev pub begun : Rest → ℕ → Bool
begun r t = holds r.sessions t

abbrev pub asked : Rest → ℕ → Bool
asked r t = asked_in (look r.sessions t)

-- asked to end, or in an opened log; begun, or in an opened log
abbrev pub over : Rest → ℕ → Bool
over r t = asked r t || holds r.used t

abbrev pub seen : Rest → ℕ → Bool
seen r t = begun r t || holds r.used t

abbrev pub entry_of : Rest → ℕ → ℕ → Option Entry
entry_of r c t = look (r.coord c).table t

-- decided in this run, or committed in the opened file of a coordinator
abbrev pub settled_at : Rest → ℕ → ℕ → Bool
settled_at r c t = is_decided r.decided t || has_commit_of (r.opened_coord c) t

pub data Settled (decided : List Decided) (opened : ℕ → List Record) (t : ℕ) : Type 0 where
  Here : is_decided decided t ≡ true → Settled decided opened t
  Before : (c : ℕ) → has_commit_of (opened c) t ≡ true → Settled decided opened t

abbrev pub settled : Rest → ℕ → Type 0
settled r = Settled r.decided r.opened_coord

-- not presumed aborted by its coordinator
abbrev pub alive : Rest → ℕ → ℕ → Bool
alive r c t = holds (r.coord c).table t || settled_at r c t

abbrev pub by_coord : Option Session → ℕ → Bool
by_coord None c = false
by_coord (Some session) c = same_node session.by (node.Coord c)

-- a transaction belongs to the coordinator at which it was begun, or for which an opened log has it voted
pub data Belongs (sessions : Table Session) (opened : ℕ → List Record) (t c : ℕ) : Type 0 where
  Begun : by_coord (look sessions t) c ≡ true → Belongs sessions opened t c
  Voted : (m : ℕ) → votes_for (look (recovered_view (opened m)).voted t) c ≡ true → Belongs sessions opened t c

abbrev pub belongs : Rest → ℕ → ℕ → Type 0
belongs r = Belongs r.sessions r.opened_member

-- a participant by its operations, or by an opened commit
pub data Takes (sessions : Table Session) (opened : ℕ → List Record) (t m : ℕ) : Type 0 where
  ByTold : 1 ≤ count_at (told_in (look sessions t)) m → Takes sessions opened t m
  Named : (c : ℕ) (members : List ℕ) → unended_in (opened c) t ≡ Some members → has_number members m ≡ true → Takes sessions opened t m

abbrev pub takes : Rest → ℕ → ℕ → Type 0
takes r = Takes r.sessions r.opened_coord

-- a participant of a decision by its operations then, or by an opened commit
pub data Took (decided : List Decided) (opened : ℕ → List Record) (t m : ℕ) : Type 0 where
  AtDecision : took_part decided t m ≡ true → Took decided opened t m
  InOpened : (c : ℕ) (members : List ℕ) → unended_in (opened c) t ≡ Some members → has_number members m ≡ true → Took decided opened t m

abbrev pub took : Rest → ℕ → ℕ → Type 0
took r = Took r.decided r.opened_coord

abbrev pub serial_start : Rest → AllRecords
serial_start r = durable_records r.opened_member r.opened_coord

abbrev pub serial_of : AllRecords → List Decided → AllRecords
serial_of start decided = after start (reverse (map (λ d. sites_of d.told) decided))

abbrev pub serial : Rest → AllRecords
serial r = serial_of (serial_start r) r.decided

abbrev pub Each : {A : Type 0} → (A → Type 0) → List A → Type 0
Each P [] = Unit {0}
Each P (x ∷ xs) = P x × Each P xs

-- What is said of a view of a member.
pub record ViewFacts (r : Rest) (m : ℕ) (v : MemberView) : Type 0 where
  pub free : VotedAreConflictFree v
  pub replay : AllReplay v (told_here r m) (begun r)
  pub image : IsImage (serial r m) (settled r) v
  pub named : (t c : ℕ) → votes_for (look v.voted t) c ≡ true → belongs r t c
  pub over : (t : ℕ) → stands v t ≡ true → over r t ≡ true
  pub apart : (t : ℕ) → holds v.committed t ≡ true → holds v.voted t ≡ false
  -- each decided one stands where it held operations, and what is committed is decided
  pub done : Each (λ d. 1 ≤ count_at d.told m → stands v d.txn ≡ true) r.decided
  pub known : (t : ℕ) → holds v.committed t ≡ true → begun r t ≡ true → is_decided r.decided t ≡ true
  pub homed : (t c : ℕ) → holds v.committed t ≡ true → belongs r t c → settled_at r c t ≡ true
  -- a vote is held by the table of its coordinator, unless that presumes it aborted
  pub held : (t c : ℕ) → votes_for (look v.voted t) c ≡ true → alive r c t ≡ true → takes_part_in (entry_of r c t) m ≡ true
  pub works : (t c : ℕ) → votes_for (look v.voted t) c ≡ true → alive r c t ≡ true → takes r t m

-- only abort records of presumed aborted transactions wait
abbrev pub OnlyAborts : Rest → List Record → Type 0
OnlyAborts r [] = Unit {0}
OnlyAborts r (log.Abort t ∷ rs) = ((c : ℕ) × belongs r t c × (alive r c t ≡ false)) × OnlyAborts r rs
OnlyAborts r (_ ∷ rs) = ⊥

-- What is said of an active transaction.
pub record ActiveFacts (r : Rest) (m : ℕ) (x : MemberState) (t : ℕ) (os : List Operation) : Type 0 where
  pub kept : KeptAsTold x.engine os (told_here r m t)
  pub stamps : StampsIn (length x.engine.installed) os
  pub begun : begun r t ≡ true
  pub apart : stands (view Memory x) t ≡ false

pub record MemberFacts (r : Rest) (m : ℕ) (x : MemberState) : Type 0 where
  pub views : (side : Side) → ViewFacts r m (view side x)
  pub active : (t : ℕ) (os : List Operation) → look x.engine.active t ≡ Some os → ActiveFacts r m x t os
  pub marked : (t : ℕ) (mark : AskedMark) → look x.asked t ≡ Some mark →
      (holds x.engine.active t ≡ true) × (was_sent r.sent (message.Prepare t mark.coord m mark.count) ≡ true)
  pub logged : recovered_view (x.log.waiting ++ x.log.stable) ≡ view Memory x
  pub waiting : OnlyAborts r x.log.waiting

-- an entry that is still open
pub record OpenEntry (r : Rest) (c : ℕ) (stable : List Record) (t : ℕ) : Type 0 where
  pub begun_there : by_coord (look r.sessions t) c ≡ true
  pub undecided : is_decided r.decided t ≡ false
  pub unrecorded : has_commit_of stable t ≡ false

pub record CollectingEntry (r : Rest) (c : ℕ) (stable : List Record) (t : ℕ) (parts : List Part) (yeses : List ℕ) : Type 0 where
  pub still : OpenEntry r c stable t
  pub asked : asked r t ≡ true
  pub parts_told : parts ≡ parts_of (told r t)
  pub lacks : first_lacking (members_of parts) yeses ≢ None
  pub yeses_sent : (m : ℕ) → has_number yeses m ≡ true → was_sent r.sent (message.Vote t m c true) ≡ true

pub record CommittedEntry (r : Rest) (c : ℕ) (stable waiting : List Record) (t : ℕ) (members acks : List ℕ) : Type 0 where
  pub recorded : unended_in stable t ≡ Some members
  pub logged : unended_in (waiting ++ stable) t ≡ Some members
  pub lacks : first_lacking members acks ≢ None
  pub acks_sent : (m : ℕ) → has_number acks m ≡ true → was_sent r.sent (message.Ack t m c) ≡ true

-- What is said of a coordinator: its table, its stable records and the waiting ones.
pub record CoordFacts (r : Rest) (c : ℕ) (table : Table Entry) (stable waiting : List Record) : Type 0 where
  pub idle : (t : ℕ) → look table t ≡ Some entry.Idle → OpenEntry r c stable t
  pub collecting : (t : ℕ) (parts : List Part) (yeses : List ℕ) → look table t ≡ Some (entry.Collecting parts yeses) → CollectingEntry r c stable t parts yeses
  pub committed : (t : ℕ) (members acks : List ℕ) → look table t ≡ Some (entry.Committed members acks) → CommittedEntry r c stable waiting t members acks
  pub known : (t : ℕ) → has_commit_of stable t ≡ true → ((by_coord (look r.sessions t) c && is_decided r.decided t) || has_commit_of (r.opened_coord c) t) ≡ true
  pub unended_over : (t : ℕ) (members : List ℕ) → unended_in stable t ≡ Some members → over r t ≡ true
  pub unended_known : (t : ℕ) (members : List ℕ) → unended_in stable t ≡ Some members →
      ((by_coord (look r.sessions t) c && is_decided r.decided t) ≡ true) ⊎ (unended_in (r.opened_coord c) t ≡ Some members)
  pub ends : ends_only waiting ≡ true

abbrev pub CoordHas : Rest → ℕ → CoordState → Type 0
CoordHas r c y = CoordFacts r c y.table y.log.stable y.log.waiting

-- What is said of the messages and of the commits that wait for acknowledgements, over all members.
pub record SentFacts (r : Rest) (member : ℕ → MemberState) : Type 0 where
  pub over : (note : Message) → was_sent r.sent note ≡ true → over r (txn_of note) ≡ true
  pub prepares_named : (t c m n : ℕ) → was_sent r.sent (message.Prepare t c m n) ≡ true → belongs r t c
  pub prepares_count : (t c m n : ℕ) → was_sent r.sent (message.Prepare t c m n) ≡ true → (n ≡ count_at (told r t) m) × (1 ≤ n)
  pub prepares_held : (t c m n : ℕ) → was_sent r.sent (message.Prepare t c m n) ≡ true → alive r c t ≡ true →
      (takes_part_in (entry_of r c t) m || holds (view Memory (member m)).committed t) ≡ true
  pub votes_named : (t m c : ℕ) (granted : Bool) → was_sent r.sent (message.Vote t m c granted) ≡ true → belongs r t c
  pub yeses_stand : (t m c : ℕ) (side : Side) → was_sent r.sent (message.Vote t m c true) ≡ true → alive r c t ≡ true → stands (view side (member m)) t ≡ true
  pub asks_named : (t m c : ℕ) → was_sent r.sent (message.Ask t m c) ≡ true → belongs r t c
  pub asks_held : (t m c : ℕ) → was_sent r.sent (message.Ask t m c) ≡ true → alive r c t ≡ true →
      (takes_part_in (entry_of r c t) m || holds (view Memory (member m)).committed t) ≡ true
  pub asks_take : (t m c : ℕ) → was_sent r.sent (message.Ask t m c) ≡ true → alive r c t ≡ true → takes r t m
  pub acks_stand : (t m c : ℕ) (side : Side) → was_sent r.sent (message.Ack t m c) ≡ true → holds (view side (member m)).committed t ≡ true
  pub commits : (t c m : ℕ) → was_sent r.sent (message.Decide t c m true) ≡ true → settled r t × took r t m
  pub aborts : (t c m : ℕ) → was_sent r.sent (message.Decide t c m false) ≡ true →
      (belongs r t c × (alive r c t ≡ false)) ⊎ (holds (view Stable (member m)).committed t ≡ true)

pub record RecordFacts (r : Rest) (member : ℕ → MemberState) : Type 0 where
  pub unended : (t c m : ℕ) (members : List ℕ) (side : Side) → unended_in (r.coord c).log.stable t ≡ Some members → has_number members m ≡ true →
      stands (view side (member m)) t ≡ true
  pub taking : (t c m : ℕ) (members : List ℕ) → unended_in (r.coord c).log.stable t ≡ Some members → has_number members m ≡ true → took r t m
  -- the participants of a commit that was opened without end
  pub opened_stand : (t c m : ℕ) (members : List ℕ) (side : Side) → unended_in (r.opened_coord c) t ≡ Some members → has_number members m ≡ true →
      stands (view side (member m)) t ≡ true

-- What is said of the numbers and of the opened logs.
pub record NumberFacts (r : Rest) : Type 0 where
  pub new : (t : ℕ) → begun r t ≡ true → holds r.used t ≡ false
  pub decided_begun : (t : ℕ) → is_decided r.decided t ≡ true → begun r t ≡ true
  pub once : AreDecidedOnce r.decided
  pub local : (t m n : ℕ) (session : Session) → look r.sessions t ≡ Some session → session.by ≡ node.Member m → n ≢ m → count_at session.told n ≡ 0
  pub local_asked : (t m : ℕ) (session : Session) → look r.sessions t ≡ Some session → session.by ≡ node.Member m → is_decided r.decided t ≡ true → session.asked ≡ true
  pub kept : Each (λ d. (d.told ≡ []) ⊎ ((told r d.txn ≡ d.told) × (asked r d.txn ≡ true))) r.decided
  pub voted_used : (m t : ℕ) → stands (recovered_view (r.opened_member m)) t ≡ true → holds r.used t ≡ true
  pub commit_used : (c t : ℕ) → has_commit_of (r.opened_coord c) t ≡ true → holds r.used t ≡ true
  pub one_vote : (t m n c d : ℕ) → votes_for (look (recovered_view (r.opened_member m)).voted t) c ≡ true →
      votes_for (look (recovered_view (r.opened_member n)).voted t) d ≡ true → c ≡ d
  pub vote_commit : (t m c d : ℕ) (members : List ℕ) → votes_for (look (recovered_view (r.opened_member m)).voted t) c ≡ true →
      unended_in (r.opened_coord d) t ≡ Some members → c ≡ d
  pub one_commit : (t c d : ℕ) (members others : List ℕ) → unended_in (r.opened_coord c) t ≡ Some members → unended_in (r.opened_coord d) t ≡ Some others → c ≡ d
  pub one_home : (t m c d : ℕ) → votes_for (look (recovered_view (r.opened_member m)).voted t) c ≡ true → has_commit_of (r.opened_coord d) t ≡ true →
      has_commit_of (r.opened_coord c) t ≡ true

-- committed transactions read serially, at each place of the decision order
abbrev pub ReadSerially : AllRecords → List Decided → Type 0
ReadSerially start [] = Unit {0}
ReadSerially start (d ∷ ds) = (replies_of d.told ≡ run_whole (serial_of start ds) (sites_of d.told)) × ReadSerially start ds

-- Everything together.
pub record Facts (s : Federation) : Type 0 where
  pub numbers : NumberFacts (rest_of s)
  pub members : (m : ℕ) → MemberFacts (rest_of s) m (s.member m)
  pub coords : (c : ℕ) → CoordHas (rest_of s) c (s.coord c)
  pub sent : SentFacts (rest_of s) s.member
  pub records : RecordFacts (rest_of s) s.member
  pub serially : ReadSerially (serial_start (rest_of s)) s.decided
