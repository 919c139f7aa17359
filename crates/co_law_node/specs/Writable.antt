-- What can be written: records whose numbers and lists are within their bounds, and whose lists are in strict order. A
-- node's records are so, and so is what it would force or fill next.
use Rattle.std.specs.Prelude.{ℕ, true, ◌≡◌, ◌≤◌, ◌<◌, ◌^◌, List, [], ◌∷◌, length, Some}
use Rattle.std.specs.FinMap.{keys}
use Rattle.std.specs.List.{AllByRecursion}
use Rattle.co_base.specs.Order.{IsAscending}
use Rattle.co_base.specs.RowOrder.{AreInKeyOrder}
use Rattle.co_base.specs.declared.part.Part.{Part}
use Rattle.co_record.specs.declared.record.Record.{Record}
use Rattle.co_record.specs.declared.record.Record.TheVariants as log
use Rattle.co_record.specs.Spelling.{IsWritable}
use Rattle.co_state.specs.declared.verdict.Verdict.TheVariants.{VoteYes}
use Rattle.co_state.specs.Changes.{sets_of}
use Rattle.co_state.specs.EngineState.{operations_of}
use Rattle.co_state.specs.Effects.{dumped_rows, dumped_undos}
use Rattle.co_state.specs.Table.{look}
use Rattle.co_state.specs.VotingRule.{vote_of}
use Rattle.co_plain.specs.declared.coord_state.CoordState.{CoordState}
use Rattle.co_plain.specs.declared.coord_state.Entry.TheVariants as entry
use Rattle.co_plain.specs.declared.member_state.MemberState.{MemberState}
use Rattle.co_plain.specs.Numbers.{counted, IsAmong}
use Rattle.co_plain.specs.CoordStep.{members_of}
use Rattle.co_plain.specs.CoordLog.{coord_spare}
use Rattle.co_plain.specs.CoordView.{all_up_to}
use Rattle.co_plain.specs.LocalCommit.{local_coord}
use Rattle.co_plain.specs.Member.{prepare_record}
use Rattle.co_plain.specs.MemberLog.{member_spare}
use Rattle.co_plain.specs.Invariants.{Memory}
use Rattle.co_law_node.specs.WholeMembers.{records_of, MemberStays}
use Rattle.co_law_node.specs.WholeCoords.{commits_of, CoordStays}

-- A record that can be written, but for how many rows, undos and numbers a checkpoint has: only its file bounds those.
abbrev pub IsWithinBounds : Record → Type 0
IsWithinBounds (log.Header owner generation) = IsWritable (log.Header owner generation)
IsWithinBounds (log.Prepare t coord count reads writes) = IsWritable (log.Prepare t coord count reads writes)
IsWithinBounds (log.Commit t members) = IsWritable (log.Commit t members)
IsWithinBounds (log.Abort t) = IsWritable (log.Abort t)
IsWithinBounds (log.End t) = IsWritable (log.End t)
IsWithinBounds (log.Checkpoint rows undos committed) = AreInKeyOrder undos

-- the lists of a checkpoint are as short as a count of 32 bits tells
pub record FitsCheckpoint (x : MemberState) : Type 0 where
  pub rows : length (dumped_rows x.engine.kind x.engine) < 2 ^ 32
  pub undos : length (dumped_undos x.engine.kind x.engine) < 2 ^ 32
  pub committed : length (keys x.committed) < 2 ^ 32

-- member m of a federation with so many coordinators
pub record IsWritableMember (coords m : ℕ) (x : MemberState) : Type 0 where
  -- the stable records, and those that wait
  pub records : AllByRecursion IsWithinBounds (records_of Memory x)
  -- the record of a vote, where the rule says yes
  pub vote : (t coord count : ℕ) → IsAmong coord coords → 1 ≤ count → vote_of x.engine t count ≡ VoteYes →
      IsWritable (prepare_record t coord count (sets_of (operations_of x.engine t)))
  -- the two records of a local commit
  pub alone : (t carried : ℕ) → 1 ≤ carried → vote_of x.engine t carried ≡ VoteYes →
      AllByRecursion IsWritable (log.Commit t [] ∷ prepare_record t local_coord (counted carried) (sets_of (operations_of x.engine t)) ∷ [])
  -- a filled spare: the checkpoint, and the votes that are told again
  pub spare : (generation : ℕ) → FitsCheckpoint x → AllByRecursion IsWritable (member_spare m x generation)
  -- whatever the lists of its checkpoint count, all else of it is within its bounds
  pub spare_within : (generation : ℕ) → AllByRecursion IsWithinBounds (member_spare m x generation)

-- coordinator c
pub record IsWritableCoord (c : ℕ) (y : CoordState) : Type 0 where
  pub records : AllByRecursion IsWritable (commits_of Memory y)
  -- the record of a decision
  pub decision : (t : ℕ) (parts : List Part) (yeses : List ℕ) → look y.table t ≡ Some (entry.Collecting parts yeses) →
      IsWritable (log.Commit t (members_of parts))
  -- a filled spare: the commits that are told again
  pub spare : (generation : ℕ) → AllByRecursion IsWritable (coord_spare c y generation)

-- each event of a member leaves it so
abbrev pub MemberStaysWritable : ℕ → ℕ → MemberState → Type 0
MemberStaysWritable coords m x = MemberStays (IsWritableMember coords m) coords m x

-- each event of a coordinator leaves it so, where the participants of a commit are members, ascending
abbrev pub CoordStaysWritable : ℕ → ℕ → CoordState → Type 0
CoordStaysWritable members c y =
    CoordStays (IsWritableCoord c) (λ parts. (all_up_to members (members_of parts) ≡ true) × IsAscending (members_of parts)) c y
