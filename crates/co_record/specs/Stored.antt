-- The records of a log text, each with its place, and what a walk over them has left.
use Rattle.std.specs.Prelude.{◌≡◌, ℕ, ◌+◌, ◌-◌, ◌==◌, if◌then◌else◌, List, [], ◌∷◌, ◌++◌, length, Option, Some, None}
use Rattle.co_frame.specs.LogText.{GateWalk, HasPassed, IsLogText}
use Rattle.co_record.specs.declared.record.Record.{Record}
use Rattle.co_record.specs.declared.view.RecordView.{RecordView}
use Rattle.co_record.specs.Format.{newest, oldest}
use Rattle.co_record.specs.Lent.{record_of}
use Rattle.co_record.specs.Spelling.{spelling, IsSpelledIn}

-- the version of the file that begins with this batch: the byte behind the kind of its first record says it
abbrev pub version_of : List ℕ → ℕ
version_of [] = oldest
version_of (kind ∷ []) = oldest
version_of (kind ∷ version ∷ fields) = if version == newest then newest else oldest

-- the version in which all records of these batches are read; without a batch it is the one that is written
abbrev pub version_in : List (List ℕ) → ℕ
version_in [] = newest
version_in (batch ∷ batches) = version_of batch

-- the bytes from this place on are these records of a version, one after another to the end
abbrev pub AreRecords : ℕ → ℕ → List ℕ → List (ℕ × Record) → Type 0
AreRecords version at bytes [] = bytes ≡ []
AreRecords version at bytes (item ∷ items) =
    (item.0 ≡ at) × IsSpelledIn version item.1
    × ((rest : List ℕ) × (bytes ≡ spelling version item.1 ++ rest) × AreRecords version (at + length (spelling version item.1)) rest items)

-- the batches behind the gate at this place hold these records of a version: a gate and a length stand before each batch
abbrev pub HoldRecords : ℕ → ℕ → List (List ℕ) → List (ℕ × Record) → Type 0
HoldRecords version gate [] items = items ≡ []
HoldRecords version gate (batch ∷ batches) items =
    (front : List (ℕ × Record)) × (back : List (ℕ × Record)) × (items ≡ front ++ back)
    × AreRecords version (gate + 5) batch front × HoldRecords version (gate + 5 + length batch) batches back

-- the log text has these records: those of its batches, in the version that its first record says
abbrev pub HasRecords : List ℕ → List (ℕ × Record) → Type 0
HasRecords bytes items = (batches : List (List ℕ)) × IsLogText bytes batches × HoldRecords (version_in batches) 0 batches items

-- how far a walk over records has come: their version, the walk over the batches, and what is left of the batch
pub record RecordWalk : Type 0 where
  pub version : ℕ
  pub gates : GateWalk
  pub at : ℕ
  pub rest : List ℕ

-- the walk has these records left: those in the rest of its batch, and those of the batches behind
pub record HasLeft (walk : RecordWalk) (items : List (ℕ × Record)) : Type 0 where
  pub front : List (ℕ × Record)
  pub back : List (ℕ × Record)
  pub both : items ≡ front ++ back
  pub here : AreRecords walk.version walk.at walk.rest front
  pub passed : List (List ℕ)
  pub batches : List (List ℕ)
  pub has_passed : HasPassed walk.gates passed
  pub text : IsLogText walk.gates.source (passed ++ batches)
  pub behind : HoldRecords walk.version walk.gates.at batches back

-- the next record and its place, which the walk then has no more; or that none is left
abbrev pub Lends : Option (ℕ × RecordView) → RecordWalk → List (ℕ × Record) → Type 0
Lends None new items = items ≡ []
Lends (Some lent) new items = (more : List (ℕ × Record)) × (items ≡ (lent.0, record_of lent.1) ∷ more) × HasLeft new more

-- how many bytes the walk has not read yet, at most
abbrev pub unread : RecordWalk → ℕ
unread walk = (length walk.gates.source - walk.gates.at) + length walk.rest
