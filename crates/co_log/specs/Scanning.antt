-- Files of a log as they are read at the start: whose they are, of which version and generation, and what is wrong.
-- All records of a file are read in the one version that its first record says.
use Rattle.std.specs.Prelude.{ℕ, ◌+◌, ◌≡◌, ◌≢◌, ◌⊎◌, List, [], ◌∷◌, ◌++◌, length, Option, Some, None}
use Rattle.co_base.specs.declared.node.Node.{Node}
use Rattle.co_frame.specs.LogText.{GateWalk, HasPassed, IsLogText, IsBrokenAt}
use Rattle.co_record.specs.declared.record.Record.{Record}
use Rattle.co_record.specs.declared.record.Record.TheVariants.{Header}
use Rattle.co_record.specs.Format.{IsVersion}
use Rattle.co_record.specs.Spelling.{spelling, IsSpelledIn}
use Rattle.co_record.specs.Stored.{AreRecords, HoldRecords, version_in}
use Rattle.co_log.specs.LogFile.{EndsIn}

-- what one record more makes of the generation that was found: the first one is a header of the node
abbrev pub IsFound : Node → Option ℕ → Record → Option ℕ → Type 0
IsFound node (Some generation) item found = found ≡ Some generation
IsFound node None item found = (generation : ℕ) × (item ≡ Header node generation) × (found ≡ Some generation)

-- the generation that is found behind these records, where this one was found before them
abbrev pub IsHeaded : Node → ℕ → Option ℕ → List (ℕ × Record) → Option ℕ → Type 0
IsHeaded node at (Some generation) items found = found ≡ Some generation
IsHeaded node at None [] found = found ≡ None
IsHeaded node at None (first ∷ items) found = (generation : ℕ) × (first ≡ (at, Header node generation)) × (found ≡ Some generation)

-- a batch is read up to a place: what is in front are records
pub record IsReadTo (version : ℕ) (node : Node) (at : ℕ) (batch : List ℕ) (before : Option ℕ) (rest : List ℕ) (place : ℕ) (found : Option ℕ) : Type 0 where
  pub front : List ℕ
  pub items : List (ℕ × Record)
  pub both : batch ≡ front ++ rest
  pub are : AreRecords version at front items
  pub place_is : place ≡ at + length front
  pub headed : IsHeaded node at before items found

-- no record stands at the front, where something does
pub record HasNoRecord (version : ℕ) (rest : List ℕ) : Type 0 where
  pub some : rest ≢ []
  pub none : (item : Record) (behind : List ℕ) → IsSpelledIn version item → rest ≡ spelling version item ++ behind → ⊥

-- the first record of the file stands at the front, and is no header of the node
pub record HasWrongHeader (version : ℕ) (node : Node) (rest : List ℕ) : Type 0 where
  pub item : Record
  pub behind : List ℕ
  pub spelled : IsSpelledIn version item
  pub text : rest ≡ spelling version item ++ behind
  pub wrong : (generation : ℕ) → item ≢ Header node generation

-- at this place of a batch stands the first thing that is no record of a log of the node
pub record IsUnreadable (version : ℕ) (node : Node) (at : ℕ) (batch : List ℕ) (before : Option ℕ) (place : ℕ) : Type 0 where
  pub rest : List ℕ
  pub found : Option ℕ
  pub read : IsReadTo version node at batch before rest place found
  pub why : HasNoRecord version rest ⊎ ((found ≡ None) × HasWrongHeader version node rest)

-- The batches of a file are read up to a gate: their records, and the generation that was found.
pub record IsScanned (version : ℕ) (node : Node) (walk : GateWalk) (found : Option ℕ) : Type 0 where
  pub batches : List (List ℕ)
  pub items : List (ℕ × Record)
  pub passed : HasPassed walk batches
  pub holds : HoldRecords version 0 batches items
  pub headed : IsHeaded node 5 None items found
  pub start : found ≡ None → batches ≡ []

-- What a file of a log is: it has no batch, and its gate is at the front; or its first record is a header of
-- the node with this generation, and all records are in the grammar of this version.
abbrev pub IsLogFileIn : ℕ → Node → List ℕ → ℕ → Option ℕ → Type 0
IsLogFileIn version node bytes gate None = IsLogText bytes [] × (gate ≡ 0)
IsLogFileIn version node bytes gate (Some generation) = (items : List (ℕ × Record)) × IsVersion version × EndsIn version bytes gate ((5, Header node generation) ∷ items)

-- a file of a log, in either version
abbrev pub IsLogFile : Node → List ℕ → ℕ → Option ℕ → Type 0
IsLogFile node bytes gate None = IsLogText bytes [] × (gate ≡ 0)
IsLogFile node bytes gate (Some generation) = (version : ℕ) × IsLogFileIn version node bytes gate (Some generation)

-- Behind the gate at this place stands a batch with something that is no record of a log of the node, and all
-- before it are.
pub record IsBadBatch (version : ℕ) (node : Node) (bytes : List ℕ) (at : ℕ) : Type 0 where
  pub gate : ℕ
  pub batch : List ℕ
  pub found : Option ℕ
  pub scanned : IsScanned version node (record { source = bytes; at = gate }) found
  pub behind : HasPassed (record { source = bytes; at = gate + 5 + length batch }) (scanned.batches ++ batch ∷ [])
  pub unreadable : IsUnreadable version node (gate + 5) batch found at

-- A file that is no log of the node, and the place that is told: the open gate of the first batch that is not
-- whole; else, in a log text, the first place that no record of its version stands at, or a first record that
-- is no header of the node.
abbrev pub IsBadAt : Node → List ℕ → ℕ → Type 0
IsBadAt node bytes at = IsBrokenAt bytes at ⊎ ((text : (batches : List (List ℕ)) × IsLogText bytes batches) × IsBadBatch (version_in text.0) node bytes at)
