-- What the two files of a node say, by their bytes alone: which one is current, and its records.
use Rattle.std.specs.Prelude.{ℕ, ◌≡◌, ◌⊎◌, List, [], reverse, Option, Some}
use Rattle.co_base.specs.declared.node.Node.{Node}
use Rattle.co_outside.specs.declared.spot.Spot.{Spot}
use Rattle.co_outside.specs.Home.{File}
use Rattle.co_base.specs.Limits.{most_log_bytes}
use Rattle.co_frame.specs.LogText.{IsLogText}
use Rattle.co_record.specs.declared.record.Record.{Record}
use Rattle.co_log.specs.Attaching.{IsWithin}
use Rattle.co_log.specs.Current.{IsCurrentOf}
use Rattle.co_log.specs.LogFile.{records_of}
use Rattle.co_log.specs.LogView.{spot_of}

-- records with their places in a file, the oldest first
abbrev pub Items : Type 0
Items = List (ℕ × Record)

-- the records alone, newest first
abbrev pub newest_first : Items → List Record
newest_first items = reverse (records_of items)

-- The current one of the two files of a node, by its part, and its records. Where neither file has a batch it is
-- part a, without records; else it is the one that has the greater generation, or the only one with a batch.
abbrev pub HasCurrent : Node → List ℕ → List ℕ → ℕ → Items → Type 0
HasCurrent node a b part items =
    ((part ≡ 0) × (items ≡ []) × IsLogText a [] × IsLogText b [])
    ⊎ (((part ≡ 0) × ((version : ℕ) × (generation : ℕ) × IsCurrentOf node version generation a b items)) ⊎ ((part ≡ 1) × ((version : ℕ) × (generation : ℕ) × IsCurrentOf node version generation b a items)))

-- the current file of a node and its records, by the bytes of its files, where the home tells them; neither file is
-- too long
pub record IsCurrentIn (file : Spot → Option File) (node : Node) (part : ℕ) (items : Items) : Type 0 where
  pub a : List ℕ
  pub b : List ℕ
  pub told_a : (f : File) → file (spot_of node 0) ≡ Some f → f.bytes ≡ a
  pub told_b : (f : File) → file (spot_of node 1) ≡ Some f → f.bytes ≡ b
  pub within_a : IsWithin most_log_bytes (file (spot_of node 0))
  pub within_b : IsWithin most_log_bytes (file (spot_of node 1))
  pub current : HasCurrent node a b part items

abbrev pub HasRecordsIn : (Spot → Option File) → Node → Items → Type 0
HasRecordsIn file node items = (part : ℕ) × IsCurrentIn file node part items
