-- How telling a text as a table ends, and what a sink holds then.
use Rattle.std.specs.Prelude.{ℕ, ◌≡◌, ◌⊎◌, ◌++◌, List, Option, Some, Result, Ok, Err}
use Rattle.co_message.specs.declared.item.Item.{Item}
use Rattle.co_picture.specs.Drawn.{IsFrontOf}
use Rattle.co_picture.specs.Read.{IsTranscript, IsTextFault, IsLineFault}
use Rattle.co_picture.specs.declared.fault.DrawFault.{DrawFault}
use Rattle.co_picture.specs.declared.fault.DrawFault.TheVariants as fault
use Rattle.co_picture.specs.declared.outcome.Outcome.{Outcome}
use Rattle.co_picture.specs.declared.outcome.Outcome.TheVariants as outcome
use Rattle.co_table.specs.Table.{table_text}

-- a front of the table of the text was put
abbrev pub IsToldInPart : List ℕ → List ℕ → Option (List ℕ) → Type 0
IsToldInPart text held told = (items : List Item) × IsTranscript text items × IsFrontOf (table_text items) held told

-- How the table of a text is written to a sink that held this.
abbrev pub IsToldAs : List ℕ → List ℕ → Option (List ℕ) → Result (Unit {0}) DrawFault → Type 0
IsToldAs text held told (Ok done) = (items : List Item) × IsTranscript text items × (told ≡ Some (held ++ table_text items))
IsToldAs text held told (Err (fault.Text line)) = IsTextFault text line × (told ≡ Some held)
IsToldAs text held told (Err (fault.Long line)) = IsLineFault text (fault.Long line) × (told ≡ Some held)
IsToldAs text held told (Err fault.Many) = IsLineFault text fault.Many × (told ≡ Some held)
IsToldAs text held told (Err fault.Read) = told ≡ Some held
IsToldAs text held told (Err fault.Write) = IsToldInPart text held told
IsToldAs text held told (Err fault.Memory) = (told ≡ Some held) ⊎ IsToldInPart text held told

abbrev pub IsTable : List ℕ → List ℕ → Option (List ℕ) → Outcome → Type 0
IsTable text held told outcome.Usage = ⊥
IsTable text held told (outcome.Ended ended) = IsToldAs text held told ended
