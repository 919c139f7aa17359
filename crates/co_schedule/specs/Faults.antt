-- The fault of a line.
use Rattle.std.specs.Prelude.{◌≡◌, ℕ, List, Option, Some}
use Rattle.std.specs.Option.{option_map}
use Rattle.co_schedule.specs.Words.{words_of}
use Rattle.co_schedule.specs.Places.{Places, first_fault}
use Rattle.co_schedule.specs.declared.fault.LineKind.{LineKind}
use Rattle.co_schedule.specs.declared.fault.LineKind.TheVariants as kind
use Rattle.co_schedule.specs.declared.fault.LineFault.{LineFault}
use Rattle.co_schedule.specs.declared.fault.LineFault.TheVariants as fault
use Rattle.co_schedule.specs.declared.fault.ReadFault.{ReadFault}
use Rattle.co_schedule.specs.declared.fault.ReadFault.TheVariants as read

abbrev pub fault_of_kind : LineKind → LineFault
fault_of_kind kind.Word = fault.Word
fault_of_kind kind.Number = fault.Number
fault_of_kind kind.Name = fault.Name
fault_of_kind kind.Extra = fault.Extra
fault_of_kind kind.Head = fault.Head

-- the fault at the first place from the left that has something else than it wants
abbrev pub fault_in : Places → List ℕ → Option LineFault
fault_in places line = option_map (λ mistake. fault_of_kind mistake.kind) (first_fault places (words_of line))

-- the mistake, if it is one, is the first fault
abbrev pub IsFirstFault : Places → List (List ℕ) → ReadFault → Type 0
IsFirstFault places words (read.Mistake mistake) = first_fault places words ≡ Some mistake
IsFirstFault places words read.Memory = Unit {0}
