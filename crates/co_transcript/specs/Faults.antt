-- The place of the first fault of a line.
use Rattle.std.specs.Prelude.{ℕ, ◌-◌, ◌≡◌, List, length, Option, Some, option_map, Err}
use Rattle.co_schedule.specs.Words.{Word, words_of}
use Rattle.co_schedule.specs.Places.{Want, step, first_fault}
use Rattle.co_schedule.specs.declared.fault.LineKind.{LineKind}
use Rattle.co_schedule.specs.declared.fault.LineKind.TheVariants as kind
use Rattle.co_schedule.specs.declared.fault.Mistake.{Mistake}
use Rattle.co_schedule.specs.declared.fault.ReadFault.{ReadFault}
use Rattle.co_schedule.specs.declared.fault.ReadFault.TheVariants as read
use Rattle.co_transcript.specs.Grammar.{item_places}
use Rattle.co_transcript.specs.declared.fault.ItemFault.{ItemFault}
use Rattle.co_transcript.specs.declared.fault.ItemFault.TheVariants as fault

-- a word that is too much is told by the space in front of it
abbrev pub space_before : LineKind → ℕ
space_before kind.Extra = 1
space_before _ = 0

-- the place, counted from the front of the line, of a mistake that has so many bytes behind its place
abbrev pub place_of : List ℕ → Mistake → ℕ
place_of line mistake = length line - mistake.left - space_before mistake.kind

-- the place of the first word from the left that is not in the set of its place
abbrev pub text_fault : List ℕ → Option ℕ
text_fault line = option_map (place_of line) (first_fault item_places (words_of line))

-- the fault, if it is one of the text, names that place
abbrev pub IsTextFault : List ℕ → ItemFault → Type 0
IsTextFault line (fault.Text at) = text_fault line ≡ Some at
IsTextFault line fault.Memory = Unit {0}

-- the mistake, if it is one, is that of the next place
abbrev pub IsStepFault : Want → List Word → ReadFault → Type 0
IsStepFault want words (read.Mistake mistake) = step want words ≡ Err mistake
IsStepFault want words read.Memory = Unit {0}
