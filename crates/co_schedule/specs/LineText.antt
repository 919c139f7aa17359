-- The lines of a text, one after another.
use Rattle.std.specs.Prelude.{ℕ, ◌+◌, ◌==◌, ◌≡◌, nat_lt, Bool, if◌then◌else◌, List, [], ◌∷◌, length, Option, None, Some, Result, Ok, Err}
use Rattle.std.specs.List.{before_first, after_first}
use Rattle.co_schedule.specs.declared.fault.LinesFault.{LinesFault}
use Rattle.co_schedule.specs.declared.fault.LinesFault.TheVariants.{Read, Long, Many, Memory}

-- what ends a line
abbrev pub newline : ℕ
newline = 10

abbrev pub is_newline : ℕ → Bool
is_newline byte = byte == newline

-- the line at the front, without its newline; the last line may end with the text
abbrev pub first_line : List ℕ → List ℕ
first_line text = before_first is_newline text

-- what stands behind that line and its newline
abbrev pub behind_line : List ℕ → List ℕ
behind_line text = after_first is_newline text

-- the line at the front, if it has at most so many bytes; its number is for the fault
abbrev pub short_line : ℕ → ℕ → List ℕ → Result (Option (List ℕ)) LinesFault
short_line most number line = if nat_lt most (length line) then Err (Long number) else Ok (Some line)

-- What is next where this text lies ahead, of which `lent` lines were read before: a line of at most
-- `most` bytes, the end, or a fault. There may be `lines` lines.
abbrev pub next_line : ℕ → ℕ → ℕ → List ℕ → Result (Option (List ℕ)) LinesFault
next_line most lines lent [] = Ok None
next_line most lines lent (byte ∷ bytes) = if nat_lt lent lines then short_line most (lent + 1) (first_line (byte ∷ bytes)) else Err Many

-- a fault of the text is this one; the source and the memory fail by themselves
abbrev pub IsNextFault : Result (Option (List ℕ)) LinesFault → LinesFault → Type 0
IsNextFault wanted (Long line) = wanted ≡ Err (Long line)
IsNextFault wanted Many = wanted ≡ Err Many
IsNextFault wanted Read = Unit {0}
IsNextFault wanted Memory = Unit {0}
