-- What a reader of lines holds.
use Rattle.std.specs.Prelude.{ℕ, ◌≡◌, ◌+◌, List, ◌++◌, take, drop, Option, None, Some, option_map, Result, Ok, Err}
use Rattle.co_schedule.specs.LineText.{next_line, IsNextFault}
use Rattle.co_schedule.specs.declared.fault.LinesFault.{LinesFault}
use Rattle.co_schedule.specs.declared.lines.Lines.{Lines}

-- the most bytes that a line may have
abbrev pub most_bytes : Lines → ℕ
most_bytes reader = reader.line

-- how many lines there may be
abbrev pub most_lines : Lines → ℕ
most_lines reader = reader.lines

-- how many lines were read
abbrev pub lines_read : Lines → ℕ
lines_read reader = reader.lent

-- the bytes that were taken and not read yet
abbrev pub unread : Lines → List ℕ
unread reader = drop reader.used reader.buffer.items

-- the line that was read last
abbrev pub shown_line : Lines → Option (List ℕ)
shown_line reader = option_map (λ size. take size reader.buffer.items) reader.shown

-- the text ahead of the reader: what it holds, and what the source has left, where the source tells it
abbrev pub ahead : Lines → Option (List ℕ) → Option (List ℕ)
ahead reader left = option_map (λ rest. unread reader ++ rest) left

-- how many lines were read with this one, if it is one
abbrev pub lent_then : ℕ → Option (List ℕ) → ℕ
lent_then lent None = lent
lent_then lent (Some line) = lent + 1

-- what is next of the text ahead
abbrev pub next_of : Lines → List ℕ → Result (Option (List ℕ)) LinesFault
next_of reader text = next_line (most_bytes reader) (most_lines reader) (lines_read reader) text

-- the reader read what was next, or met the fault that was next
abbrev pub IsRead : Result (Option (List ℕ)) LinesFault → Lines → Result (Unit {0}) LinesFault → Type 0
IsRead wanted reader (Ok done) = wanted ≡ Ok (shown_line reader)
IsRead wanted reader (Err fault) = IsNextFault wanted fault
