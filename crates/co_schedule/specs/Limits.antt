-- How long a line may be, and how much a reader of lines takes.
use Rattle.std.specs.Prelude.{ℕ}

-- the most bytes of a line, without its newline
abbrev pub longest_line : ℕ
longest_line = 8192

-- the most bytes of a line, and the most lines, of any text that is read line by line: those of a transcript
abbrev pub most_of_text : ℕ
most_of_text = 16777216
