-- What keys and values are made of.
use Rattle.std.specs.Prelude.{ℕ, ◌≤◌, List, length, All}

-- a visible character of ASCII; the space is none
abbrev pub IsLetter : ℕ → Type 0
IsLetter byte = (33 ≤ byte) × (byte ≤ 126)

-- at least one byte, and at most so many
abbrev pub HasLength : ℕ → List ℕ → Type 0
HasLength most bytes = (1 ≤ length bytes) × (length bytes ≤ most)

-- 1 to `most` letters
abbrev pub IsText : ℕ → List ℕ → Type 0
IsText most bytes = HasLength most bytes × All IsLetter bytes

abbrev pub most_key_bytes : ℕ
most_key_bytes = 32

abbrev pub most_value_bytes : ℕ
most_value_bytes = 4096
