-- A text in a fixed number of bytes.
use Rattle.std.specs.Prelude.{◌≡◌, ℕ, ◌-◌, ◌≤◌, List, ◌++◌, take, replicate}

-- of `most` bytes the first `len` are the text, and those behind it are zeros
abbrev pub IsPadded : ℕ → ℕ → List ℕ → Type 0
IsPadded most len bytes = (len ≤ most) × (bytes ≡ take len bytes ++ replicate (most - len) 0)
