-- Pieces laid into lists of bytes.
use Rattle.std.specs.Prelude.{ℕ, ◌+◌, ◌<◌, ◌≤◌, ◌≡◌, max, List, ◌++◌, length, take, drop, slice_get}

-- the bytes with a piece laid in at a place, which is at most their length
abbrev pub overlaid : List ℕ → ℕ → List ℕ → List ℕ
overlaid bytes at piece = take at bytes ++ piece ++ drop (at + length piece) bytes

-- A write of so many bytes at a place was cut short: there, and past the old end, any bytes may
-- stand; the others are as they were.
pub record IsTorn (at count : ℕ) (old new : List ℕ) : Type 0 where
  pub no_shorter : length old ≤ length new
  pub no_longer : length new ≤ max (length old) (at + count)
  pub before : (place : ℕ) → place < at → slice_get new place ≡ slice_get old place
  pub behind : (place : ℕ) → at + count ≤ place → slice_get new place ≡ slice_get old place
