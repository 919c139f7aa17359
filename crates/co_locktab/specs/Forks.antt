-- Where the two bounds of a range part, and on which such places a key can lie: the virtual backbone of Kriegel,
-- Poetke and Seidl ("Managing intervals efficiently in object-relational databases", 2000), over keys in place of
-- numbers.
use Rattle.std.specs.Prelude.{ℕ, zero, suc, ◌+◌, ◌*◌, ◌/◌, ◌^◌, ◌<◌, ◌≤◌, ◌≡◌, Bool, ◌==◌, List, [], ◌∷◌, ◌++◌, length, take, drop, replicate, slice_index, if◌then◌else◌}
use Rattle.std.specs.List.{take_while, zip}
use Rattle.std.specs.Int.Digits.{number_from_digits}
use Rattle.co_base.specs.Span.{Span}
use Rattle.co_locktab.specs.declared.fork.Fork.{Fork}

-- the byte at a place, or 0 behind the last one
abbrev pub byte_at : List ℕ → ℕ → ℕ
byte_at text place = slice_index text place

-- how many first bytes two texts share
abbrev pub common_length : List ℕ → List ℕ → ℕ
common_length xs ys = length (take_while (λ p. p.0 == p.1) (zip xs ys))

-- the blocks of height h are the runs of 2^(h + 1) bytes from 0 on; whether two bytes are in one of them
abbrev pub one_block : ℕ → ℕ → ℕ → Bool
one_block height a b = (a / 2 ^ height / 2) == (b / 2 ^ height / 2)

-- the middle of the block that has a byte
abbrev pub middle_of : ℕ → ℕ → ℕ
middle_of height byte = (byte / 2 ^ height / 2 * 2 + 1) * 2 ^ height

-- the height of the least block that has both bytes, where one of height n has them
abbrev pub shared_height : ℕ → ℕ → ℕ → ℕ
shared_height zero a b = zero
shared_height (suc n) a b = if one_block n a b then shared_height n a b else suc n

-- the bytes, and zeros behind them
abbrev pub padded : List ℕ → List ℕ
padded bytes = bytes ++ drop (length bytes) (replicate 32 0)

-- the eight bytes from a place on as a number, the first the highest
abbrev pub word : List ℕ → ℕ → ℕ
word bytes at = number_from_digits 256 (take 8 (drop at bytes))

abbrev pub words : List ℕ → List ℕ
words bytes = word bytes 0 ∷ word bytes 8 ∷ word bytes 16 ∷ word bytes 24 ∷ []

-- behind these bytes, at the block with this middle
abbrev pub fork_with : List ℕ → ℕ → Fork
fork_with prefix middle = record { prefix = words (padded prefix); middle = middle }

-- behind these bytes, at the block that has the next byte
abbrev pub fork_at : List ℕ → ℕ → ℕ → Fork
fork_at prefix height byte = fork_with prefix (middle_of height byte)

-- behind the same bytes, at the block with this middle
abbrev pub with_middle : Fork → ℕ → Fork
with_middle fork middle = record fork { middle = middle }

-- where the bounds part, behind the bytes that they share
abbrev pub fork_behind : ℕ → Span → Fork
fork_behind shared span = fork_at (take shared span.lo) (shared_height 7 (byte_at span.lo shared) (byte_at span.hi shared)) (byte_at span.lo shared)

abbrev pub fork_of : Span → Fork
fork_of span = fork_behind (common_length span.lo span.hi) span

-- the fork stands behind the first bytes of the key, at one of the eight blocks that have the next byte
pub record IsOnPath (key : List ℕ) (fork : Fork) : Type 0 where
  pub place : ℕ
  pub height : ℕ
  pub within : place ≤ length key
  pub bound : height < 8
  pub is : fork ≡ fork_at (take place key) height (byte_at key place)
