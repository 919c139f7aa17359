-- The limits of records, and the two versions of their format: the versions differ in the version byte of a header,
-- which is the version, and in the most letters of a value, and in nothing else.
use Rattle.std.specs.Prelude.{ℕ, ◌≤◌, ◌==◌, if◌then◌else◌}
use Rattle.co_base.specs.Letters.{most_key_bytes, most_value_bytes}

-- the version that is still read
abbrev pub oldest : ℕ
oldest = 1

-- the version that is written
abbrev pub newest : ℕ
newest = 2

abbrev pub IsVersion : ℕ → Type 0
IsVersion version = (oldest ≤ version) × (version ≤ newest)

abbrev pub most_key : ℕ
most_key = most_key_bytes

abbrev pub most_value : ℕ → ℕ
most_value version = if version == oldest then 256 else most_value_bytes
