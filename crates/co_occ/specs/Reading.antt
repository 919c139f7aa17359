-- The oldest reads of the active transactions.
use Rattle.std.specs.Prelude.{◌≡◌, ℕ, Option, None, Some}
use Rattle.co_state.specs.Table.{Table, look, put}
use Rattle.co_occ.specs.declared.reads.Reads.{Reads}

abbrev pub oldest_at : Option Reads → Option ℕ
oldest_at None = None
oldest_at (Some reads) = reads.oldest

-- the oldest read of each active transaction is known
pub record KnowsOldest (oldest : Table ℕ) (reads : Table Reads) : Type 0 where
  pub each : (t : ℕ) → look oldest t ≡ oldest_at (look reads t)

-- a transaction gets a number, if there is one
abbrev pub with_oldest : Table ℕ → ℕ → Option ℕ → Table ℕ
with_oldest oldest t None = oldest
with_oldest oldest t (Some stamp) = put oldest t stamp
