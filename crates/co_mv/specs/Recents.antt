-- Which keys the recent installs wrote, by the numbers of the installs.
use Rattle.std.specs.Prelude.{ℕ, List, [], Option, None, Some}
pub use Rattle.co_index.specs.Listed.{has_key}
use Rattle.co_state.specs.Table.{Table, look}

abbrev pub Recents : Type 0
Recents = Table (List (List ℕ))

abbrev pub keys_in : Option (List (List ℕ)) → List (List ℕ)
keys_in None = []
keys_in (Some keys) = keys

-- the keys that an install wrote, as far as they are kept
abbrev pub keys_at : Recents → ℕ → List (List ℕ)
keys_at m install = keys_in (look m install)
