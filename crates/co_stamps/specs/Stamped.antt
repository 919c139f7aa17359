-- The least and the greatest of some numbers.
use Rattle.std.specs.Prelude.{◌≡◌, ℕ, ◌<◌, ◌≤◌, Option, None, Some}
use Rattle.co_state.specs.Table.{Table, look}

-- the number of some transaction
abbrev pub IsStamp : Table ℕ → ℕ → Type 0
IsStamp stamps n = (t : ℕ) × (look stamps t ≡ Some n)

pub record IsLeast (stamps : Table ℕ) (from least : ℕ) : Type 0 where
  pub is_stamp : IsStamp stamps least
  pub is_above : from ≤ least
  pub is_least : (t n : ℕ) → look stamps t ≡ Some n → from ≤ n → least ≤ n

-- the least number at or above another one, or none where all are below it
abbrev pub IsLeastFrom : Table ℕ → ℕ → Option ℕ → Type 0
IsLeastFrom stamps from None = (t n : ℕ) → look stamps t ≡ Some n → n < from
IsLeastFrom stamps from (Some least) = IsLeast stamps from least

pub record IsGreatest (stamps : Table ℕ) (end greatest : ℕ) : Type 0 where
  pub is_stamp : IsStamp stamps greatest
  pub is_below : greatest < end
  pub is_greatest : (t n : ℕ) → look stamps t ≡ Some n → n < end → n ≤ greatest

-- the greatest number below another one, or none where all are at or above it
abbrev pub IsGreatestBelow : Table ℕ → ℕ → Option ℕ → Type 0
IsGreatestBelow stamps end None = (t n : ℕ) → look stamps t ≡ Some n → end ≤ n
IsGreatestBelow stamps end (Some greatest) = IsGreatest stamps end greatest
