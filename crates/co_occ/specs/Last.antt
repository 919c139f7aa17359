-- The last install of each key, of the installs whose write sets are kept.
use Rattle.std.specs.Prelude.{◌≡◌, ℕ, ◌-◌, ◌≤◌, ◌==◌, Bool, false, nat_lt, List, [], ◌∷◌, ◌++◌, filter, length, reverse, if◌then◌else◌, Option, None, Some}
use Rattle.std.specs.FinMap.{FinMap, get, insert, remove}
use Rattle.co_base.specs.Order.{key_cmp}
use Rattle.co_base.specs.Span.{span_has}
use Rattle.co_base.specs.declared.written.Written.{Written}
use Rattle.co_index.specs.Listed.{keys_that}
use Rattle.co_state.specs.Keys.{writes_key}
use Rattle.co_occ.specs.declared.reads.Read.{Read}

abbrev pub Lasts : Type 0
Lasts = FinMap key_cmp ℕ

-- the install of this number wrote some keys
abbrev pub noted : Lasts → List Written → ℕ → Lasts
noted m [] n = m
noted m (w ∷ ws) n = noted (insert m w.key n) ws n

-- its write set is no longer kept: the keys of which it is the last install go
abbrev pub is_last : Option ℕ → ℕ → Bool
is_last None n = false
is_last (Some m) n = m == n

abbrev pub forgotten_at : Lasts → List ℕ → ℕ → Lasts
forgotten_at m key n = if is_last (get m key) n then remove m key else m

abbrev pub forgotten : Lasts → List Written → ℕ → Lasts
forgotten m [] n = m
forgotten m (w ∷ ws) n = forgotten (forgotten_at m w.key n) ws n

-- the last of some installs that wrote a key; the newest one stands first and bears the number n
abbrev pub last_of : List (List Written) → ℕ → List ℕ → Option ℕ
last_of [] n key = None
last_of (ws ∷ wss) n key = if writes_key ws key then Some n else last_of wss (n - 1) key

-- the last installs of all keys, by the kept write sets and the number of all installs
pub record AreLast (lasts : Lasts) (old : List (List Written)) (installs : ℕ) : Type 0 where
  pub fit : length old ≤ installs
  pub each : (key : List ℕ) → get lasts key ≡ last_of (reverse old) installs key

-- every key that was read and written since
abbrev pub keys_after : List (List ℕ × ℕ) → List Read → List (List ℕ)
keys_after es [] = []
keys_after es (r ∷ rs) = keys_that (λ n. nat_lt r.stamp n) (filter (λ e. span_has r.range e.0) es) ++ keys_after es rs
