-- The least other holder of ranges that have a key, as far as ranges were looked at.
use Rattle.std.specs.Prelude.{ℕ, List, Bool, ◌≡◌, true, false, ◌&&◌, not, ◌==◌, ◌⊎◌, nat_le, Option, None, Some, filter}
use Rattle.std.specs.List.{list_any}
use Rattle.std.specs.FinMap.{FinMap, entries}
use Rattle.co_base.specs.Span.{Span, span_has, span_cmp}
use Rattle.co_state.specs.Table.{holds}
use Rattle.co_locktab.specs.declared.holders.Holders.{Holders}
use Rattle.co_locktab.specs.Holding.{is_held}

-- whether u is another holder than t of a range that has the key
abbrev pub holds_over : FinMap span_cmp Holders → List ℕ → ℕ → ℕ → Bool
holds_over held key t u = not (u == t) && list_any (λ e. holds e.1.txns u) (filter (λ e. span_has e.0 key) (entries held))

-- whether what was found is no greater than u
abbrev pub covers : Option ℕ → ℕ → Bool
covers None u = false
covers (Some t) u = nat_le t u

-- from `before` to `after` the holders of the seen ranges that have the key were looked at
pub record Weighs (held : FinMap span_cmp Holders) (key : List ℕ) (t : ℕ) (before after : Option ℕ) (Seen : Span → Type 0) : Type 0 where
  pub keeps : (u : ℕ) → covers before u ≡ true → covers after u ≡ true
  pub right : (u : ℕ) → after ≡ Some u → (before ≡ Some u) ⊎ (holds_over held key t u ≡ true)
  pub full : (span : Span) → Seen span → span_has span key ≡ true → (u : ℕ) → is_held held span u ≡ true → not (u == t) ≡ true → covers after u ≡ true
