-- The versions of a key in the order of their installs.
use Rattle.std.specs.Prelude.{ℕ, zero, suc, nat_le, Bool, true, false, ◌≡◌, ◌<◌, ◌≤◌, List, [], ◌∷◌}
use Rattle.std.specs.List.Sorted.{IsPartitionedBy, IsPartitionPoint}
use Rattle.co_mv.specs.declared.version.Version.{Version}
use Rattle.co_mv.specs.Versions.{is_before, with_newest}

abbrev pub Each : (Version → Type 0) → List Version → Type 0
Each P [] = Unit {0}
Each P (v ∷ vs) = P v × Each P vs

-- the older one was written first, and was overwritten by the time that the newer one was written
pub record IsOlder (newer older : Version) : Type 0 where
  pub begun : older.written ≤ newer.written
  pub ended : (n : ℕ) → is_before n older.overwritten ≡ true → n < newer.written

-- the newest one stands first
abbrev pub IsOrdered : List Version → Type 0
IsOrdered [] = Unit {0}
IsOrdered (v ∷ vs) = Each (IsOlder v) vs × IsOrdered vs

-- so many versions were written by the first so many installs, where those that were stand first
abbrev pub IsCountUntil : ℕ → List Version → ℕ → Type 0
IsCountUntil installs vs count =
    IsPartitionedBy (λ v. nat_le v.written installs) vs → IsPartitionPoint (λ v. nat_le v.written installs ≡ true) (λ v. nat_le v.written installs ≡ false) vs count

-- the version at a place goes, if it is not kept
abbrev pub forgotten_at : (Version → Bool) → ℕ → List Version → List Version
forgotten_at keep place [] = []
forgotten_at keep zero (v ∷ vs) = with_newest keep v vs
forgotten_at keep (suc place) (v ∷ vs) = v ∷ forgotten_at keep place vs

-- the versions of each key
abbrev pub AreOrdered : List (List ℕ × List Version) → Type 0
AreOrdered [] = Unit {0}
AreOrdered (e ∷ es) = IsOrdered e.1 × AreOrdered es
