-- The readers that stay, by the number of their member.
use Rattle.std.specs.Prelude.{ℕ, Bool, true, false, ◌≡◌, ◌≢◌, ◌≤◌, ◌-◌, slice_get, Option, None, Some}
use Rattle.co_engine.specs.Pins.{HasPinned}
use Rattle.co_engine.specs.declared.pinning.Pinned.{Pinned}
use Rattle.co_member.specs.Pins.{pins_of}
use Rattle.co_member.specs.Standing.{is_up}
use Rattle.co_member.specs.declared.member.Member.{Member}
use Rattle.co_plain.specs.declared.member_state.MemberState.{MemberState}
use Rattle.co_state.specs.Table.{Table, no_entries}
use Rattle.co_cluster.specs.declared.cluster.Cluster.{Cluster}

-- the pins of a member, where there is one
abbrev pub pins_there : {E : Type 0} → (E → Table ℕ) → Option (Member E) → Table ℕ
pins_there pins None = no_entries
pins_there pins (Some m) = pins_of pins m

-- whether a member runs, where there is one
abbrev pub is_up_there : {E : Type 0} → Option (Member E) → Bool
is_up_there None = false
is_up_there (Some m) = is_up m

-- the pins of the member of this number; one that is down has none
abbrev pub pins_at : {E : Type 0} → (E → Table ℕ) → Cluster E → ℕ → Table ℕ
pins_at pins w m = pins_there pins (slice_get w.members.items (m - 1))

-- whether the member of this number runs
abbrev pub is_up_at : {E : Type 0} → Cluster E → ℕ → Bool
is_up_at w m = is_up_there (slice_get w.members.items (m - 1))

-- Each member that is up afterwards has the pins that it had: one that goes down loses them, and one that goes up brings none back.
abbrev pub PinsStay : {E : Type 0} → (E → Table ℕ) → Cluster E → Cluster E → Type 0
PinsStay pins old new = (m : ℕ) → is_up_at new m ≡ true → pins_at pins new m ≡ pins_at pins old m

-- the other members have the pins that they had
abbrev pub OtherPinsStay : {E : Type 0} → (E → Table ℕ) → ℕ → Cluster E → Cluster E → Type 0
OtherPinsStay pins member old new = (m : ℕ) → 1 ≤ m → m ≢ member → pins_at pins new m ≡ pins_at pins old m

-- what a pin at a member comes to, and its pins before and after it: nothing where it is down
abbrev pub HasPinnedAt : MemberState → ℕ → Table ℕ → Table ℕ → Option Pinned → Type 0
HasPinnedAt x id old new None = (x.up ≡ false) × (new ≡ old)
HasPinnedAt x id old new (Some pinned) = (x.up ≡ true) × HasPinned x.engine id old new pinned
