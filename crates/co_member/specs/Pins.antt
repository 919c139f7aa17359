-- The readers that stay.
use Rattle.std.specs.Prelude.{ℕ, true, ◌≡◌, Option, None, Some}
use Rattle.co_state.specs.Table.{Table, no_entries}
use Rattle.co_undecided.specs.Pins.{pins_in}
use Rattle.co_member.specs.declared.member.Member.{Member}
use Rattle.co_member.specs.declared.running.Running.{Running}
use Rattle.co_member.specs.Standing.{is_up}

-- the pins of what is in memory
abbrev pub pins_where : {E : Type 0} → (E → Table ℕ) → Option (Running E) → Table ℕ
pins_where pins None = no_entries
pins_where pins (Some r) = pins_in pins r.undecided

-- the pins of a member; one that is down has none
abbrev pub pins_of : {E : Type 0} → (E → Table ℕ) → Member E → Table ℕ
pins_of pins m = pins_where pins m.running

-- A member that is up afterwards has the pins that it had: one that goes down loses them, and one that goes up brings none back.
abbrev pub PinsStay : {E : Type 0} → (E → Table ℕ) → Member E → Member E → Type 0
PinsStay pins old new = is_up new ≡ true → pins_of pins new ≡ pins_of pins old
