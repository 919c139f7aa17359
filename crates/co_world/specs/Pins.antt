-- The readers that stay, by the number of their member.
use Rattle.std.specs.Prelude.{ℕ}
use Rattle.co_state.specs.Table.{Table}
use Rattle.co_cluster.specs.Pins as nodes
use Rattle.co_world.specs.declared.world.World.{World}

-- the pins of the member of this number; one that is down has none
abbrev pub pins_at : {E : Type 0} → (E → Table ℕ) → World E → ℕ → Table ℕ
pins_at pins w m = nodes.pins_at pins w.cluster m

-- Each member that is up afterwards has the pins that it had: one that goes down loses them, and one that goes up brings none back.
abbrev pub PinsStay : {E : Type 0} → (E → Table ℕ) → World E → World E → Type 0
PinsStay pins old new = nodes.PinsStay pins old.cluster new.cluster

-- the other members have the pins that they had
abbrev pub OtherPinsStay : {E : Type 0} → (E → Table ℕ) → ℕ → World E → World E → Type 0
OtherPinsStay pins member old new = nodes.OtherPinsStay pins member old.cluster new.cluster
