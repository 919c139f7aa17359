-- How a call over the directory of a trial ends, by how often the directory has failed.
use Rattle.std.specs.Prelude.{ℕ, ◌≡◌, Result, Ok, Err}
use Rattle.co_durable.specs.declared.fault.WorldFault.{WorldFault}
use Rattle.co_durable.specs.declared.fault.WorldFault.TheVariants as world
use Rattle.co_outside.specs.Faults.{HasRisen}

-- The directory failed, where the fault says so; and no fault of opening comes, no log gets too long, nor is the limit on transactions met.
abbrev pub IsFaultOf : WorldFault → ℕ → ℕ → Type 0
IsFaultOf (world.Device spot) before after = HasRisen before after
IsFaultOf (world.Differs spot at kept read) before after = Unit {0}
IsFaultOf (world.InUse spot) before after = ⊥
IsFaultOf (world.Bad spot at) before after = ⊥
IsFaultOf (world.Full spot) before after = ⊥
IsFaultOf world.Count before after = ⊥
IsFaultOf (world.Old spot) before after = ⊥
IsFaultOf world.Memory before after = Unit {0}

-- with an answer the directory has not failed
abbrev pub Ended : {A : Type 0} → ℕ → ℕ → Result A WorldFault → Type 0
Ended before after (Ok a) = after ≡ before
Ended before after (Err fault) = IsFaultOf fault before after
