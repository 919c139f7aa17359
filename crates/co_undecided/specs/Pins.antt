-- The readers that stay.
use Rattle.std.specs.Prelude.{ℕ}
use Rattle.co_state.specs.Table.{Table}
use Rattle.co_undecided.specs.declared.undecideds.Undecideds.{Undecideds}

-- the pins of its engine
abbrev pub pins_in : {E : Type 0} → (E → Table ℕ) → Undecideds E → Table ℕ
pins_in pins u = pins u.engine
