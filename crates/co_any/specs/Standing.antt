-- For which states an engine of any kind stands and which pins it has: those of the engine inside.
use Rattle.std.specs.Prelude.{ℕ}
use Rattle.co_any.specs.declared.any_engine.AnyEngine.{AnyEngine}
use Rattle.co_any.specs.declared.any_engine.AnyEngine.TheVariants.{Lock, Occ, Mv}
use Rattle.co_lock.specs.Standing as lock
use Rattle.co_mv.specs.Kept as mv
use Rattle.co_occ.specs.Stands as occ
use Rattle.co_state.specs.declared.engine_state.EngineState.{EngineState}
use Rattle.co_state.specs.Table.{Table, no_entries}

abbrev pub StandsFor : AnyEngine → EngineState → Type 0
StandsFor (Lock engine) b = lock.StandsFor engine b
StandsFor (Occ engine) b = occ.StandsFor engine b
StandsFor (Mv engine) b = mv.StandsFor engine b

-- only the engine that keeps versions has pins
abbrev pub pins_of : AnyEngine → Table ℕ
pins_of (Lock engine) = no_entries
pins_of (Occ engine) = no_entries
pins_of (Mv engine) = mv.pins_of engine
