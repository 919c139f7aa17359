-- One turn of settling.
use Rattle.std.specs.Prelude.{Option, Result}
use Rattle.co_base.specs.declared.head.Kind.{Kind}
use Rattle.co_durable.specs.declared.fault.WorldFault.{WorldFault}
use Rattle.co_outside.specs.Home.{File}
use Rattle.co_outside.specs.declared.spot.Spot.{Spot}
use Rattle.co_plain.specs.Federation.{Federation}
use Rattle.co_state.specs.declared.engine_state.EngineState.{EngineState}
use Rattle.co_law_settle.specs.SettlingTurns.{Turn, IsNext, turn_events}
use Rattle.co_world.specs.declared.world.World.{World}
use Rattle.co_settle.specs.Progress.{DoesAll}
use Rattle.co_settle.specs.declared.counting.Steps.{Steps}
use Rattle.co_settle.specs.declared.telling.Told.{Told}

-- it is the turn that the state calls for
abbrev pub TakesTurn : {E : Type 0} → (Kind → Type 0) → (E → EngineState → Type 0) → Federation → Told → Told → Steps → Steps → World E → (Spot → Option File) → Result (Unit {0}) WorldFault → Type 0
TakesTurn takes stands_for s old new before after w file result =
    (turn : Turn) × IsNext s turn × DoesAll takes stands_for s (turn_events s turn) old new before after w file (λ u. Unit {0}) result
