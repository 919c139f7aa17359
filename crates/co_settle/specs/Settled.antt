-- What settling gives, and what a fault leaves of it.
use Rattle.std.specs.Prelude.{ℕ, suc, ◌≡◌, ◌≤◌, ◌+◌, List, length, Option, Result, Ok, Err}
use Rattle.co_base.specs.declared.head.Kind.{Kind}
use Rattle.co_durable.specs.declared.fault.WorldFault.{WorldFault}
use Rattle.co_message.specs.declared.event.Event.{Event}
use Rattle.co_message.specs.declared.item.Item.{Item}
use Rattle.co_outside.specs.Home.{File}
use Rattle.co_outside.specs.declared.spot.Spot.{Spot}
use Rattle.co_plain.specs.Federation.{Federation}
use Rattle.co_plain.specs.Quiet.{settling_bound}
use Rattle.co_plain.specs.Runs.{run, transcript, lines}
use Rattle.co_plain.specs.Step.{disarmed}
use Rattle.co_state.specs.declared.engine_state.EngineState.{EngineState}
use Rattle.co_law_settle.specs.SettlingTurns.{IsSettling, Settles}
use Rattle.co_world.specs.Standing.{RepresentsWorld}
use Rattle.co_world.specs.declared.world.World.{World}
use Rattle.co_settle.specs.Progress.{IsCutIn}

-- The events that settle the federation, no more than their bound: the items are their transcript, with the numbers that follow, each of them was
-- counted, and the federation stands for what they leave.
pub record HasSettled {E : Type 0} (takes : Kind → Type 0) (stands_for : E → EngineState → Type 0) (s : Federation) (number before : ℕ) (items : List Item) (w : World E) (after : ℕ) : Type 0 where
  pub events : List Event
  pub settles : Settles s events
  pub bounded : length events ≤ settling_bound s
  pub told : items ≡ transcript (suc number) events (disarmed s)
  pub counted : after ≡ before + length events
  pub stands : RepresentsWorld takes stands_for w (run (lines events) (disarmed s))

-- a fault came in these events of settling
pub record IsCutShort (s : Federation) (file : Spot → Option File) (fault : WorldFault) : Type 0 where
  pub events : List Event
  pub settling : IsSettling s events
  pub cut : IsCutIn events (disarmed s) file fault

-- how settling ends, by its answer
abbrev pub SettlesAs : {E : Type 0} → (Kind → Type 0) → (E → EngineState → Type 0) → Federation → ℕ → ℕ → World E → ℕ → (Spot → Option File) → Result (List Item) WorldFault → Type 0
SettlesAs takes stands_for s number before w after file (Ok items) = HasSettled takes stands_for s number before items w after
SettlesAs takes stands_for s number before w after file (Err fault) = IsCutShort s file fault
