-- How an event ends, by its answer.
use Rattle.std.specs.Prelude.{ℕ, ◌≡◌, List, Result, Ok, Err}
use Rattle.co_base.specs.declared.head.Kind.{Kind}
use Rattle.co_durable.specs.declared.fault.WorldFault.{WorldFault}
use Rattle.co_message.specs.declared.item.Item.{Item}
use Rattle.co_outside.specs.Home.{HomeView}
use Rattle.co_plain.specs.Federation.{Federation, Stepped}
use Rattle.co_plain.specs.Runs.{numbered}
use Rattle.co_plain.specs.Step.{disarmed}
use Rattle.co_state.specs.declared.engine_state.EngineState.{EngineState}
use Rattle.co_cluster.specs.Left.{AreLeftBy}
use Rattle.co_cluster.specs.Served.{HasEndedAs}
use Rattle.co_world.specs.Standing.{RepresentsWorld, AreServed}
use Rattle.co_world.specs.declared.world.World.{World}

-- It was done: what is told are the items of the plain step, the federation stands for the state after it, and the directory holds its logs.
pub record IsEventDone {E : Type 0} (takes : Kind → Type 0) (stands_for : E → EngineState → Type 0) (number : ℕ) (step : Stepped) (after : World E) (old new : HomeView) (items : List Item) : Type 0 where
  pub told : items ≡ numbered number step.items
  pub stands : RepresentsWorld takes stands_for after step.state
  pub served : AreServed after old new

-- It met a fault: the files have what was stable before the event, or what the event leaves, or what it leaves where no stop is armed, and the directory failed as
-- the fault says.
pub record IsEventCut (before after completed : Federation) (old new : HomeView) (fault : WorldFault) : Type 0 where
  pub left : AreLeftBy new.file before after completed fault
  pub ended : HasEndedAs fault old new

-- what a call answers that does this step of a plain federation
abbrev pub AnswersEvent : {E : Type 0} → (Kind → Type 0) → (E → EngineState → Type 0) → ℕ → (Federation → Stepped) → Federation → World E → HomeView → HomeView → Result (List Item) WorldFault → Type 0
AnswersEvent takes stands_for number step s after old new (Ok items) = IsEventDone takes stands_for number (step s) after old new items
AnswersEvent takes stands_for number step s after old new (Err fault) = IsEventCut s (step s).state (step (disarmed s)).state old new fault
