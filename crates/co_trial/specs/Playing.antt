-- How far a trial came: what was done of it and told.
use Rattle.std.specs.Prelude.{ℕ, ◌≡◌, ◌++◌, List, ◌∷◌, length}
use Rattle.std.specs.List.{AllByRecursion}
use Rattle.sha2.specs.Hashers.{Holds256}
use Rattle.co_base.specs.declared.head.Kind.{Kind}
use Rattle.co_law_settle.specs.SettlingTurns.{Settles}
use Rattle.co_message.specs.declared.event.Event.{Event}
use Rattle.co_message.specs.declared.item.ItemKind.TheVariants as item
use Rattle.co_outside.specs.declared.spot.Spot.{Spot}
use Rattle.co_plain.specs.Federation.{Federation}
use Rattle.co_plain.specs.Runs.{numbered, transcript}
use Rattle.co_plain.specs.Step.{step_line, disarmed}
use Rattle.co_replay.specs.Transcript.{items_text}
use Rattle.co_schedule.specs.View.{IsEventFor}
use Rattle.co_state.specs.declared.engine_state.EngineState.{EngineState}
use Rattle.co_cluster.specs.Left.{HasOverlong}
use Rattle.co_world.specs.Standing.{RepresentsWorld}
use Rattle.co_world.specs.declared.world.World.{World}
use Rattle.co_trial.specs.Decisions.{AreRun}
use Rattle.co_trial.specs.Making.{first_events, IsShort}
use Rattle.co_trial.specs.Trials.{Opened, start_of, played_to, settled_to, trial_items}
use Rattle.co_trial.specs.declared.deciding.Decisions.{Decisions}
use Rattle.co_trial.specs.declared.tally.Told.{Told}

-- Behind the event no log is too long, and each has a next generation, where each log write of it completes.
abbrev pub HasRoom : Federation → Event → Type 0
HasRoom s event = (spot : Spot) → HasOverlong (step_line (disarmed s) event).state spot → ⊥

-- one event was done and told, and what it decided was run
pub record HasPlayed {E : Type 0} (takes : Kind → Type 0) (stands_for : E → EngineState → Type 0) (s : Federation) (number : ℕ) (event : Event) (before after : Told) (old new : Decisions) (w : World E) : Type 0 where
  pub stands : RepresentsWorld takes stands_for w (step_line s event).state
  pub told : (text : List ℕ) → Holds256 before.hasher text → Holds256 after.hasher (text ++ items_text (numbered number (item.Event event ∷ (step_line s event).items)))
  pub decided : (s0 : Federation) → AreRun s0 old s.decided → AreRun s0 new (step_line s event).state.decided

-- So many events of the trial with this number were made, done and told: each has the nodes of the head and fields in their sets, and is short.
pub record HasGone {E : Type 0} (takes : Kind → Type 0) (stands_for : E → EngineState → Type 0) (o : Opened) (number count : ℕ) (before after : Told) (d : Decisions) (w : World E) : Type 0 where
  pub stands : RepresentsWorld takes stands_for w (played_to o number count)
  pub told : (text : List ℕ) → Holds256 before.hasher text → Holds256 after.hasher (text ++ items_text (transcript 2 (first_events (start_of o) number count) (start_of o)))
  pub decided : AreRun (start_of o) d (played_to o number count).decided
  pub valid : AllByRecursion (IsEventFor (length o.head.kinds) o.head.coords) (first_events (start_of o) number count)
  pub short : AllByRecursion IsShort (first_events (start_of o) number count)
  pub long : length (first_events (start_of o) number count) ≡ count

-- The trial was run to its end: its events, and those of settling, after which nothing is open.
pub record IsDone {E : Type 0} (takes : Kind → Type 0) (stands_for : E → EngineState → Type 0) (o : Opened) (number count : ℕ) (told : Told) (d : Decisions) (w : World E) (settled : ℕ) : Type 0 where
  pub settling : List Event
  pub settles : Settles (played_to o number count) settling
  pub stands : RepresentsWorld takes stands_for w (settled_to o number count settling)
  pub told_all : Holds256 told.hasher (items_text (trial_items o number count settling))
  pub decided : AreRun (start_of o) d (settled_to o number count settling).decided
  pub valid : AllByRecursion (IsEventFor (length o.head.kinds) o.head.coords) (first_events (start_of o) number count)
  pub counted : settled ≡ length settling
