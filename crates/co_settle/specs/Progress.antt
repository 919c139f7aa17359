-- How far settling came, and what a fault leaves in the files.
use Rattle.std.specs.Prelude.{suc, ◌≡◌, ◌<◌, ◌+◌, ◌⊎◌, List, [], ◌∷◌, ◌++◌, length, Option, None, Result, Ok, Err}
use Rattle.co_base.specs.declared.head.Kind.{Kind}
use Rattle.co_durable.specs.declared.fault.WorldFault.{WorldFault}
use Rattle.co_durable.specs.declared.fault.WorldFault.TheVariants as world
use Rattle.co_message.specs.declared.event.Event.{Event}
use Rattle.co_outside.specs.Faults.{HasRisen}
use Rattle.co_outside.specs.Home.{File, HomeView}
use Rattle.co_outside.specs.declared.spot.Spot.{Spot}
use Rattle.co_plain.specs.Federation.{Federation}
use Rattle.co_plain.specs.Runs.{run, transcript, lines}
use Rattle.co_plain.specs.Step.{step_line, disarmed}
use Rattle.co_state.specs.declared.engine_state.EngineState.{EngineState}
use Rattle.co_cluster.specs.Left.{AreLeftAs, AreLeftBy}
use Rattle.co_world.specs.Standing.{AreServed, RepresentsWorld}
use Rattle.co_world.specs.declared.world.World.{World}
use Rattle.co_settle.specs.declared.counting.Steps.{Steps}
use Rattle.co_settle.specs.declared.telling.Told.{Told}

-- These events were done, each told behind what was told before, and counted; the federation stands for what they leave.
pub record HasDone {E : Type 0} (takes : Kind → Type 0) (stands_for : E → EngineState → Type 0) (s : Federation) (events : List Event) (old new : Told) (before after : Steps) (w : World E) : Type 0 where
  pub number : new.number ≡ old.number + length events
  pub items : new.items ≡ old.items ++ transcript (suc old.number) events s
  pub counted : after.count ≡ before.count + length events
  pub stands : RepresentsWorld takes stands_for w (run (lines events) s)

-- A fault came in one of these events: the files have what was left of it, and a file is said to be too long only where it would leave a log that is. Before the
-- first, between two and behind the last there can only be no memory; then the files have what the events before left.
abbrev pub IsCutIn : List Event → Federation → (Spot → Option File) → WorldFault → Type 0
IsCutIn [] s file fault = AreLeftAs file s × (fault ≡ world.Memory)
IsCutIn (e ∷ es) s file fault = AreLeftBy file s (step_line s e).state (step_line (disarmed s) e).state fault ⊎ IsCutIn es (step_line s e).state file fault

-- how a call ends that does these events, by its answer
abbrev pub DoesAll : {A E : Type 0} → (Kind → Type 0) → (E → EngineState → Type 0) → Federation → List Event → Told → Told → Steps → Steps → World E → (Spot → Option File) → (A → Type 0) → Result A WorldFault → Type 0
DoesAll takes stands_for s events old new before after w file Gives (Ok a) = HasDone takes stands_for s events old new before after w × Gives a
DoesAll takes stands_for s events old new before after w file Gives (Err fault) = IsCutIn events s file fault

-- How the directory failed, by the fault; no fault of opening ever comes, and the limit on transactions is not met.
abbrev pub HasEnded : WorldFault → HomeView → HomeView → Type 0
HasEnded (world.Device spot) old new = HasRisen old.faults new.faults × (new.last_failed ≡ spot)
HasEnded (world.Differs spot at kept read) old new = new.faults ≡ old.faults
HasEnded (world.InUse spot) old new = ⊥
HasEnded (world.Bad spot at) old new = ⊥
HasEnded (world.Full spot) old new = new.faults ≡ old.faults
HasEnded world.Count old new = ⊥
HasEnded (world.Old spot) old new = ⊥
HasEnded world.Memory old new = new.faults ≡ old.faults

-- where a file differs from what is kept of it, the directory did not tell it when it was read again
abbrev pub IsUntoldFor : {H : Type 0} → (H → HomeView) → WorldFault → Type 0
IsUntoldFor {H = H} seen (world.Differs spot at kept read) = (home : H) × ((seen home).file spot ≡ None) × (spot.part < 2)
IsUntoldFor seen _ = Unit {0}

-- how a call leaves the directory, by its answer
abbrev pub EndsAs : {A E : Type 0} → World E → HomeView → HomeView → Result A WorldFault → Type 0
EndsAs w old new (Ok a) = AreServed w old new
EndsAs w old new (Err fault) = HasEnded fault old new
