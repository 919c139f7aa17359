-- How one event is done and told, and how a federation is opened and told of.
use Rattle.std.specs.Prelude.{ℕ, ◌≡◌, ◌<◌, ◌⊎◌, List, ◌∷◌, ◌++◌, take, Option, None, Some, Result, Ok, Err}
use Rattle.co_base.specs.declared.head.Kind.{Kind}
use Rattle.co_message.specs.declared.event.Event.{Event}
use Rattle.co_message.specs.declared.item.ItemKind.TheVariants as item
use Rattle.co_outside.specs.Faults.{HasRisen}
use Rattle.co_outside.specs.Home.{HomeView}
use Rattle.co_outside.specs.declared.spot.Spot.{Spot}
use Rattle.co_plain.specs.Federation.{Federation}
use Rattle.co_plain.specs.Runs.{numbered}
use Rattle.co_plain.specs.Step.{disarmed, step_line}
use Rattle.co_replay.specs.Transcript.{items_text}
use Rattle.co_state.specs.declared.engine_state.EngineState.{EngineState}
use Rattle.co_world.specs.Counting.{MeetsPlainLimit}
use Rattle.co_cluster.specs.Left.{AreLeftAs, AreLeftNear, HasOverlong}
use Rattle.co_world.specs.Standing.{RepresentsWorld, AreHeld}
use Rattle.co_world.specs.declared.world.World.{World}
use Rattle.co_top.specs.declared.status.LimitKind.TheVariants as limit
use Rattle.co_top.specs.declared.status.Status.{Status}
use Rattle.co_top.specs.declared.status.Status.TheVariants as status

-- the text of an event: the event itself, and then what came of it
abbrev pub event_text : ℕ → Event → Federation → List ℕ
event_text number event s = items_text (numbered number (item.Event event ∷ (step_line s event).items))

-- a sink that holds this holds the text behind it then
abbrev pub IsPut : List ℕ → Option (List ℕ) → Option (List ℕ) → Type 0
IsPut text held told = (h : List ℕ) → held ≡ Some h → told ≡ Some (h ++ text)

-- or a front of the text
abbrev pub IsPutInPart : List ℕ → Option (List ℕ) → Option (List ℕ) → Type 0
IsPutInPart text held told = (h : List ℕ) → held ≡ Some h → (count : ℕ) × (told ≡ Some (h ++ take count text))

-- a text was put whole, or a front of it where the sink failed or there was no memory
abbrev pub IsTextPut : List ℕ → Option (List ℕ) → Option (List ℕ) → Result (Unit {0}) Status → Type 0
IsTextPut text held told (Ok u) = IsPut text held told
IsTextPut text held told (Err status.Write) = IsPutInPart text held told
IsTextPut text held told (Err status.Memory) = IsPutInPart text held told
IsTextPut text held told (Err _) = ⊥

-- The directory failed at the file that the status names, or it met no fault; only a file that it does not tell can differ.
abbrev pub HasEnded : HomeView → HomeView → Status → Type 0
HasEnded old new (status.Device spot) = HasRisen old.faults new.faults × (new.last_failed ≡ spot)
HasEnded old new (status.Differs spot at kept read) = (new.faults ≡ old.faults) × (old.file spot ≡ None) × (spot.part < 2)
HasEnded old new _ = new.faults ≡ old.faults

-- the federation stands for the state that the event leaves, and the directory holds its logs
pub record HasStepped {E : Type 0} (takes : Kind → Type 0) (stands_for : E → EngineState → Type 0) (s : Federation) (event : Event) (home : HomeView) (w : World E) : Type 0 where
  pub stands : RepresentsWorld takes stands_for w (step_line s event).state
  pub held : AreHeld home w

-- nothing was told, and the files have what a fault of the event may leave
abbrev pub HasFaulted : Federation → Event → Option (List ℕ) → Option (List ℕ) → HomeView → Type 0
HasFaulted s event held told home = (told ≡ held) × AreLeftNear home.file s (step_line s event).state (step_line (disarmed s) event).state

-- the event would leave this log too long
abbrev pub Outgrows : Federation → Event → Spot → Type 0
Outgrows s event spot = HasOverlong (step_line (disarmed s) event).state spot

-- How an event of a line of this number is done and told.
abbrev pub IsToldOf : {E : Type 0} → (Kind → Type 0) → (E → EngineState → Type 0) → Federation → ℕ → Event → Option (List ℕ) → Option (List ℕ) → HomeView → World E → Result (Unit {0}) Status → Type 0
IsToldOf takes stands_for s number event held told home w (Ok u) = HasStepped takes stands_for s event home w × IsPut (event_text number event s) held told
IsToldOf takes stands_for s number event held told home w (Err status.Write) = HasStepped takes stands_for s event home w × IsPutInPart (event_text number event s) held told
IsToldOf takes stands_for s number event held told home w (Err status.Memory) = HasFaulted s event held told home ⊎ (HasStepped takes stands_for s event home w × IsPutInPart (event_text number event s) held told)
IsToldOf takes stands_for s number event held told home w (Err (status.Device spot)) = HasFaulted s event held told home
IsToldOf takes stands_for s number event held told home w (Err (status.Differs spot at kept read)) = HasFaulted s event held told home
IsToldOf takes stands_for s number event held told home w (Err (status.Limit (limit.Log spot))) = (told ≡ held) × AreLeftAs home.file s × Outgrows s event spot
IsToldOf takes stands_for s number event held told home w (Err (status.Limit limit.Transactions)) = (told ≡ held) × AreLeftAs home.file s × MeetsPlainLimit s event
IsToldOf takes stands_for s number event held told home w (Err _) = ⊥
