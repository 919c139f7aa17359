-- How far the lines behind a head were done, what was told of them, and for what the federation stands then.
use Rattle.std.specs.Prelude.{ℕ, suc, ◌≡◌, ◌⊎◌, List, [], ◌++◌, length, take, Option, Some, Result, Ok, Err}
use Rattle.std.specs.List.{AllByRecursion}
use Rattle.co_base.specs.declared.head.Head.{Head}
use Rattle.co_base.specs.declared.head.Kind.{Kind}
use Rattle.co_message.specs.declared.event.Event.{Event}
use Rattle.co_outside.specs.declared.spot.Spot.{Spot}
use Rattle.co_outside.specs.Home.{File, HomeView}
use Rattle.co_plain.specs.Federation.{Federation}
use Rattle.co_plain.specs.Runs.{run, transcript, lines}
use Rattle.co_plain.specs.Step.{disarmed, step_line}
use Rattle.co_replay.specs.Schedule.{HasLine}
use Rattle.co_replay.specs.Transcript.{items_text}
use Rattle.co_state.specs.declared.engine_state.EngineState.{EngineState}
use Rattle.co_cluster.specs.Conditions.{IsReady}
use Rattle.co_cluster.specs.Left.{AreLeftAs}
use Rattle.co_world.specs.Standing.{RepresentsWorld, AreHeld}
use Rattle.co_world.specs.declared.world.World.{World}
use Rattle.co_top.specs.Front.{StandsBehind, IsNext, IsLineFault, IsStreamed}
use Rattle.co_world.specs.Counting.{MeetsPlainLimit}
use Rattle.co_top.specs.Telling.{Outgrows}
use Rattle.co_top.specs.declared.status.LimitKind.TheVariants as limit
use Rattle.co_top.specs.declared.status.Status.{Status}
use Rattle.co_top.specs.declared.status.Status.TheVariants as status

-- every state of a run of a schedule with this head is one of its nodes, in which an event can be done
pub record IsReadyFor (head : Head) (z : Federation) : Type 0 where
  pub ready : IsReady z
  pub kinds : z.kinds ≡ head.kinds
  pub coordinators : z.coordinators ≡ head.coords

abbrev pub StaysReady : Head → Federation → Type 0
StaysReady head s0 = (events : List Event) → AllByRecursion (HasLine head) events → IsReadyFor head (run (lines events) s0)

-- The events of the lines that were done, where the source tells the text behind the head; and what the sink holds, where it tells that: what it held,
-- and the text of their transcript.
pub record IsTold (head : Head) (s0 : Federation) (text held told : Option (List ℕ)) : Type 0 where
  pub events : List Event
  pub valid : AllByRecursion (HasLine head) events
  pub left : (t : List ℕ) → text ≡ Some t → (rest : List ℕ) × StandsBehind head t events rest
  pub whole : (h : List ℕ) → held ≡ Some h → told ≡ Some (h ++ items_text (transcript 2 events s0))

-- so, but for a front of the text alone
pub record IsToldInPart (head : Head) (s0 : Federation) (text held told : Option (List ℕ)) : Type 0 where
  pub events : List Event
  pub valid : AllByRecursion (HasLine head) events
  pub left : (t : List ℕ) → text ≡ Some t → (rest : List ℕ) × StandsBehind head t events rest
  pub part : (h : List ℕ) → held ≡ Some h → (count : ℕ) × (told ≡ Some (h ++ take count (items_text (transcript 2 events s0))))

-- the federation stands for what these events leave, and the directory holds its logs
pub record StandsFor {E : Type 0} (takes : Kind → Type 0) (stands_for : E → EngineState → Type 0) (s0 : Federation) (home : HomeView) (w : World E) (events : List Event) : Type 0 where
  pub stands : RepresentsWorld takes stands_for w (run (lines events) s0)
  pub held : AreHeld home w

-- The files have what these events left, or what was left of the event of the next line: it was begun, and a stop that was armed counts or does not.
abbrev pub IsLeftNear : (head : Head) → Federation → (text : Option (List ℕ)) → (events : List Event) → ((t : List ℕ) → text ≡ Some t → (rest : List ℕ) × StandsBehind head t events rest) → (Spot → Option File) → Type 0
IsLeftNear head s0 text events left file =
    AreLeftAs file (run (lines events) s0)
    ⊎ ((event : Event) × HasLine head event × ((t : List ℕ) (q : text ≡ Some t) → (rest : List ℕ) × IsNext head (length events) (left t q).0 rest (Some event))
    × (AreLeftAs file (step_line (run (lines events) s0) event).state ⊎ AreLeftAs file (step_line (disarmed (run (lines events) s0)) event).state))

-- no more of the text was taken behind these lines than one line may have, where the source tells what it has left now
abbrev pub IsStreamedBehind : (head : Head) (text now : Option (List ℕ)) (events : List Event) → ((t : List ℕ) → text ≡ Some t → (rest : List ℕ) × StandsBehind head t events rest) → Type 0
IsStreamedBehind head text now events left = (t : List ℕ) (q : text ≡ Some t) → IsStreamed (left t q).0 now

-- what was told before an event met a fault, and what the files have then
pub record HasFailed (head : Head) (s0 : Federation) (text now held told : Option (List ℕ)) (home : HomeView) : Type 0 where
  pub done : IsTold head s0 text held told
  pub streamed : IsStreamedBehind head text now done.events done.left
  pub files : IsLeftNear head s0 text done.events done.left home.file

pub record HasFailedInPart (head : Head) (s0 : Federation) (text now held told : Option (List ℕ)) (home : HomeView) : Type 0 where
  pub done : IsToldInPart head s0 text held told
  pub streamed : IsStreamedBehind head text now done.events done.left
  pub files : IsLeftNear head s0 text done.events done.left home.file

-- what was told before an event that meets the limit of transactions; the files have what the lines before it left
pub record HasMetLimit (head : Head) (s0 : Federation) (text now held told : Option (List ℕ)) (home : HomeView) : Type 0 where
  pub done : IsTold head s0 text held told
  pub streamed : IsStreamedBehind head text now done.events done.left
  pub files : AreLeftAs home.file (run (lines done.events) s0)
  pub event : Event
  pub next : (t : List ℕ) (e : text ≡ Some t) → (rest : List ℕ) × IsNext head (length done.events) (done.left t e).0 rest (Some event)
  pub limit : MeetsPlainLimit (run (lines done.events) s0) event

-- what was told before an event that would leave this log too long; the files have what the lines before it left
pub record HasOutgrown (head : Head) (s0 : Federation) (text now held told : Option (List ℕ)) (home : HomeView) (spot : Spot) : Type 0 where
  pub done : IsTold head s0 text held told
  pub streamed : IsStreamedBehind head text now done.events done.left
  pub files : AreLeftAs home.file (run (lines done.events) s0)
  pub event : Event
  pub next : (t : List ℕ) (e : text ≡ Some t) → (rest : List ℕ) × IsNext head (length done.events) (done.left t e).0 rest (Some event)
  pub outgrows : Outgrows (run (lines done.events) s0) event spot

-- the lines that were done, and why the next one gave no event
pub record HasStopped {E : Type 0} (takes : Kind → Type 0) (stands_for : E → EngineState → Type 0) (head : Head) (s0 : Federation) (text now held told : Option (List ℕ)) (home : HomeView) (w : World E) (ended : Status) : Type 0 where
  pub done : IsTold head s0 text held told
  pub streamed : IsStreamedBehind head text now done.events done.left
  pub stands : StandsFor takes stands_for s0 home w done.events
  pub cause : (t : List ℕ) (e : text ≡ Some t) → IsLineFault head (length done.events) (done.left t e).0 ended

-- How the lines behind a head end, by the status: at the end of the text with the number of the last line.
abbrev pub IsOver : {E : Type 0} → (Kind → Type 0) → (E → EngineState → Type 0) → Head → Federation → Option (List ℕ) → Option (List ℕ) → Option (List ℕ) → Option (List ℕ) → HomeView → World E → Result ℕ Status → Type 0
IsOver takes stands_for head s0 text now held told home w (Ok number) =
    (done : IsTold head s0 text held told) × IsStreamedBehind head text now done.events done.left × StandsFor takes stands_for s0 home w done.events × ((t : List ℕ) (e : text ≡ Some t) → (done.left t e).0 ≡ []) × (number ≡ suc (length done.events))
IsOver takes stands_for head s0 text now held told home w (Err (status.Schedule line what)) = HasStopped takes stands_for head s0 text now held told home w (status.Schedule line what)
IsOver takes stands_for head s0 text now held told home w (Err (status.Limit (limit.Line line))) = HasStopped takes stands_for head s0 text now held told home w (status.Limit (limit.Line line))
IsOver takes stands_for head s0 text now held told home w (Err (status.Limit limit.Lines)) = HasStopped takes stands_for head s0 text now held told home w (status.Limit limit.Lines)
IsOver takes stands_for head s0 text now held told home w (Err status.Read) = HasStopped takes stands_for head s0 text now held told home w status.Read
IsOver takes stands_for head s0 text now held told home w (Err status.Write) = (done : IsToldInPart head s0 text held told) × IsStreamedBehind head text now done.events done.left × StandsFor takes stands_for s0 home w done.events
IsOver takes stands_for head s0 text now held told home w (Err status.Memory) = HasFailedInPart head s0 text now held told home
IsOver takes stands_for head s0 text now held told home w (Err (status.Device spot)) = HasFailed head s0 text now held told home
IsOver takes stands_for head s0 text now held told home w (Err (status.Differs spot at kept read)) = HasFailed head s0 text now held told home
IsOver takes stands_for head s0 text now held told home w (Err (status.Limit (limit.Log spot))) = HasOutgrown head s0 text now held told home spot
IsOver takes stands_for head s0 text now held told home w (Err (status.Limit limit.Transactions)) = HasMetLimit head s0 text now held told home
IsOver takes stands_for head s0 text now held told home w (Err _) = ⊥
