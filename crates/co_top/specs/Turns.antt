-- How the turns of members in doubt are done and told, one after the other.
use Rattle.std.specs.Prelude.{ℕ, suc, ◌≡◌, ◌⊎◌, List, [], ◌∷◌, ◌++◌, Option, Result, Ok, Err}
use Rattle.co_base.specs.declared.head.Kind.{Kind}
use Rattle.co_cluster.specs.Left.{AreLeftAs}
use Rattle.co_cluster.specs.declared.doubting.Doubt.{Doubt}
use Rattle.co_coop.specs.Consulted.{IsCutAlong}
use Rattle.co_coop.specs.Resolution.{resolution}
use Rattle.co_coop.specs.Turn.{doubt_turn}
use Rattle.co_durable.specs.declared.fault.WorldFault.{WorldFault}
use Rattle.co_durable.specs.declared.fault.WorldFault.TheVariants as world
use Rattle.co_law_coop.specs.Consulting.{told_event, number_after, transcript_along}
use Rattle.co_message.specs.declared.item.Item.{Item}
use Rattle.co_outside.specs.Home.{File, HomeView}
use Rattle.co_outside.specs.declared.spot.Spot.{Spot}
use Rattle.co_plain.specs.Federation.{Federation}
use Rattle.co_plain.specs.Runs.{run}
use Rattle.co_plain.specs.Step.{step}
use Rattle.co_plain.specs.declared.happening.Happening.{Happening}
use Rattle.co_replay.specs.Transcript.{items_text}
use Rattle.co_state.specs.declared.engine_state.EngineState.{EngineState}
use Rattle.co_world.specs.Standing.{RepresentsWorld, AreHeld}
use Rattle.co_world.specs.declared.world.World.{World}
use Rattle.co_top.specs.Resolving.{AreListed, doubts_text, turns_text}
use Rattle.co_top.specs.Telling.{IsPut, IsPutInPart}
use Rattle.co_top.specs.declared.status.LimitKind.TheVariants as limit
use Rattle.co_top.specs.declared.status.Status.{Status}
use Rattle.co_top.specs.declared.status.Status.TheVariants as status

-- the number of the next event behind these happenings, where the first one has this number
abbrev pub number_along : ℕ → List Happening → Federation → ℕ
number_along number [] s = number
number_along number (h ∷ hs) s = number_along (number_after number (told_event s h)) hs (step s h).state

-- the number of the last item, or this one
abbrev pub last_number : ℕ → List Item → ℕ
last_number number [] = number
last_number number (item ∷ items) = last_number item.number items

-- the text of one turn
abbrev pub turn_text : ℕ → Federation → Doubt → List ℕ
turn_text number s doubt = items_text (transcript_along (suc number) (doubt_turn s doubt) s)

-- a turn was not done, and nothing is told of it
abbrev pub IsUndone : Federation → Doubt → Option (List ℕ) → Option (List ℕ) → (Spot → Option File) → WorldFault → Type 0
IsUndone s doubt held told file fault = (told ≡ held) × IsCutAlong (doubt_turn s doubt) s file fault

-- a turn was done, and a front of its text was put
abbrev pub IsToldShort : ℕ → Federation → Doubt → Option (List ℕ) → Option (List ℕ) → (Spot → Option File) → Type 0
IsToldShort number s doubt held told file = IsPutInPart (turn_text number s doubt) held told × AreLeftAs file (run (doubt_turn s doubt) s)

-- How a turn is done and told behind the event of this number, by the answer: it gives the number of the last event.
abbrev pub IsTurnTold : {E : Type 0} → (Kind → Type 0) → (E → EngineState → Type 0) → Federation → ℕ → Doubt → Option (List ℕ) → Option (List ℕ) → HomeView → World E → Result ℕ Status → Type 0
IsTurnTold takes stands_for s number doubt held told home w (Ok last) =
    (suc last ≡ number_along (suc number) (doubt_turn s doubt) s) × IsPut (turn_text number s doubt) held told × RepresentsWorld takes stands_for w (run (doubt_turn s doubt) s) × AreHeld home w
IsTurnTold takes stands_for s number doubt held told home w (Err status.Write) = IsToldShort number s doubt held told home.file
IsTurnTold takes stands_for s number doubt held told home w (Err status.Memory) = IsUndone s doubt held told home.file world.Memory ⊎ IsToldShort number s doubt held told home.file
IsTurnTold takes stands_for s number doubt held told home w (Err (status.Device spot)) = IsUndone s doubt held told home.file (world.Device spot)
IsTurnTold takes stands_for s number doubt held told home w (Err (status.Differs spot at kept read)) = IsUndone s doubt held told home.file (world.Differs spot at kept read)
IsTurnTold takes stands_for s number doubt held told home w (Err (status.Limit (limit.Log spot))) = IsUndone s doubt held told home.file (world.Full spot)
IsTurnTold takes stands_for s number doubt held told home w (Err _) = ⊥

-- some turns were done and told, and the next one was not done
pub record IsBrokenBehind (s : Federation) (number : ℕ) (doubts : List Doubt) (held told : Option (List ℕ)) (file : Spot → Option File) (fault : WorldFault) : Type 0 where
  pub turns : List Doubt
  pub next : Doubt
  pub behind : List Doubt
  pub parts : turns ++ next ∷ behind ≡ doubts
  pub put : IsPut (turns_text number s turns) held told
  pub cut : IsCutAlong (doubt_turn (run (resolution s turns) s) next) (run (resolution s turns) s) file fault

-- some turns were done, and a front of their text was put
pub record IsToldToPart (s : Federation) (number : ℕ) (doubts : List Doubt) (held told : Option (List ℕ)) (file : Spot → Option File) : Type 0 where
  pub turns : List Doubt
  pub behind : List Doubt
  pub parts : turns ++ behind ≡ doubts
  pub put : IsPutInPart (turns_text number s turns) held told
  pub left : AreLeftAs file (run (resolution s turns) s)

-- why not all of these doubts took their turns, or not all was told
abbrev pub AreTurnsCut : Federation → ℕ → List Doubt → Option (List ℕ) → Option (List ℕ) → (Spot → Option File) → Status → Type 0
AreTurnsCut s number doubts held told file status.Write = IsToldToPart s number doubts held told file
AreTurnsCut s number doubts held told file status.Memory = IsBrokenBehind s number doubts held told file world.Memory ⊎ IsToldToPart s number doubts held told file
AreTurnsCut s number doubts held told file (status.Device spot) = IsBrokenBehind s number doubts held told file (world.Device spot)
AreTurnsCut s number doubts held told file (status.Differs spot at kept read) = IsBrokenBehind s number doubts held told file (world.Differs spot at kept read)
AreTurnsCut s number doubts held told file (status.Limit (limit.Log spot)) = IsBrokenBehind s number doubts held told file (world.Full spot)
AreTurnsCut s number doubts held told file _ = ⊥

-- how the turns of these doubts are done and told
abbrev pub AreTurnsTold : {E : Type 0} → (Kind → Type 0) → (E → EngineState → Type 0) → Federation → ℕ → List Doubt → Option (List ℕ) → Option (List ℕ) → HomeView → World E → Result (Unit {0}) Status → Type 0
AreTurnsTold takes stands_for s number doubts held told home w (Ok u) = IsPut (turns_text number s doubts) held told × RepresentsWorld takes stands_for w (run (resolution s doubts) s) × AreHeld home w
AreTurnsTold takes stands_for s number doubts held told home w (Err why) = AreTurnsCut s number doubts held told home.file why

-- every doubt took its turn, and those that remain were told
pub record AreAllTold (s : Federation) (number : ℕ) (held told : Option (List ℕ)) (file : Spot → Option File) : Type 0 where
  pub doubts : List Doubt
  pub are : AreListed s doubts
  pub remaining : List Doubt
  pub remain : AreListed (run (resolution s doubts) s) remaining
  pub put : IsPut (turns_text number s doubts ++ doubts_text remaining) held told
  pub left : AreLeftAs file (run (resolution s doubts) s)

-- Where that was cut off: before the doubts were listed, in a turn or in its text, or in the lines of those that remain.
pub data IsResolvedShort (s : Federation) (number : ℕ) (held told : Option (List ℕ)) (file : Spot → Option File) (why : Status) : Type 0 where
  Unlisted : why ≡ status.Memory → told ≡ held → AreLeftAs file s → IsResolvedShort s number held told file why
  InTurns : (doubts : List Doubt) → AreListed s doubts → AreTurnsCut s number doubts held told file why → IsResolvedShort s number held told file why
  InLines : (doubts remaining : List Doubt) → AreListed s doubts → (remaining ≡ []) ⊎ AreListed (run (resolution s doubts) s) remaining → IsPutInPart (turns_text number s doubts ++ doubts_text remaining) held told →
      AreLeftAs file (run (resolution s doubts) s) → (why ≡ status.Write) ⊎ (why ≡ status.Memory) → IsResolvedShort s number held told file why

-- how the doubts of a federation are resolved, by the answer
abbrev pub AreResolved : Federation → ℕ → Option (List ℕ) → Option (List ℕ) → (Spot → Option File) → Result (Unit {0}) Status → Type 0
AreResolved s number held told file (Ok u) = AreAllTold s number held told file
AreResolved s number held told file (Err why) = IsResolvedShort s number held told file why
