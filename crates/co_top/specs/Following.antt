-- How a schedule is followed to its end, over fresh logs in a directory in memory, and how a command ends that writes of that end.
use Rattle.std.specs.Prelude.{ℕ, false, ◌≡◌, ◌<◌, ◌⊎◌, List, [], ◌++◌, length, take, Option, None, Some, Result, Ok, Err}
use Rattle.co_base.specs.declared.head.Head.{Head}
use Rattle.co_base.specs.declared.head.Kind.{Kind}
use Rattle.co_outside.specs.declared.spot.Spot.{Spot}
use Rattle.co_outside.specs.Faults.{HasRisen}
use Rattle.co_outside.specs.Home.{File, HomeView, empty_file}
use Rattle.co_plain.specs.Federation.{Federation}
use Rattle.co_state.specs.declared.engine_state.EngineState.{EngineState}
use Rattle.co_world.specs.Standing.{RepresentsWorld}
use Rattle.co_world.specs.declared.world.World.{World}
use Rattle.co_top.specs.Complete.{IsSchedule}
use Rattle.co_top.specs.Front.{IsHeadFault, IsLineFault}
use Rattle.co_top.specs.Played.{IsOver}
use Rattle.co_top.specs.Ran.{Ran, start_of, end_of, IsAtLimit, IsOutgrown}
use Rattle.co_top.specs.Sights.{SeesIf}
use Rattle.co_top.specs.Views.{SourceView, SinkView, TellsRead, TellsWrite}
use Rattle.co_top.specs.declared.reader.Ask.{Ask}
use Rattle.co_top.specs.declared.reader.Looked.{Looked}
use Rattle.co_top.specs.declared.status.LimitKind.TheVariants as limit
use Rattle.co_top.specs.declared.status.Status.{Status}
use Rattle.co_top.specs.declared.status.Status.TheVariants as status

-- The lines of the input that were done over the files of a directory in which nothing was.
pub record RanFresh (input : List ℕ) : Type 0 where
  pub file : Spot → Option File
  pub empty : (s : Spot) → s.part < 2 → file s ≡ Some empty_file
  pub ran : Ran false input file

-- Every line was done, the federation stands for what they leave, and the reader has seen this, where there is one.
pub record HasReached {E : Type 0} (takes : Kind → Type 0) (stands_for : E → EngineState → Type 0) (input : List ℕ) (ask : Option Ask) (w : World E) (seen : Looked) : Type 0 where
  pub fresh : RanFresh input
  pub whole : fresh.ran.rest ≡ []
  pub stands : RepresentsWorld takes stands_for w (end_of fresh.ran)
  pub sees : SeesIf (length fresh.ran.head.kinds) (start_of fresh.ran) fresh.ran.events ask seen

-- why the next line was not done
abbrev pub IsHalt : {input : List ℕ} → RanFresh input → Status → Type 0
IsHalt f (status.Limit limit.Transactions) = IsAtLimit f.ran
IsHalt f (status.Limit (limit.Log spot)) = IsOutgrown f.ran spot
IsHalt f ended = IsLineFault f.ran.head (length f.ran.events) f.ran.rest ended

-- The head is none, or a line behind it was not done.
pub data IsUnreached (input : List ℕ) (ended : Status) : Type 0 where
  NoHead : IsHeadFault input ended → IsUnreached input ended
  Halted : (fresh : RanFresh input) → IsHalt fresh ended → IsUnreached input ended

-- the statuses of an event over a directory that tells its files and does not fail
abbrev pub IsOfEvent : Status → Type 0
IsOfEvent (status.Limit limit.Transactions) = Unit {0}
IsOfEvent (status.Limit (limit.Log spot)) = Unit {0}
IsOfEvent status.Memory = Unit {0}
IsOfEvent _ = ⊥

-- the statuses of a schedule over such a directory
abbrev pub IsOfSchedule : Status → Type 0
IsOfSchedule (status.Schedule line what) = Unit {0}
IsOfSchedule status.Read = Unit {0}
IsOfSchedule (status.Limit what) = Unit {0}
IsOfSchedule status.Memory = Unit {0}
IsOfSchedule _ = ⊥

-- How the lines behind a head end that nothing is told of: at the end of the text the reader has seen this, where there is one.
abbrev pub IsFollowed : {E : Type 0} → (Kind → Type 0) → (E → EngineState → Type 0) → Head → Federation → Option (List ℕ) → Option (List ℕ) → HomeView → World E → Option Ask → Looked → Result ℕ Status → Type 0
IsFollowed takes stands_for head s0 text now home w ask seen (Ok number) =
    (over : IsOver takes stands_for head s0 text now None None home w (Ok number)) × SeesIf (length head.kinds) s0 over.0.events ask seen
IsFollowed takes stands_for head s0 text now home w ask seen (Err why) = IsOver takes stands_for head s0 text now None None home w (Err why)

-- ---- a command that follows a schedule, and writes one text at its end

-- How the command ends, over an input and a sink that are told: the text of what was found at the end was written whole, or a front of it where the sink failed or there was no memory; or nothing was,
-- since the head is none, a line behind it was not done, the source failed or there was no memory.
pub data IsFollowedEnd (input : List ℕ) (Has : List ℕ → Type 0) (text_of : (i : List ℕ) → Has i → List ℕ) (held : List ℕ) (told : Option (List ℕ)) (ended : Status) : Type 0 where
  Written : (h : Has input) → told ≡ Some (held ++ text_of input h) → ended ≡ status.Done → IsFollowedEnd input Has text_of held told ended
  CutOff : (h : Has input) (count : ℕ) → told ≡ Some (held ++ take count (text_of input h)) → (ended ≡ status.Write) ⊎ (ended ≡ status.Memory) → IsFollowedEnd input Has text_of held told ended
  Unwritten : told ≡ Some held → IsUnreached input ended → IsFollowedEnd input Has text_of held told ended

-- the statuses of such a command
abbrev pub IsOfFollowed : Status → Type 0
IsOfFollowed status.Done = Unit {0}
IsOfFollowed (status.Schedule line what) = Unit {0}
IsOfFollowed status.Read = Unit {0}
IsOfFollowed status.Write = Unit {0}
IsOfFollowed (status.Limit what) = Unit {0}
IsOfFollowed status.Memory = Unit {0}
IsOfFollowed _ = ⊥

-- The input is a schedule, neither the source nor the sink failed, and over fresh logs no line of it would leave a log too long or begin one transaction too many.
pub record IsUnstopped (input : List ℕ) (source_old source_new out_old out_new : ℕ) : Type 0 where
  pub schedule : IsSchedule input
  pub source : HasRisen source_old source_new → ⊥
  pub out : HasRisen out_old out_new → ⊥
  pub room : (fresh : RanFresh input) (spot : Spot) → IsOutgrown fresh.ran spot → ⊥
  pub few : (fresh : RanFresh input) → IsAtLimit fresh.ran → ⊥

-- How the command ends, over what is seen of the source and the sink; and where nothing hinders it, it is done, or there is no memory.
pub record FollowsAs (Has : List ℕ → Type 0) (text_of : (i : List ℕ) → Has i → List ℕ) (source_old source_new : SourceView) (out_old out_new : SinkView) (ended : Status) : Type 0 where
  pub end : (input held : List ℕ) → source_old.left ≡ Some input → out_old.told ≡ Some held → IsFollowedEnd input Has text_of held out_new.told ended
  pub complete : (input held : List ℕ) → source_old.left ≡ Some input → out_old.told ≡ Some held →
      IsUnstopped input source_old.faults source_new.faults out_old.faults out_new.faults → (ended ≡ status.Done) ⊎ (ended ≡ status.Memory)
  pub read : TellsRead source_old source_new ended
  pub write : TellsWrite out_old out_new ended
