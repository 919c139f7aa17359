-- The command `run`: how it ends, over what is seen of the source, the sink and the directory.
use Rattle.std.specs.Prelude.{ℕ, Bool, ◌≡◌, ◌⊎◌, List, length, Option, Some}
use Rattle.co_base.specs.declared.head.Head.{Head}
use Rattle.co_opening.specs.Rest.{IsFileOf}
use Rattle.co_outside.specs.Home.{File, HomeView, IsClean}
use Rattle.co_outside.specs.declared.spot.Spot.{Spot}
use Rattle.co_top.specs.Complete.{IsUnhindered, IsRefusedExactly}
use Rattle.co_top.specs.Front.{IsHeaded}
use Rattle.co_top.specs.Ran.{IsRunEnd}
use Rattle.co_top.specs.Views.{SourceView, SinkView, TellsRead, TellsWrite, TellsDevice}
use Rattle.co_top.specs.declared.status.Status.{Status}
use Rattle.co_top.specs.declared.status.Status.TheVariants as status

-- a file of a node that the head of the input does not have is as it was
abbrev pub AreOthersKept : List ℕ → (Spot → Option File) → (Spot → Option File) → Type 0
AreOthersKept input old new = (s : Spot) → ((head : Head) (text : List ℕ) → IsHeaded input head text → IsFileOf (length head.kinds) head.coords s → ⊥) → new s ≡ old s

-- the run ended between two events: what it told is synced
abbrev pub IsBetween : Status → Type 0
IsBetween (status.Device spot) = ⊥
IsBetween (status.Differs spot at kept read) = ⊥
IsBetween status.Memory = ⊥
IsBetween _ = Unit {0}

-- How a run ends. Over a source and a sink that tell what they have: what was done and told, and why it ended; no file of another node is changed; where the logs are refused, that is told; and
-- where nothing hinders it, all is done, or there is no memory. A file that was clean is clean again, but after a fault within an event.
pub record RunsAs {H : Type 0} (seen : H → HomeView) (resume : Bool) (directory : List ℕ) (source_old source_new : SourceView) (out_old out_new : SinkView) (old new : H) (ended : Status) : Type 0 where
  pub end : (input held : List ℕ) → source_old.left ≡ Some input → out_old.told ≡ Some held → IsRunEnd seen resume input source_new.left held out_new.told old new ended
  pub others : (input : List ℕ) → source_old.left ≡ Some input → AreOthersKept input (seen old).file (seen new).file
  pub refused : (input held : List ℕ) → source_old.left ≡ Some input → out_old.told ≡ Some held → IsRefusedExactly resume input (seen old).file ended
  pub complete : (input held : List ℕ) → source_old.left ≡ Some input → out_old.told ≡ Some held →
      IsUnhindered resume input (seen old).file source_old.faults source_new.faults out_old.faults out_new.faults (seen old).faults (seen new).faults → (ended ≡ status.Done) ⊎ (ended ≡ status.Memory)
  pub clean : IsBetween ended → (s : Spot) → IsClean (seen old) s → IsClean (seen new) s
  pub entered : ended ≡ status.Done → (seen new).entered ≡ Some directory
  pub read : TellsRead source_old source_new ended
  pub write : TellsWrite out_old out_new ended
  pub device : TellsDevice (seen old) (seen new) ended
