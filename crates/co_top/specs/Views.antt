-- What contracts see of the source and the sink of a command, and how its status tells that they failed, or the directory.
use Rattle.std.specs.Prelude.{ℕ, ◌≡◌, List, Option}
use Rattle.co_outside.specs.Faults.{HasRisen}
use Rattle.co_outside.specs.Home.{HasFailed, HomeView}
use Rattle.co_outside.specs.declared.spot.Spot.{Spot}
use Rattle.co_top.specs.declared.status.Status.{Status}
use Rattle.co_top.specs.declared.status.Status.TheVariants as status

-- what a source has left, where it tells that, and how often it has failed
pub record SourceView : Type 0 where
  pub left : Option (List ℕ)
  pub faults : ℕ

abbrev pub source_seen : Option (List ℕ) → ℕ → SourceView
source_seen left faults = record { left = left; faults = faults }

-- what a sink holds, where it tells that, and how often it has failed
pub record SinkView : Type 0 where
  pub told : Option (List ℕ)
  pub faults : ℕ

abbrev pub sink_seen : Option (List ℕ) → ℕ → SinkView
sink_seen told faults = record { told = told; faults = faults }

-- the source failed where the status says so, and only there
pub record TellsRead (old new : SourceView) (ended : Status) : Type 0 where
  pub failed : ended ≡ status.Read → HasRisen old.faults new.faults
  pub quiet : (ended ≡ status.Read → ⊥) → new.faults ≡ old.faults

-- so of the sink
pub record TellsWrite (old new : SinkView) (ended : Status) : Type 0 where
  pub failed : ended ≡ status.Write → HasRisen old.faults new.faults
  pub quiet : (ended ≡ status.Write → ⊥) → new.faults ≡ old.faults

-- so of the directory, at the file that the status names
pub record TellsDevice (old new : HomeView) (ended : Status) : Type 0 where
  pub failed : (spot : Spot) → ended ≡ status.Device spot → HasFailed spot old new
  pub quiet : ((spot : Spot) → ended ≡ status.Device spot → ⊥) → new.faults ≡ old.faults
