-- How the files of a node are read again, by the answer.
use Rattle.std.specs.Prelude.{ℕ, ◌≡◌, List, Result, Ok, Err}
use Rattle.co_outside.specs.declared.spot.Spot.{Spot}
use Rattle.co_outside.specs.Home.{HomeView, HasFailed}
use Rattle.co_log.specs.LogView.{LogView}
use Rattle.co_log.specs.Rereading.{IsOfReattach, AreReread}
use Rattle.co_log.specs.declared.fault.LogFault.TheVariants as log
use Rattle.co_log.specs.declared.fault.NodeFault.{NodeFault}
use Rattle.co_log.specs.declared.fault.NodeFault.TheVariants.{Device, Differs, Full, Memory}

-- Both files gave what the log keeps of them; or the directory failed at one of them; or one of them differs, where the directory does not
-- tell it; or there was no memory. No fault was met but where the directory failed.
abbrev pub IsReread : {H : Type 0} → (H → Spot → ℕ → List ℕ → Type 0) → (H → HomeView) → LogView → H → H → Result (Unit {0}) NodeFault → Type 0
IsReread gives seen l old new (Ok done) = AreReread gives seen l old new × ((seen new).faults ≡ (seen old).faults)
IsReread gives seen l old new (Err (Device spot)) = IsOfReattach gives seen l old (log.Device spot) × HasFailed spot (seen old) (seen new)
IsReread gives seen l old new (Err (Differs spot at kept read)) = IsOfReattach gives seen l old (log.Differs spot at kept read) × ((seen new).faults ≡ (seen old).faults)
IsReread gives seen l old new (Err (Full spot)) = ⊥
IsReread gives seen l old new (Err Memory) = (seen new).faults ≡ (seen old).faults
