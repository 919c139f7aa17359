-- A log that was attached, from all that its attaching says.
use Rattle.std.proofs.Common.{◌≡◌, ℕ, Bool, true, false, List, Option, Result, Ok, Err, IfOk, subst, sym, ◌∙◌}
use Rattle.std.specs.Prelude.{OnOk, IsErrOf}
use Rattle.co_base.specs.Nodes.{IsValidNode}
use Rattle.co_base.specs.declared.node.Node.{Node}
use Rattle.co_disk.specs.DiskView.{DiskView}
use Rattle.co_outside.specs.declared.spot.Spot.{Spot}
use Rattle.co_outside.specs.Home.{File, HomeView}
use Rattle.co_base.specs.Limits.{most_log_bytes}
use Rattle.co_log.specs.declared.fault.LogFault.{LogFault}
use Rattle.co_log.specs.declared.fault.LogFault.TheVariants as log
use Rattle.co_log.specs.Attaching.{IsAttached, IsOfAttach, IsToldAs, IsWithin}
use Rattle.co_log.specs.Fresh.{IsFresh}
use Rattle.co_log.specs.LogView.{LogView, IsHeld, spot_of}
use Rattle.co_log.proofs.Ordered.{attached_unarmed}
use Rattle.co_opening.specs.Kept.{IsOwnLog}
use Rattle.co_durable.specs.declared.fault.WorldFault.{WorldFault}
use Rattle.co_durable.specs.declared.fault.WorldFault.TheVariants.{Device, Differs, InUse, Bad, Full, Count, Old, Memory}
use Rattle.co_opening.specs.Attached.{IsAttachedTo, IsOfAttaching, IsUnattached, IsFirstUnattached}
use Rattle.co_opening.specs.InUse.{IsUnusedNode}

pub attached_to : (file : Spot → Option File) (resume : Bool) (node : Node) (log : LogView) → IsValidNode node
    → (a : DiskView) × (b : DiskView) × IsToldAs (spot_of node 0) (file (spot_of node 0)) a × IsToldAs (spot_of node 1) (file (spot_of node 1)) b × IsAttached node a b log
    → (resume ≡ false → IsUnusedNode file node) → (resume ≡ false → IsFresh log) → IsWithin most_log_bytes (file (spot_of node 0)) × IsWithin most_log_bytes (file (spot_of node 1)) → IsAttachedTo file resume node log
attached_to file resume node log valid told none fresh within = record {
  valid = valid;
  is = record { a = told.0; b = told.1; file_a = told.2; file_b = told.3; within_a = within.0; within_b = within.1; attached = told.4 };
  fresh = fresh;
  unused = none;
}

pub attached_result : (file : Spot → Option File) (resume : Bool) (node : Node) (result : Result LogView LogFault) → IsValidNode node
    → IfOk result (λ log. (a : DiskView) × (b : DiskView) × IsToldAs (spot_of node 0) (file (spot_of node 0)) a × IsToldAs (spot_of node 1) (file (spot_of node 1)) b × IsAttached node a b log)
    → (resume ≡ false → OnOk result (IsWithin 1 (file (spot_of node 0)) × IsWithin 1 (file (spot_of node 1)))) → (resume ≡ false → IfOk result IsFresh)
    → OnOk result (IsWithin most_log_bytes (file (spot_of node 0)) × IsWithin most_log_bytes (file (spot_of node 1))) → IfOk result (IsAttachedTo file resume node)
attached_result file resume node (Ok log) valid told none fresh within = attached_to file resume node log valid told none fresh within
attached_result file resume node (Err e) valid told none fresh within = tt

-- and the directory keeps it
pub kept_result : (old new : HomeView) (node : Node) (result : Result LogView LogFault)
    → IfOk result (λ log. (a : DiskView) × (b : DiskView) × IsToldAs (spot_of node 0) (old.file (spot_of node 0)) a × IsToldAs (spot_of node 1) (old.file (spot_of node 1)) b × IsAttached node a b log)
    → IfOk result (IsHeld new) → OnOk result (IsWithin most_log_bytes (old.file (spot_of node 0)) × IsWithin most_log_bytes (old.file (spot_of node 1)))
    → new.file (spot_of node 0) ≡ old.file (spot_of node 0) → new.file (spot_of node 1) ≡ old.file (spot_of node 1) → IfOk result (IsOwnLog new node)
kept_result old new node (Ok log) told held within same_a same_b = record {
  owned = (attached_unarmed node told.0 told.1 log told.4).0;
  kept = record {
    held = held;
    within = record { a = subst (IsWithin most_log_bytes) (sym same_a) within.0; b = subst (IsWithin most_log_bytes) (sym same_b) within.1 };
  };
}
kept_result old new node (Err e) told held within same_a same_b = tt

-- ---- a log that was not attached

module _ (file : Spot → Option File) (resume : Bool) (node : Node) (fault : LogFault) (refused : IsOfAttach node resume (file (spot_of node 0)) (file (spot_of node 1)) fault) where
  pub refused_as : (other : LogFault) → fault ≡ other → IsOfAttach node resume (file (spot_of node 0)) (file (spot_of node 1)) other
  refused_as other is = subst (IsOfAttach node resume (file (spot_of node 0)) (file (spot_of node 1))) is refused

  resumed : (other : LogFault) → fault ≡ other → resume ≡ true → IsOfAttach node true (file (spot_of node 0)) (file (spot_of node 1)) other
  resumed other is on = subst (λ (r : Bool). IsOfAttach node r (file (spot_of node 0)) (file (spot_of node 1)) other) on (refused_as other is)

  pub bad_unattached : (spot : Spot) (at : ℕ) → fault ≡ log.Bad spot at → IsUnattached file resume (Bad spot at) node
  bad_unattached spot at is = let on = (refused_as (log.Bad spot at) is).0 in (on, resumed (log.Bad spot at) is on)

  pub full_unattached : (spot : Spot) → fault ≡ log.Full spot → IsUnattached file resume (Full spot) node
  full_unattached spot is = let on = (refused_as (log.Full spot) is).0 in (on, resumed (log.Full spot) is on)

-- where logs were not attached, no other fault came
pub attaching : (file : Spot → Option File) (resume : Bool) (nodes : List Node) (fault : WorldFault) → IsFirstUnattached file resume nodes fault → IsOfAttaching fault
attaching file resume nodes (Device spot) f = tt
attaching file resume nodes (Differs spot at kept other) f = absurd f
attaching file resume nodes (InUse spot) f = tt
attaching file resume nodes (Bad spot at) f = tt
attaching file resume nodes (Full spot) f = tt
attaching file resume nodes Count f = absurd f
attaching file resume nodes (Old spot) f = absurd f
attaching file resume nodes Memory f = tt

-- no failure of the directory
abbrev pub IsNoDevice : LogFault → Type 0
IsNoDevice (log.Device spot) = ⊥
IsNoDevice _ = Unit {0}

pub not_device : {T : Type 0} (fault other : LogFault) (spot : Spot) → fault ≡ other → IsNoDevice other → IsErrOf {T = T} (Err fault) (log.Device spot) → ⊥
not_device fault other spot is none told = subst IsNoDevice (sym is ∙ (let e : fault ≡ log.Device spot = cc in e)) none
