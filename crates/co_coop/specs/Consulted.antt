-- A consultation: who may ask whom, what is done, and what a fault leaves of it.
use Rattle.std.specs.Prelude.{ℕ, suc, Bool, true, false, ◌≡◌, ◌≢◌, ◌<◌, ◌⊎◌, List, [], ◌∷◌, ◌++◌, Option, None, Result, Ok, Err}
use Rattle.co_base.specs.declared.head.Kind.{Kind}
use Rattle.co_durable.specs.declared.fault.WorldFault.{WorldFault}
use Rattle.co_durable.specs.declared.fault.WorldFault.TheVariants as world
use Rattle.co_message.specs.declared.item.Item.{Item}
use Rattle.co_outside.specs.Home.{File, HomeView, IsClean}
use Rattle.co_outside.specs.declared.spot.Spot.{Spot}
use Rattle.co_plain.specs.Decisions.{BelongsTo}
use Rattle.co_plain.specs.Federation.{Federation}
use Rattle.co_plain.specs.Member.{coord_of}
use Rattle.co_plain.specs.Quiet.{IsMember}
use Rattle.co_plain.specs.Runs.{run}
use Rattle.co_plain.specs.Step.{step, disarmed}
use Rattle.co_plain.specs.declared.happening.Happening.{Happening}
use Rattle.co_plain.specs.declared.standing.Standing.{Standing}
use Rattle.co_plain.specs.declared.standing.Standing.TheVariants.{IsActive, IsVoted, IsInstalled, IsAbsent}
use Rattle.co_state.specs.declared.engine_state.EngineState.{EngineState}
use Rattle.co_state.specs.Table.{holds}
use Rattle.co_cluster.specs.Left.{AreLeftAs, AreLeftBy}
use Rattle.co_cluster.specs.declared.doubting.Doubt.{Doubt}
use Rattle.co_world.specs.Standing.{RepresentsWorld}
use Rattle.co_world.specs.declared.world.World.{World}
use Rattle.co_law_coop.specs.declared.told.Told.{Told}
use Rattle.co_law_coop.specs.declared.told.Told.TheVariants as told
use Rattle.co_law_coop.specs.Consulting.{told_at_turn, consultation, done_for, transcript_along}
use Rattle.co_coop.specs.declared.consulting.Consulted.{Consulted}

-- One member of the head may ask another about a transaction, whose coordinator the doubt names.
pub record MayConsult (s : Federation) (doubt : Doubt) (other : ℕ) : Type 0 where
  pub asker : IsMember s doubt.member
  pub asked : IsMember s other
  pub apart : doubt.member ≢ other
  pub home : BelongsTo s doubt.txn doubt.coord

-- what is told, and what is done for it
abbrev pub told_of_doubt : Federation → Doubt → ℕ → Told
told_of_doubt s doubt other = told_at_turn s doubt.txn doubt.member doubt.coord other

abbrev pub consultation_of : Federation → Doubt → ℕ → List Happening
consultation_of s doubt other = consultation s doubt.txn doubt.member doubt.coord other

abbrev pub abort_happenings : Federation → Doubt → ℕ → List Happening
abort_happenings s doubt other = done_for told.Abort (s.member other) doubt.txn doubt.member other

abbrev pub is_voted_there : Standing → Bool
is_voted_there IsActive = false
is_voted_there IsVoted = true
is_voted_there IsInstalled = false
is_voted_there IsAbsent = false

abbrev pub is_active_there : Standing → Bool
is_active_there IsActive = true
is_active_there IsVoted = false
is_active_there IsInstalled = false
is_active_there IsAbsent = false

-- the transaction is voted at the member, which is up, for the coordinator that the doubt names
pub record IsVotedFor (s : Federation) (doubt : Doubt) : Type 0 where
  pub own : IsMember s doubt.member
  pub up : (s.member doubt.member).up ≡ true
  pub voted : holds (s.member doubt.member).engine.voted doubt.txn ≡ true
  pub coord : coord_of (s.member doubt.member) doubt.txn ≡ doubt.coord

-- A fault came in one of these happenings: the files have what was left of it, and a file is said to be too long only where it would leave a log that
-- is. Behind the last there can only be no memory; then the files have what all left.
abbrev pub IsCutAlong : List Happening → Federation → (Spot → Option File) → WorldFault → Type 0
IsCutAlong [] s file fault = AreLeftAs file s × (fault ≡ world.Memory)
IsCutAlong (h ∷ hs) s file fault = AreLeftBy file s (step s h).state (step (disarmed s) h).state fault ⊎ IsCutAlong hs (step s h).state file fault

-- A file that differs from what is kept of it is one that the directory did not tell before; and where a file would be too long, each that was clean is so.
abbrev pub FaultLeaves : HomeView → HomeView → WorldFault → Type 0
FaultLeaves old new (world.Differs spot at kept read) = (old.file spot ≡ None) × (spot.part < 2)
FaultLeaves old new (world.Full spot) = (s : Spot) → IsClean old s → IsClean new s
FaultLeaves old new _ = Unit {0}

-- how a call ends that does these happenings and tells them from this number on, by its answer
abbrev pub DoesAlong : {A E : Type 0} → (Kind → Type 0) → (E → EngineState → Type 0) → Federation → ℕ → List Happening → List Item → List Item → World E → (Spot → Option File) → Result A WorldFault → Type 0
DoesAlong takes stands_for s number hs old new w file (Ok a) = (new ≡ old ++ transcript_along number hs s) × RepresentsWorld takes stands_for w (run hs s)
DoesAlong takes stands_for s number hs old new w file (Err fault) = IsCutAlong hs s file fault

-- It was told by the table; the items are those of what is done for it, with the numbers that follow; and the federation stands for what that leaves.
pub record IsConsulted {E : Type 0} (takes : Kind → Type 0) (stands_for : E → EngineState → Type 0) (s : Federation) (number : ℕ) (doubt : Doubt) (other : ℕ) (w : World E) (consulted : Consulted) : Type 0 where
  pub told_is : consulted.told ≡ told_of_doubt s doubt other
  pub items_are : consulted.items ≡ transcript_along (suc number) (consultation_of s doubt other) s
  pub stands : RepresentsWorld takes stands_for w (run (consultation_of s doubt other) s)

-- how a consultation ends, by its answer
abbrev pub ConsultsAs : {E : Type 0} → (Kind → Type 0) → (E → EngineState → Type 0) → Federation → ℕ → Doubt → ℕ → World E → (Spot → Option File) → Result Consulted WorldFault → Type 0
ConsultsAs takes stands_for s number doubt other w file (Ok consulted) = IsConsulted takes stands_for s number doubt other w consulted
ConsultsAs takes stands_for s number doubt other w file (Err fault) = IsCutAlong (consultation_of s doubt other) s file fault
