-- What a locking engine keeps and for which states it stands.
use Rattle.std.specs.Prelude.{ℕ, ◌≡◌, ◌≢◌, true, false, List, []}
use Rattle.std.specs.FinMap.{empty, get}
use Rattle.co_base.specs.declared.head.Kind.TheVariants.{Lock}
use Rattle.co_serial.specs.Records.{with_changes}
use Rattle.co_state.specs.declared.engine_state.EngineState.{EngineState}
use Rattle.co_state.specs.Changes.{spans_of}
use Rattle.co_state.specs.EngineState.{installed_records, operations_of, sets_at}
use Rattle.co_state.specs.Keys.{reads_key, writes_key}
use Rattle.co_state.specs.StaleRead.{stale_keys}
use Rattle.co_state.specs.Table.{look}
use Rattle.co_engine.specs.Undecided.{IsKept}
use Rattle.co_lock.specs.declared.engine.LockEngine.{LockEngine}
use Rattle.co_lock.specs.Locked.{IsLocked}
use Rattle.co_lock.specs.LockedState.{LockedState}

-- what is in place, and who holds what, is what the state says
pub record Fits (g : LockedState) (b : EngineState) : Type 0 where
  pub installed_are : g.installed ≡ installed_records b
  pub wrote_are : (u : ℕ) (q : List ℕ) → g.wrote u q ≡ writes_key (sets_at b u).writes q
  pub values_are : (u : ℕ) (q : List ℕ) → g.wrote u q ≡ true → g.value u q ≡ get (with_changes empty (sets_at b u).writes) q
  pub reads_are : (u : ℕ) (q : List ℕ) → g.reads u q ≡ reads_key (spans_of (operations_of b u)) q
  -- no undecided transaction wrote what another active one read, and nothing was installed over it
  pub readers_apart : (u v : ℕ) (q : List ℕ) → u ≢ v → g.reads u q ≡ true → g.wrote v q ≡ false
  pub fresh : (u : ℕ) → stale_keys b.installed (operations_of b u) ≡ []

pub record StandsFor (p : LockEngine) (b : EngineState) : Type 0 where
  pub kind_is : b.kind ≡ Lock
  pub each : (t : ℕ) → IsKept (look p.roll t) (look b.active t) (look b.voted t)
  pub place : LockedState
  pub locked : IsLocked p.place place
  pub fits : Fits place b
