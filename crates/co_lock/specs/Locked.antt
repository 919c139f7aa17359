-- For which plain data a store with its locks stands.
use Rattle.std.specs.Prelude.{ℕ, ◌≡◌, ◌≢◌, true, false, List, if◌then◌else◌, None, Some}
use Rattle.std.specs.FinMap.{get}
use Rattle.std.specs.List.{list_any}
use Rattle.co_state.specs.Keys.{same_key, reads_key}
use Rattle.co_store.specs.Images.{slot_of}
use Rattle.co_store.specs.StoreState.{StoreState, images_of}
use Rattle.co_store.specs.Shown as store
use Rattle.co_locktab.specs.Locks.{Locks, read_by, written_by}
use Rattle.co_locktab.specs.Shown as table
use Rattle.co_lock.specs.LockedState.{LockedState}
use Rattle.co_lock.specs.declared.locked_store.LockedStore.{LockedStore}

pub record IsLocked (place : LockedStore) (g : LockedState) : Type 0 where
  pub kept : StoreState
  pub kept_shown : store.Shows place.store kept
  pub held : Locks
  pub held_shown : table.Shows place.locks held
  -- the locks are those of what was written and read
  pub writes_held : (u : ℕ) (q : List ℕ) → list_any (same_key q) (written_by held u) ≡ g.wrote u q
  pub reads_held : (u : ℕ) (q : List ℕ) → reads_key (read_by held u) q ≡ g.reads u q
  -- each written key has what is installed there as its image
  pub images_are : (u : ℕ) (q : List ℕ) → get (images_of kept u) q ≡ (if g.wrote u q then Some (slot_of (get g.installed q)) else None)
  -- in place stands what was written, and else what is installed
  pub written_are : (u : ℕ) (q : List ℕ) → g.wrote u q ≡ true → get kept.now q ≡ g.value u q
  pub clean_are : (q : List ℕ) → ((u : ℕ) → g.wrote u q ≡ false) → get kept.now q ≡ get g.installed q
  pub apart : (u v : ℕ) (q : List ℕ) → u ≢ v → g.wrote u q ≡ true → g.wrote v q ≡ false
