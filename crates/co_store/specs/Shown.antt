-- For which plain states a store stands.
use Rattle.std.specs.Prelude.{ℕ, ◌≡◌, ◌≢◌, true, false, List}
use Rattle.std.specs.FinMap.{get, contains_key}
use Rattle.co_state.specs.Table.{Table}
use Rattle.co_store.specs.declared.store.Store.{Store}
use Rattle.co_store.specs.Images.{Images, value_in}
use Rattle.co_store.specs.StoreState.{StoreState, images_of}

pub record AreShown (slots : Images) (undos : Table Images) (s : StoreState) : Type 0 where
  -- each slot has the value of its record
  pub values_are : (key : List ℕ) → get s.now key ≡ value_in (get slots key)
  pub undos_are : undos ≡ s.undos
  -- a key that a transaction wrote has a slot, and no other transaction wrote there
  pub slots_stand : (t : ℕ) (key : List ℕ) → contains_key (images_of s t) key ≡ true → contains_key slots key ≡ true
  pub are_apart : (t u : ℕ) (key : List ℕ) → u ≢ t → contains_key (images_of s t) key ≡ true → contains_key (images_of s u) key ≡ false

abbrev pub Shows : Store → StoreState → Type 0
Shows store s = AreShown store.slots store.undos s
