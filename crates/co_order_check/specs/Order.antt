-- Orders of the committed transactions.
use Rattle.std.specs.Prelude.{ℕ, ◌≡◌, ◌<◌, List, [], ◌∷◌, length, map, reverse, slice_index, slice_index_or}
use Rattle.co_check.specs.declared.client.Answered.{Answered}
use Rattle.co_check.specs.declared.client.Committed.{Committed}
use Rattle.co_check.specs.Serial.{IsSerial}

-- a list of places in which each place below a count stands once, and no other
pub record IsPermuted (count : ℕ) (order : List ℕ) : Type 0 where
  pub below : (p : ℕ) → p < length order → slice_index order p < count
  pub each : (t : ℕ) → t < count → (p : ℕ) × (p < length order) × (slice_index order p ≡ t)
  pub once : (p q : ℕ) → p < length order → q < length order → slice_index order p ≡ slice_index order q → p ≡ q

-- what stands at no place
abbrev pub no_one : Committed
no_one = record { txn = 0; told = [] }

abbrev pub at : List Committed → ℕ → Committed
at ds t = slice_index_or ds t no_one

-- the operations of the transaction at a place, the first one first
abbrev pub operations : List Committed → ℕ → List Answered
operations ds t = reverse (at ds t).told

-- the transactions in the order of these places, the first one first
abbrev pub in_order : List Committed → List ℕ → List Committed
in_order ds order = map (λ t. at ds t) order

-- the places are an order of the transactions in which these run serially
pub record IsSerialOrder (ds : List Committed) (order : List ℕ) : Type 0 where
  pub permuted : IsPermuted (length ds) order
  pub serial : IsSerial (reverse (in_order ds order))

-- in no order do they
abbrev pub HasNoOrder : List Committed → Type 0
HasNoOrder ds = (order : List ℕ) → IsSerialOrder ds order → ⊥
