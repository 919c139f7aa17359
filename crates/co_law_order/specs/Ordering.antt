-- Serializability of a trace, by its precedences (Bernstein, Hadzilacos and Goodman 1987: the serialization graph).
use Rattle.std.specs.Prelude.{ℕ, true, false, ◌≡◌, ◌≢◌, List, [], ◌∷◌}
use Rattle.co_base.specs.declared.head.Kind.{Kind}
use Rattle.co_plain.specs.Numbers.{has_number}
use Rattle.co_plain.specs.CommitmentOrder.{Trace, decisions_in, Precedes, StandsBefore}

-- whoever precedes another at some member, both decided, stands before it in this order
abbrev pub IsSerializableIn : List ℕ → List Kind → List Trace → Type 0
IsSerializableIn order kinds trace =
    (t u m : ℕ) → t ≢ u → has_number (decisions_in trace) t ≡ true → has_number (decisions_in trace) u ≡ true →
    Precedes kinds trace t u m → StandsBefore order t u

-- commitment ordering, of a trace: the order of decisions is such an order
abbrev pub IsOrderedTrace : List Kind → List Trace → Type 0
IsOrderedTrace kinds trace = IsSerializableIn (decisions_in trace) kinds trace

-- each number once
abbrev pub StandsOnce : List ℕ → Type 0
StandsOnce [] = Unit {0}
StandsOnce (t ∷ ts) = (has_number ts t ≡ false) × StandsOnce ts

-- some order of distinct numbers serializes the trace
pub record IsSerializable (kinds : List Kind) (trace : List Trace) : Type 0 where
  pub order : List ℕ
  pub once : StandsOnce order
  pub serial : IsSerializableIn order kinds trace
