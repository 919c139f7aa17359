-- Records in place, with who wrote and who read, as plain data: what is installed, and what each undecided
-- transaction wrote over it and holds for reading.
use Rattle.std.specs.Prelude.{ℕ, Bool, false, ◌≡◌, ◌≢◌, ◌&&◌, ◌||◌, not, ◌==◌, List, [], ◌∷◌, if◌then◌else◌, Option, None}
use Rattle.std.specs.FinMap.{get}
use Rattle.co_base.specs.Span.{Span, span_has}
use Rattle.co_base.specs.declared.written.Written.{Written}
use Rattle.co_serial.specs.Records.{Records}
use Rattle.co_state.specs.Keys.{same_key}

pub record LockedState : Type 0 where
  pub installed : Records
  -- whether a transaction wrote a key, and what
  pub wrote : ℕ → List ℕ → Bool
  pub value : ℕ → List ℕ → Option (List ℕ)
  -- whether a transaction holds a key for reading
  pub reads : ℕ → List ℕ → Bool

abbrev pub of_records : Records → LockedState
of_records records = record { installed = records; wrote = λ u q. false; value = λ u q. None; reads = λ u q. false }

abbrev pub with_write : LockedState → ℕ → List ℕ → Option (List ℕ) → LockedState
with_write g t key value = record g {
  wrote = λ u q. ((u == t) && same_key key q) || g.wrote u q;
  value = λ u q. if (u == t) && same_key key q then value else g.value u q;
}

-- changes one after another, the first one first
abbrev pub with_writes : LockedState → ℕ → List Written → LockedState
with_writes g t [] = g
with_writes g t (w ∷ ws) = with_writes (with_write g t w.key w.value) t ws

abbrev pub with_read : LockedState → ℕ → Span → LockedState
with_read g t span = record g { reads = λ u q. ((u == t) && span_has span q) || g.reads u q }

abbrev pub without_reads : LockedState → ℕ → LockedState
without_reads g t = record g { reads = λ u q. not (u == t) && g.reads u q }

-- t is gone, and these records are installed
abbrev pub ended : LockedState → ℕ → Records → LockedState
ended g t records = record {
  installed = records;
  wrote = λ u q. not (u == t) && g.wrote u q;
  value = g.value;
  reads = λ u q. not (u == t) && g.reads u q;
}

-- what t sees at a key: its own write over what is installed
abbrev pub seen_by : LockedState → ℕ → List ℕ → Option (List ℕ)
seen_by g t q = if g.wrote t q then g.value t q else get g.installed q

-- no other transaction wrote the key
abbrev pub IsClear : LockedState → ℕ → List ℕ → Type 0
IsClear g t q = (u : ℕ) → u ≢ t → g.wrote u q ≡ false
