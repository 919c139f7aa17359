-- The write sets that backward validation still needs: those of the installs that came after the oldest read
-- of an active transaction.
use Rattle.std.specs.Prelude.{ℕ, List, [], ◌∷◌, map, drop, reverse, Option, None, Some}
use Rattle.std.specs.FinMap.{entries}
use Rattle.co_base.specs.Span.{Span}
use Rattle.co_base.specs.declared.written.Written.{Written}
use Rattle.co_state.specs.declared.engine_state.EngineState.{EngineState}
use Rattle.co_state.specs.declared.engine_state.Install.{Install}
use Rattle.co_state.specs.declared.engine_state.Operation.{Operation}
use Rattle.co_state.specs.Changes.{span_read}
use Rattle.co_state.specs.Table.{lesser}

-- the stamp of an operation that reads is the lesser of the stamps
abbrev pub with_stamp : Option Span → ℕ → Option ℕ → Option ℕ
with_stamp None stamp others = others
with_stamp (Some span) stamp others = lesser (Some stamp) others

-- the least number of installs that a read among the operations saw; none where nothing was read
abbrev pub oldest_stamp : List Operation → Option ℕ
oldest_stamp [] = None
oldest_stamp (o ∷ os) = with_stamp (span_read o.op) o.stamp (oldest_stamp os)

-- the same of the operations of some transactions
abbrev pub oldest_of : List (ℕ × List Operation) → Option ℕ
oldest_of [] = None
oldest_of (e ∷ es) = lesser (oldest_stamp e.1) (oldest_of es)

abbrev pub oldest_read : EngineState → Option ℕ
oldest_read b = oldest_of (entries b.active)

-- the write sets of all installs, in order of installation
abbrev pub installed_writes : List Install → List (List Written)
installed_writes is = map (λ i. i.writes) (reverse is)

-- those after the first so many; none where nothing was read
abbrev pub writes_after : Option ℕ → List (List Written) → List (List Written)
writes_after None wss = []
writes_after (Some stamp) wss = drop stamp wss

abbrev pub old_writes : EngineState → List (List Written)
old_writes b = writes_after (oldest_read b) (installed_writes b.installed)
