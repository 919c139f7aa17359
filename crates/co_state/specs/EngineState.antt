-- The state of an engine, read: the records after some installs, and what each undecided transaction
-- read and wrote. A transaction is undecided while it is active or voted.
use Rattle.std.specs.Prelude.{ℕ, Bool, ◌||◌, List, [], ◌∷◌, length, nat_lt, if◌then◌else◌, Option, None, Some}
use Rattle.co_serial.specs.Records.{Records, with_changes}
use Rattle.co_state.specs.declared.engine_state.EngineState.{EngineState}
use Rattle.co_state.specs.declared.engine_state.Install.{Install}
use Rattle.co_state.specs.declared.engine_state.Operation.{Operation}
use Rattle.co_state.specs.declared.engine_state.Sets.{Sets}
use Rattle.co_state.specs.declared.engine_state.Vote.{Vote}
use Rattle.co_state.specs.Table.{look, holds}
use Rattle.co_state.specs.Changes.{sets_of}

-- every install laid over the base; the newest stands first in the list
abbrev pub records_now : Records → List Install → Records
records_now base [] = base
records_now base (i ∷ is) = with_changes (records_now base is) i.writes

-- the first so many installs laid over the base
abbrev pub records_at : Records → List Install → ℕ → Records
records_at base [] count = base
records_at base (i ∷ is) count = if nat_lt (length is) count then records_now base (i ∷ is) else records_at base is count

-- the installed records
abbrev pub installed_records : EngineState → Records
installed_records b = records_now b.base b.installed

-- the operations of an active transaction, newest first; none of one that is absent
abbrev pub operations_in : Option (List Operation) → List Operation
operations_in None = []
operations_in (Some os) = os

abbrev pub operations_of : EngineState → ℕ → List Operation
operations_of b t = operations_in (look b.active t)

-- what an undecided transaction read and wrote; nothing where it is absent
abbrev pub sets_in : Option Vote → List Operation → Sets
sets_in None os = sets_of os
sets_in (Some vote) os = vote.sets

abbrev pub sets_at : EngineState → ℕ → Sets
sets_at b t = sets_in (look b.voted t) (operations_of b t)

abbrev pub is_undecided : EngineState → ℕ → Bool
is_undecided b t = holds b.active t || holds b.voted t
