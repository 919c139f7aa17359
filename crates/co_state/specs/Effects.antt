-- What calls leave of the state of an engine.
use Rattle.std.specs.Prelude.{ℕ, List, [], ◌∷◌, map, if◌then◌else◌, is_some, Option, None, Some}
use Rattle.std.specs.FinMap.{empty, get, entries}
use Rattle.co_base.specs.declared.head.Kind.{Kind}
use Rattle.co_base.specs.declared.head.Kind.TheVariants.{Lock, Occ, Mv}
use Rattle.co_base.specs.declared.op.Op.{Op}
use Rattle.co_base.specs.declared.row.Row.{Row}
use Rattle.co_base.specs.declared.written.Written.{Written}
use Rattle.co_serial.specs.Records.{Records, with_change, with_changes, all_rows}
use Rattle.co_state.specs.declared.engine_state.EngineState.{EngineState}
use Rattle.co_state.specs.declared.engine_state.Operation.{Operation}
use Rattle.co_state.specs.declared.engine_state.Vote.{Vote}
use Rattle.co_state.specs.Table.{Table, no_entries, look, put, without}
use Rattle.co_state.specs.Changes.{put_change, changes_of, sets_of}
use Rattle.co_state.specs.EngineState.{installed_records, operations_of}
use Rattle.co_state.specs.ReadRule.{snapshot_of}
use Rattle.co_state.specs.LockRule.{lock_blocker}

-- an answered operation
abbrev pub with_operation : EngineState → ℕ → Op → EngineState
with_operation b t op =
    record b { active = put b.active t (record { op = op; stamp = snapshot_of b t } ∷ operations_of b t) }

-- an operation, which changes nothing where it is blocked
abbrev pub after_operation : EngineState → ℕ → Op → EngineState
after_operation b t op = if is_some (lock_blocker b t op) then b else with_operation b t op

-- an active transaction votes: its operations become what it read and wrote
abbrev pub cast_as : EngineState → ℕ → ℕ → ℕ → List Operation → EngineState
cast_as b t coord count os =
    record b { active = without b.active t; voted = put b.voted t (record { coord = coord; count = count; sets = sets_of os }) }

abbrev pub after_cast : EngineState → ℕ → ℕ → ℕ → EngineState
after_cast b t coord count = cast_as b t coord count (operations_of b t)

-- a voted transaction is committed: its writes are laid over the records
abbrev pub install_vote : EngineState → ℕ → Option Vote → EngineState
install_vote b t None = b
install_vote b t (Some vote) =
    record b { installed = record { txn = t; writes = vote.sets.writes } ∷ b.installed; voted = without b.voted t }

abbrev pub after_install : EngineState → ℕ → EngineState
after_install b t = install_vote b t (look b.voted t)

-- an undecided transaction is forgotten
abbrev pub after_drop : EngineState → ℕ → EngineState
after_drop b t = record b { active = without b.active t; voted = without b.voted t }

-- a new state: these records, these voted transactions, and no install yet
abbrev pub restored : Kind → Records → Table Vote → EngineState
restored kind records voted =
    record { kind = kind; base = records; installed = []; active = no_entries; voted = voted }

abbrev pub records_from : List Row → Records
records_from [] = empty
records_from (r ∷ rs) = with_change (records_from rs) r.key (Some r.value)

-- every change of the undecided transactions, by key
abbrev pub joined : List Written → List Written → List Written
joined [] changes = changes
joined (w ∷ ws) changes = put_change w (joined ws changes)

abbrev pub active_changes : List (ℕ × List Operation) → List Written
active_changes [] = []
active_changes (e ∷ es) = joined (changes_of e.1) (active_changes es)

abbrev pub voted_changes : List (ℕ × Vote) → List Written
voted_changes [] = []
voted_changes (e ∷ es) = joined e.1.sets.writes (voted_changes es)

abbrev pub undecided_changes : EngineState → List Written
undecided_changes b = joined (voted_changes (entries b.voted)) (active_changes (entries b.active))

-- the value that a key has in the installed records, as a change that leads back to it
abbrev pub undo_of : Records → Written → Written
undo_of records w = record { key = w.key; value = get records w.key }

-- The records as an engine keeps them, and the undos that lead back to the installed ones. A locking
-- engine writes in place; the others keep uncommitted writes apart.
abbrev pub dumped_rows : Kind → EngineState → List Row
dumped_rows Lock b = all_rows (with_changes (installed_records b) (undecided_changes b))
dumped_rows Occ b = all_rows (installed_records b)
dumped_rows Mv b = all_rows (installed_records b)

abbrev pub dumped_undos : Kind → EngineState → List Written
dumped_undos Lock b = map (undo_of (installed_records b)) (undecided_changes b)
dumped_undos Occ b = []
dumped_undos Mv b = []
