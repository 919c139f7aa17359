-- What a member holds, seen in two ways that agree: what its memory has, and what its log tells (redo and
-- undo recovery, Bernstein, Hadzilacos and Goodman 1987). Both are views, and change by the same words.
use Rattle.std.specs.Prelude.{ℕ, Bool, true, false, not, ◌&&◌, ◌==◌, nat_le, suc, List, [], ◌∷◌, if◌then◌else◌, Option, None, Some, is_none}
use Rattle.std.specs.FinMap.{empty}
use Rattle.co_base.specs.declared.head.Kind.{Kind}
use Rattle.co_record.specs.declared.record.Record.{Record}
use Rattle.co_record.specs.declared.record.Record.TheVariants as log
use Rattle.co_serial.specs.Records.{with_changes}
use Rattle.co_state.specs.declared.engine_state.EngineState.{EngineState}
use Rattle.co_state.specs.declared.engine_state.Sets.{Sets}
use Rattle.co_state.specs.declared.engine_state.Vote.{Vote}
use Rattle.co_state.specs.Table.{Table, no_entries, look, put, without, holds, least_where}
pub use Rattle.co_state.specs.Conflicts.{sets_conflict}
use Rattle.co_state.specs.EngineState.{installed_records}
use Rattle.co_state.specs.Effects.{records_from, restored}
use Rattle.co_plain.specs.declared.member_view.MemberView.{MemberView}
use Rattle.co_plain.specs.Numbers.{TxnNumber, Place}

-- a set of transactions
abbrev pub Numbers : Type 0
Numbers = Table (Unit {0})

abbrev pub with_number : Numbers → TxnNumber → Numbers
with_number numbers t = put numbers t tt

abbrev pub with_numbers : Numbers → List ℕ → Numbers
with_numbers numbers [] = numbers
with_numbers numbers (t ∷ ts) = with_numbers (with_number numbers t) ts

abbrev pub numbers_from : List ℕ → Numbers
numbers_from ts = with_numbers no_entries ts

-- A view has the installed records, the voted transactions, and the transactions that are committed here.
abbrev pub nothing_known : MemberView
nothing_known = record { records = empty; voted = no_entries; committed = no_entries }

-- a transaction voted
abbrev pub cast_in : MemberView → TxnNumber → Vote → MemberView
cast_in v t vote = record v { voted = put v.voted t vote }

-- a voted transaction was aborted
abbrev pub forget_in : MemberView → TxnNumber → MemberView
forget_in v t = record v { voted = without v.voted t }

-- a voted transaction was committed: its writes are laid over the records
abbrev pub install_in : MemberView → TxnNumber → Option Vote → MemberView
install_in v t None = v
install_in v t (Some vote) =
    record { records = with_changes v.records vote.sets.writes; voted = without v.voted t; committed = with_number v.committed t }

-- what memory has
abbrev pub view_of : EngineState → Numbers → MemberView
view_of b committed = record { records = installed_records b; voted = b.voted; committed = committed }

-- what one more record tells. The rows of a checkpoint may be dirty: its undos lead back.
abbrev pub view_with : MemberView → Record → MemberView
view_with v (log.Header node generation) = v
view_with v (log.Prepare t coord count reads writes) =
    cast_in v t (record { coord = coord; count = count; sets = record { reads = reads; writes = writes } })
view_with v (log.Commit t members) = install_in v t (look v.voted t)
view_with v (log.Abort t) = forget_in v t
view_with v (log.End t) = v
view_with v (log.Checkpoint rows undos committed) =
    record { records = with_changes (records_from rows) undos; voted = no_entries; committed = numbers_from committed }

-- what a log tells, its newest record first
abbrev pub recovered_view : List Record → MemberView
recovered_view [] = nothing_known
recovered_view (r ∷ rs) = view_with (recovered_view rs) r

-- the engine that stands for a view
abbrev pub engine_from : Kind → MemberView → EngineState
engine_from kind v = restored kind v.records v.voted

abbrev pub conflicts_with_voted : MemberView → Sets → Bool
conflicts_with_voted v sets = not (is_none (least_where (λ u vote. sets_conflict vote.sets sets) v.voted))

abbrev pub is_empty : List ℕ → Bool
is_empty [] = true
is_empty (x ∷ xs) = false

-- Which record may stand where in a member's log: behind so many records, which tell this view, in a
-- federation of so many coordinators.
abbrev pub member_allows : ℕ → Place → MemberView → Record → Bool
member_allows coords place v (log.Header node generation) = place == 0
member_allows coords place v (log.Checkpoint rows undos committed) = place == 1
member_allows coords place v (log.Prepare t coord count reads writes) =
    nat_le 1 place && not (holds v.voted t) && not (holds v.committed t) && nat_le 1 coord && nat_le coord coords
    && not (conflicts_with_voted v (record { reads = reads; writes = writes }))
member_allows coords place v (log.Commit t members) = holds v.voted t && is_empty members
member_allows coords place v (log.Abort t) = holds v.voted t
member_allows coords place v (log.End t) = false

-- the place, counted from 0, of the first record that is not allowed, behind so many records
abbrev pub first_refused_from : ℕ → Place → MemberView → List Record → Option ℕ
first_refused_from coords place v [] = None
first_refused_from coords place v (r ∷ rs) =
    if member_allows coords place v r then first_refused_from coords (suc place) (view_with v r) rs else Some place

-- of a whole log, its oldest record first
abbrev pub first_refused_at_member : ℕ → List Record → Option ℕ
first_refused_at_member coords records = first_refused_from coords 0 nothing_known records
