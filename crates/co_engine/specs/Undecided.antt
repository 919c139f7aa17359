-- The undecided transactions of an engine, as the roll that it keeps of them.
use Rattle.std.specs.Prelude.{ℕ, ◌≡◌, true, false, not, List, map, filter, if◌then◌else◌, Option, None, Some}
use Rattle.std.specs.Option.{option_map}
use Rattle.co_base.specs.declared.op.Op.{Op}
use Rattle.co_base.specs.declared.written.Written.{Written}
use Rattle.co_engine.specs.declared.undecided.Undecided.{Undecided}
use Rattle.co_state.specs.declared.engine_state.Operation.{Operation}
use Rattle.co_state.specs.declared.engine_state.Sets.{Sets}
use Rattle.co_state.specs.declared.engine_state.Vote.{Vote}
use Rattle.co_state.specs.Changes.{sets_of, no_sets, span_read, change_made, with_span, with_written}
use Rattle.co_state.specs.Effects.{joined}
use Rattle.co_state.specs.Joined.{joined_all}
use Rattle.co_state.specs.Table.{Table, look, put, without}

-- what a transaction read and wrote, with one operation more
abbrev pub grown_by : Op → Sets → Sets
grown_by op sets = record { reads = with_span (span_read op) sets.reads; writes = with_written (change_made op) sets.writes }

-- a transaction that is absent did nothing yet
abbrev pub or_nothing : Option Sets → Sets
or_nothing None = no_sets
or_nothing (Some sets) = sets

-- a transaction of a table does an operation
abbrev pub grown_at : Table Sets → ℕ → Op → Table Sets
grown_at all t op = put (without all t) t (grown_by op (or_nothing (look all t)))

-- a transaction of the roll votes
abbrev pub vote_in : Table Undecided → ℕ → Option Undecided → Table Undecided
vote_in roll t None = roll
vote_in roll t (Some e) = put roll t (record e { voted = true })

abbrev pub with_vote : Table Undecided → ℕ → Table Undecided
with_vote roll t = vote_in roll t (look roll t)

-- an active transaction that read and wrote this, and a voted one
abbrev pub active_with : Sets → Undecided
active_with sets = record { voted = false; sets = sets }

abbrev pub voted_with : Sets → Undecided
voted_with sets = record { voted = true; sets = sets }

-- a transaction that has done nothing yet stands in for an absent one
abbrev pub or_new : Option Undecided → Undecided
or_new None = active_with no_sets
or_new (Some e) = e

abbrev pub own : Table Undecided → ℕ → Undecided
own roll t = or_new (look roll t)

-- what an active transaction read and wrote
abbrev pub active_sets : Option Undecided → Option Sets
active_sets None = None
active_sets (Some e) = if e.voted then None else Some e.sets

-- what a voted transaction read and wrote
abbrev pub voted_sets : Option Undecided → Option Sets
voted_sets None = None
voted_sets (Some e) = if e.voted then Some e.sets else None

-- what is kept of a transaction stands for its operations and its vote; who asked for the vote and how many
-- operations it counts are not kept
pub record IsKept (e : Option Undecided) (os : Option (List Operation)) (vote : Option Vote) : Type 0 where
  pub sets_are : option_map sets_of os ≡ active_sets e
  pub votes_are : option_map (λ v. v.sets) vote ≡ voted_sets e

-- every change of the transactions, by key: those of voted ones over those of active ones
abbrev pub changes_kept : List (ℕ × Undecided) → List Written
changes_kept es =
    joined
    (joined_all (map (λ e. e.1.sets.writes) (filter (λ e. e.1.voted) es)))
    (joined_all (map (λ e. e.1.sets.writes) (filter (λ e. not e.1.voted) es)))
