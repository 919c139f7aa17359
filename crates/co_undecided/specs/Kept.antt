-- What is kept of each undecided transaction beside its engine and the index.
use Rattle.std.specs.Prelude.{ℕ, Bool, true, false, nat_lt, List, [], ◌∷◌, ◌++◌, length, Option, None, Some}
use Rattle.co_state.specs.declared.engine_state.EngineState.{EngineState}
use Rattle.co_pairs.specs.declared.prepared.Prepared.{Prepared}
use Rattle.co_state.specs.declared.engine_state.Operation.{Operation}
use Rattle.co_state.specs.declared.engine_state.Sets.{Sets}
use Rattle.co_state.specs.declared.engine_state.Vote.{Vote}
use Rattle.co_state.specs.Table.{Table, look, put, least_where, lesser}
use Rattle.co_plain.specs.declared.member_state.AskedMark.{AskedMark}
use Rattle.co_undecided.specs.declared.entry.Entry.{Entry}
use Rattle.co_undecided.specs.declared.entry.Entry.TheVariants.{Active, Voted}

-- one entry changes, where it is there
abbrev pub changed : Table Entry → ℕ → Entry → Option Entry → Table Entry
changed entries t entry None = entries
changed entries t entry (Some old) = put entries t entry

-- how many operations are kept; none of a transaction that is absent or voted
abbrev pub kept_in : Option Entry → ℕ
kept_in None = 0
kept_in (Some (Active kept asked)) = kept
kept_in (Some (Voted coord count)) = 0

abbrev pub asked_in : Option Entry → Option AskedMark
asked_in None = None
asked_in (Some (Active kept asked)) = asked
asked_in (Some (Voted coord count)) = None

abbrev pub coord_in : Option Entry → Option ℕ
coord_in None = None
coord_in (Some (Active kept asked)) = None
coord_in (Some (Voted coord count)) = Some coord

-- whether it voted
abbrev pub voted_in_entry : Option Entry → Option Bool
voted_in_entry None = None
voted_in_entry (Some (Active kept asked)) = Some false
voted_in_entry (Some (Voted coord count)) = Some true

-- the coordinator that asked for a vote
abbrev pub coord_asked : Option Vote → Option ℕ
coord_asked None = None
coord_asked (Some vote) = Some vote.coord

-- the entry of a transaction by its operations, its vote and its mark
abbrev pub entry_of : Option (List Operation) → Option Vote → Option AskedMark → Option Entry
entry_of os (Some vote) asked = Some (Voted vote.coord vote.count)
entry_of (Some os) None asked = Some (Active (length os) asked)
entry_of None None asked = None

abbrev pub entry_at : EngineState → Table AskedMark → ℕ → Option Entry
entry_at b asked t = entry_of (look b.active t) (look b.voted t) (look asked t)

-- whether an undecided transaction voted
abbrev pub mark_of : Option (List Operation) → Option Vote → Option Bool
mark_of os (Some vote) = Some true
mark_of (Some os) None = Some false
mark_of None None = None

abbrev pub mark_at : EngineState → ℕ → Option Bool
mark_at b t = mark_of (look b.active t) (look b.voted t)

-- the least undecided transaction above a number
abbrev pub next_open : EngineState → ℕ → Option ℕ
next_open b after = lesser (least_where (λ u os. nat_lt after u) b.active) (least_where (λ u vote. nat_lt after u) b.voted)

-- the vote of an entry, where it has one, and of each of these, with what they read and wrote
abbrev pub vote_told : (ℕ → Sets) → ℕ → Entry → List Prepared
vote_told sets t (Active kept asked) = []
vote_told sets t (Voted coord count) = record { txn = t; coord = coord; count = count; sets = sets t } ∷ []

abbrev pub votes_told : (ℕ → Sets) → List (ℕ × Entry) → List Prepared
votes_told sets [] = []
votes_told sets (e ∷ es) = vote_told sets e.0 e.1 ++ votes_told sets es
