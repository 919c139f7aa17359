-- Prepared transactions as a table of votes, and the votes of a table as a list, ascending.
use Rattle.std.specs.Prelude.{ℕ, List, [], ◌∷◌, map}
use Rattle.std.specs.FinMap.{entries}
use Rattle.co_pairs.specs.declared.prepared.Prepared.{Prepared}
use Rattle.co_state.specs.declared.engine_state.Vote.{Vote}
use Rattle.co_state.specs.Table.{Table, no_entries, put}

abbrev pub vote_in : Prepared → Vote
vote_in p = record { coord = p.coord; count = p.count; sets = p.sets }

-- the prepared transactions as voted ones
abbrev pub votes_of : List Prepared → Table Vote
votes_of [] = no_entries
votes_of (p ∷ ps) = put (votes_of ps) p.txn (vote_in p)

-- what is told of each prepared transaction, as a table
abbrev pub told_of : {X : Type 0} → (Prepared → X) → List Prepared → Table X
told_of told [] = no_entries
told_of told (p ∷ ps) = put (told_of told ps) p.txn (told p)

abbrev pub prepared_of : ℕ × Vote → Prepared
prepared_of entry = record { txn = entry.0; coord = entry.1.coord; count = entry.1.count; sets = entry.1.sets }

-- the voted transactions of a table, ascending
abbrev pub voted_of : Table Vote → List Prepared
voted_of voted = map prepared_of (entries voted)
