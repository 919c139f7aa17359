-- What a coordinator tells of its transactions.
use Rattle.std.specs.Prelude.{ℕ, not, ◌&&◌, nat_lt, List, find, Option, None, Some}
pub use Rattle.co_state.specs.Table.{is_above}
use Rattle.co_plain.specs.CoordStep.{members_of}
use Rattle.co_plain.specs.Numbers.{has_number}
use Rattle.co_plain.specs.declared.coord_state.Entry.{Entry}
use Rattle.co_plain.specs.declared.coord_state.Entry.TheVariants as entry
use Rattle.co_coord.specs.declared.reading.Stage.{Stage}
use Rattle.co_coord.specs.declared.reading.Stage.TheVariants as stage

-- where a transaction with this entry stands
abbrev pub stage_of : Option Entry → Stage
stage_of None = stage.Unknown
stage_of (Some entry.Idle) = stage.Idle
stage_of (Some (entry.Collecting parts yeses)) = stage.Collecting
stage_of (Some (entry.Committed members acks)) = stage.Committed

-- the first of the numbers above another one that is not among the given ones
abbrev pub lacking_above : List ℕ → List ℕ → ℕ → Option ℕ
lacking_above numbers given after = find (λ n. nat_lt after n && not (has_number given n)) numbers

-- who is lacking above a number: without a recorded yes, or without an acknowledgement
abbrev pub lacking_of : ℕ → Option Entry → Option ℕ
lacking_of after None = None
lacking_of after (Some entry.Idle) = None
lacking_of after (Some (entry.Collecting parts yeses)) = lacking_above (members_of parts) yeses after
lacking_of after (Some (entry.Committed members acks)) = lacking_above members acks after
