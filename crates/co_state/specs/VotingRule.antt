-- The voting rule: when a member may vote yes for a transaction that it is asked about (Raz, The principle
-- of commitment ordering, VLDB 1992; the profile is this project's own).
use Rattle.std.specs.Prelude.{ℕ, Bool, ◌&&◌, ◌||◌, not, ◌==◌, List, length, if◌then◌else◌, Option, None, Some}
use Rattle.co_state.specs.declared.engine_state.EngineState.{EngineState}
use Rattle.co_state.specs.declared.engine_state.Operation.{Operation}
use Rattle.co_state.specs.declared.engine_state.Sets.{Sets}
use Rattle.co_state.specs.declared.verdict.Verdict.{Verdict}
use Rattle.co_state.specs.declared.verdict.Verdict.TheVariants.{LostOperations, StaleRead, HeldBy, VoteYes}
use Rattle.co_state.specs.Table.{least_where, lesser}
use Rattle.co_state.specs.Keys.{reads_meet, writes_meet}
use Rattle.co_state.specs.Changes.{sets_of}
use Rattle.co_state.specs.EngineState.{operations_of}
use Rattle.co_state.specs.StaleRead.{stale_key}

-- an active transaction is in the way that read what this one wrote
abbrev pub active_holds : Sets → List Operation → Bool
active_holds own os = reads_meet (sets_of os).reads own.writes

-- a voted one is in the way that read what this one wrote, that wrote a key which this one wrote, or that
-- wrote what this one read
abbrev pub voted_holds : Sets → Sets → Bool
voted_holds own other =
    reads_meet other.reads own.writes || writes_meet other.writes own.writes || reads_meet own.reads other.writes

-- the least other transaction in the way
abbrev pub holder_of : EngineState → ℕ → Sets → Option ℕ
holder_of b t own =
    lesser
    (least_where (λ u os. not (u == t) && active_holds own os) b.active)
    (least_where (λ u vote. not (u == t) && voted_holds own vote.sets) b.voted)

abbrev pub unless_held : Option ℕ → Verdict
unless_held (Some u) = HeldBy u
unless_held None = VoteYes

abbrev pub unless_stale : Option (List ℕ) → Option ℕ → Verdict
unless_stale (Some key) holder = StaleRead key
unless_stale None holder = unless_held holder

-- how many operations of an active transaction are kept here; none of an absent one
abbrev pub kept_count : EngineState → ℕ → ℕ
kept_count b t = length (operations_of b t)

-- the first that applies: lost operations, an overwritten read, a transaction in the way; else yes. The
-- carried count is how many operations the client saw answered here.
abbrev pub vote_of : EngineState → ℕ → ℕ → Verdict
vote_of b t carried =
    if kept_count b t == carried
    then unless_stale (stale_key b t) (holder_of b t (sets_of (operations_of b t)))
    else LostOperations
