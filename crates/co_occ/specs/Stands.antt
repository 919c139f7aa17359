-- For which states an engine with backward validation stands.
use Rattle.std.specs.Prelude.{ℕ, ◌≡◌, ◌-◌, List, length, drop, Option, None, Some}
use Rattle.std.specs.FinMap.{entries}
use Rattle.std.specs.Option.{option_map}
use Rattle.co_base.specs.declared.head.Kind.TheVariants.{Occ}
use Rattle.co_base.specs.declared.written.Written.{Written}
use Rattle.co_serial.specs.Records.{Records, with_changes}
use Rattle.co_state.specs.declared.engine_state.EngineState.{EngineState}
use Rattle.co_state.specs.declared.engine_state.Operation.{Operation}
use Rattle.co_state.specs.declared.engine_state.Sets.{Sets}
use Rattle.co_state.specs.declared.engine_state.Vote.{Vote}
use Rattle.co_state.specs.Changes.{sets_of}
use Rattle.co_state.specs.EngineState.{installed_records}
use Rattle.co_state.specs.Table.{look}
use Rattle.co_engine.specs.Undecided.{or_nothing}
use Rattle.co_occ.specs.declared.engine.OccEngine.{OccEngine}
use Rattle.co_occ.specs.declared.reads.Read.{Read}
use Rattle.co_occ.specs.declared.reads.Reads.{Reads}
use Rattle.co_occ.specs.Kept.{reads_of, or_unread, oldest_kept}
use Rattle.co_occ.specs.Last.{Lasts, AreLast}
use Rattle.co_occ.specs.Old.{old_writes}

-- an undecided transaction whose reads are kept is active, and another one voted
abbrev pub active_sets : Option Reads → Option Sets → Option Sets
active_sets None sets = None
active_sets (Some reads) sets = sets

abbrev pub voted_sets : Option Reads → Option Sets → Option Sets
voted_sets None sets = sets
voted_sets (Some reads) sets = None

-- what is kept of a transaction stands for its operations and its vote; who asked for the vote and how many
-- operations it counts are not kept
pub record IsKept (reads : Option Reads) (sets : Option Sets) (os : Option (List Operation)) (vote : Option Vote) : Type 0 where
  pub reads_are : option_map reads_of os ≡ reads
  pub sets_are : option_map sets_of os ≡ active_sets reads sets
  pub votes_are : option_map (λ v. v.sets) vote ≡ voted_sets reads sets

-- everything but the write sets
pub record KeepsState (o : OccEngine) (b : EngineState) : Type 0 where
  pub kind_is : Occ ≡ b.kind
  pub records_are : o.records ≡ installed_records b
  pub count_is : o.installs ≡ length b.installed
  pub each : (t : ℕ) → IsKept (look o.reads t) (look o.undecided t) (look b.active t) (look b.voted t)

pub record StandsFor (o : OccEngine) (b : EngineState) : Type 0 where
  pub keeps : KeepsState o b
  -- no older write set is kept, and no newer one is missing
  pub recent_are : o.recent ≡ old_writes b
  -- and their last installs are known by key
  pub lasts_are : AreLast o.lasts o.recent o.installs

-- how many of the newest installs came after the oldest read
abbrev pub count_after : Option ℕ → ℕ → ℕ
count_after None installs = 0
count_after (Some stamp) installs = installs - stamp

-- the write sets that no read needs any more are forgotten
abbrev pub needed : OccEngine → ℕ
needed o = count_after (oldest_kept (entries o.reads)) o.installs

abbrev pub recent_needed : OccEngine → List (List Written)
recent_needed o = drop (length o.recent - needed o) o.recent

abbrev pub with_needed : OccEngine → Lasts → OccEngine
with_needed o lasts = record o { recent = recent_needed o; lasts = lasts }

-- what the next read of a transaction sees
abbrev pub own_writes : OccEngine → ℕ → List Written
own_writes o t = (or_nothing (look o.undecided t)).writes

abbrev pub own_records : OccEngine → ℕ → Records
own_records o t = with_changes o.records (own_writes o t)

-- the reads of an active transaction, newest first; none of another one
abbrev pub own_reads : OccEngine → ℕ → List Read
own_reads o t = (or_unread (look o.reads t)).list
