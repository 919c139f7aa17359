-- For which engine states an index stands: it tells exactly what each undecided transaction read and wrote, and whether it has voted.
use Rattle.std.specs.Prelude.{ℕ, Bool, true, ◌≡◌, ◌&&◌, not, List, if◌then◌else◌, is_some, None, Some}
use Rattle.std.specs.List.{list_any}
use Rattle.co_base.specs.Span.{Span, span_has}
use Rattle.co_index.specs.declared.index.Index.{Index}
use Rattle.co_index.specs.Touching.{touch_at, scans}
use Rattle.co_pairs.specs.Votes.{vote_in}
use Rattle.co_pairs.specs.declared.prepared.Prepared.{Prepared}
use Rattle.co_state.specs.declared.engine_state.EngineState.{EngineState}
use Rattle.co_state.specs.declared.engine_state.Sets.{Sets}
use Rattle.co_state.specs.EngineState.{sets_at}
use Rattle.co_state.specs.Keys.{same_key, writes_key}
use Rattle.co_state.specs.Table.{look, put, holds}

-- some range is of the key alone
abbrev pub is_alone : List ℕ → Span → Bool
is_alone key span = same_key span.lo span.hi && same_key span.lo key

abbrev pub reads_alone : List Span → List ℕ → Bool
reads_alone spans key = list_any (is_alone key) spans

-- some wide range has the key
abbrev pub is_wide : List ℕ → Span → Bool
is_wide key span = not (same_key span.lo span.hi) && span_has span key

abbrev pub reads_wide : List Span → List ℕ → Bool
reads_wide spans key = list_any (is_wide key) spans

-- what the index tells of a transaction is what it read and wrote, and whether it has voted
pub record TellsOf (x : Index) (u : ℕ) (sets : Sets) (voted : Bool) : Type 0 where
  pub writes_are : (key : List ℕ) → touch_at x.writers key u ≡ (if writes_key sets.writes key then Some voted else None)
  pub alone_are : (key : List ℕ) → is_some (touch_at x.readers key u) ≡ reads_alone sets.reads key
  pub wide_are : (key : List ℕ) → scans x.scanners key u ≡ reads_wide sets.reads key

abbrev pub IsIndexOf : Index → EngineState → Type 0
IsIndexOf x b = (u : ℕ) → TellsOf x u (sets_at b u) (holds b.voted u)

-- no transaction is active and voted at once
abbrev pub AreApart : EngineState → Type 0
AreApart b = (u : ℕ) → holds b.voted u ≡ true → look b.active u ≡ None

-- a prepared transaction is one of the voted ones
abbrev pub with_vote : EngineState → Prepared → EngineState
with_vote b p = record b { voted = put b.voted p.txn (vote_in p) }
