-- Conflicts between the undecided transactions of one state: a read of one meets a write of the other, or
-- both wrote one key (Bernstein, Hadzilacos and Goodman 1987, conflicting operations).
use Rattle.std.specs.Prelude.{ℕ, Bool, ◌&&◌, not, ◌==◌, nat_lt, ◌≡◌, List, [], ◌∷◌, true, false, ◌||◌}
use Rattle.co_state.specs.declared.engine_state.EngineState.{EngineState}
use Rattle.co_state.specs.declared.engine_state.Sets.{Sets}
use Rattle.co_state.specs.declared.pair.Pair.{Pair}
use Rattle.co_state.specs.declared.pair.PairKind.{PairKind}
use Rattle.co_state.specs.declared.pair.PairKind.TheVariants.{Reads, Writes}
use Rattle.co_state.specs.Keys.{reads_meet, writes_meet}
use Rattle.co_state.specs.EngineState.{sets_at}

-- two sets are in conflict: a read of one meets a write of the other, or both wrote one key
abbrev pub sets_conflict : Sets → Sets → Bool
sets_conflict a b = reads_meet a.reads b.writes || reads_meet b.reads a.writes || writes_meet a.writes b.writes

-- a read of u meets a write of t
abbrev pub reads_written_by : EngineState → ℕ → ℕ → Bool
reads_written_by b u t = not (u == t) && reads_meet (sets_at b u).reads (sets_at b t).writes

-- both wrote one key; u is the lesser
abbrev pub both_wrote : EngineState → ℕ → ℕ → Bool
both_wrote b u t = nat_lt u t && writes_meet (sets_at b u).writes (sets_at b t).writes

abbrev pub pair_holds : EngineState → PairKind → ℕ → ℕ → Bool
pair_holds b Reads u t = reads_written_by b u t
pair_holds b Writes u t = both_wrote b u t

abbrev pub has_pair : EngineState → Pair → Bool
has_pair b p = pair_holds b p.by p.first p.second

abbrev pub same_kind : PairKind → PairKind → Bool
same_kind Reads Reads = true
same_kind Reads Writes = false
same_kind Writes Reads = false
same_kind Writes Writes = true

abbrev pub same_pair : Pair → Pair → Bool
same_pair p q = same_kind p.by q.by && (p.first == q.first) && (p.second == q.second)

abbrev pub lists_pair : List Pair → Pair → Bool
lists_pair [] p = false
lists_pair (q ∷ qs) p = same_pair q p || lists_pair qs p

-- each pair of the list once
abbrev pub AreDistinctPairs : List Pair → Type 0
AreDistinctPairs [] = Unit {0}
AreDistinctPairs (p ∷ ps) = (lists_pair ps p ≡ false) × AreDistinctPairs ps

-- exactly the pairs that are there after a call and were not there before it, each once
pub record AreNewPairs (old new : EngineState) (pairs : List Pair) : Type 0 where
  pub exactly : (p : Pair) → lists_pair pairs p ≡ (has_pair new p && not (has_pair old p))
  pub once : AreDistinctPairs pairs
