-- The voting rule with one of its parts left out.
use Rattle.std.specs.Prelude.{ℕ, Bool, true, false, not, ◌&&◌, ◌||◌, ◌==◌, if◌then◌else◌, List, Option, None}
use Rattle.co_state.specs.declared.engine_state.EngineState.{EngineState}
use Rattle.co_state.specs.declared.engine_state.Sets.{Sets}
use Rattle.co_state.specs.declared.verdict.Verdict.{Verdict}
use Rattle.co_state.specs.declared.verdict.Verdict.TheVariants.{LostOperations}
use Rattle.co_state.specs.Changes.{sets_of}
use Rattle.co_state.specs.EngineState.{operations_of}
use Rattle.co_state.specs.Keys.{reads_meet, writes_meet}
use Rattle.co_state.specs.StaleRead.{stale_key}
use Rattle.co_state.specs.Table.{least_where, lesser}
use Rattle.co_state.specs.VotingRule.{active_holds, kept_count, unless_stale}

-- The parts of the rule: operations that were lost, a read that is stale, and who is in the way: an active reader of what is
-- written, a voted reader of it, a voted writer of it, and a voted writer of what is read.
pub data RulePart : Type 0 where
  CountsAgree : RulePart
  ReadsAreFresh : RulePart
  ActiveReader : RulePart
  VotedReader : RulePart
  BothWrote : RulePart
  VotedWriter : RulePart

-- whether this one is asked for where that one is left out
abbrev pub is_asked_for : RulePart → RulePart → Bool
is_asked_for CountsAgree CountsAgree = false
is_asked_for ReadsAreFresh ReadsAreFresh = false
is_asked_for ActiveReader ActiveReader = false
is_asked_for VotedReader VotedReader = false
is_asked_for BothWrote BothWrote = false
is_asked_for VotedWriter VotedWriter = false
is_asked_for _ _ = true

abbrev pub voted_holds_without : RulePart → Sets → Sets → Bool
voted_holds_without left own other =
    (is_asked_for VotedReader left && reads_meet other.reads own.writes)
    || ((is_asked_for BothWrote left && writes_meet other.writes own.writes)
    || (is_asked_for VotedWriter left && reads_meet own.reads other.writes))

abbrev pub holder_without : RulePart → EngineState → ℕ → Sets → Option ℕ
holder_without left b t own =
    lesser
    (least_where (λ u os. is_asked_for ActiveReader left && (not (u == t) && active_holds own os)) b.active)
    (least_where (λ u vote. not (u == t) && voted_holds_without left own vote.sets) b.voted)

abbrev pub stale_without : RulePart → EngineState → ℕ → Option (List ℕ)
stale_without left b t = if is_asked_for ReadsAreFresh left then stale_key b t else None

abbrev pub vote_without : RulePart → EngineState → ℕ → ℕ → Verdict
vote_without left b t carried =
    if not (is_asked_for CountsAgree left) || (kept_count b t == carried)
    then unless_stale (stale_without left b t) (holder_without left b t (sets_of (operations_of b t)))
    else LostOperations
