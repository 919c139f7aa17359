-- The rule that does not ask for active readers says of voted ones what the rule does.
use Rattle.std.proofs.Common.{◌≡◌, ℕ, Bool, true, false, not, ◌&&◌, ◌||◌, ◌==◌, if◌then◌else◌, List, [], ◌∷◌, Option, None, Some, refl, sym, ap, ◌∙◌}
use Rattle.std.proofs.lemmas.Bool.{eqb-true}
use Rattle.std.specs.FinMap.{entries}
use Rattle.co_state.specs.declared.engine_state.EngineState.{EngineState}
use Rattle.co_state.specs.declared.engine_state.Operation.{Operation}
use Rattle.co_state.specs.declared.engine_state.Sets.{Sets}
use Rattle.co_state.specs.declared.engine_state.Vote.{Vote}
use Rattle.co_state.specs.declared.verdict.Verdict.TheVariants.{LostOperations, StaleRead, HeldBy, VoteYes}
use Rattle.co_state.specs.Changes.{sets_of}
use Rattle.co_state.specs.EngineState.{operations_of}
use Rattle.co_state.specs.Keys.{reads_meet, writes_meet}
use Rattle.co_state.specs.StaleRead.{stale_key}
use Rattle.co_state.specs.Table.{first_in, lesser}
use Rattle.co_state.specs.VotingRule.{voted_holds, kept_count, unless_held, unless_stale}
use Rattle.co_law_engine.proofs.YesTells.{SaysYes, voted_holder}
use Rattle.co_law_minimal.specs.Rule.{ActiveReader, voted_holds_without, vote_without}

nobody : {X : Type 0} (es : List (ℕ × X)) → first_in (λ u x. false) es ≡ None
nobody [] = refl
nobody (e ∷ es) = nobody es

either : (a b c : Bool) → (a || (b || c)) ≡ ((a || b) || c)
either true b c = refl
either false b c = refl

same_holds : (own other : Sets) → voted_holds_without ActiveReader own other ≡ voted_holds own other
same_holds own other = either (reads_meet other.reads own.writes) (writes_meet other.writes own.writes) (reads_meet own.reads other.writes)

module _ (b : EngineState) (t n : ℕ) where
  verdict : vote_without ActiveReader b t n ≡ (if kept_count b t == n then unless_stale (stale_key b t) (voted_holder b t) else LostOperations)
  verdict = λ i.
      if kept_count b t == n
      then unless_stale (stale_key b t) (lesser (nobody (entries b.active) i) (first_in (λ u vote. not (u == t) && same_holds (sets_of (operations_of b t)) vote.sets i) (entries b.voted)))
      else LostOperations

  -- a yes without that part has all parts that anything rests on
  pub grants : vote_without ActiveReader b t n ≡ VoteYes → SaysYes b t n
  grants h = by (kept_count b t == n) refl (stale_key b t) refl (voted_holder b t) refl
    where
      is : (c : Bool) (key : Option (List ℕ)) (holder : Option ℕ) → (kept_count b t == n) ≡ c → stale_key b t ≡ key → voted_holder b t ≡ holder →
          vote_without ActiveReader b t n ≡ (if c then unless_stale key holder else LostOperations)
      is c key holder e f g = verdict ∙ (λ i. if e i then unless_stale (f i) (g i) else LostOperations)

      by : (c : Bool) → (kept_count b t == n) ≡ c → (key : Option (List ℕ)) → stale_key b t ≡ key → (holder : Option ℕ) → voted_holder b t ≡ holder → SaysYes b t n
      by true e None f None g = record { count = eqb-true (kept_count b t) n e; fresh = f; free = g }
      by false e key f holder g = absurd (let z : LostOperations ≡ VoteYes = sym (is false key holder e f g) ∙ h in cc)
      by true e (Some key) f holder g = absurd (let z : StaleRead key ≡ VoteYes = sym (is true (Some key) holder e f g) ∙ h in cc)
      by true e None f (Some u) g = absurd (let z : HeldBy u ≡ VoteYes = sym (is true None (Some u) e f g) ∙ h in cc)
