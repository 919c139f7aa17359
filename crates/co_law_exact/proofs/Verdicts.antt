-- The voting rule, both ways.
use Rattle.std.proofs.Common.{◌≡◌, ◌≢◌, ℕ, Bool, true, false, ◌==◌, if◌then◌else◌, List, Option, None, Some, refl, sym, ap, ◌∙◌, arith}
use Rattle.std.proofs.lemmas.Bool.{eqb-true, eq-eqb, ne_eqb}
use Rattle.co_state.specs.declared.engine_state.EngineState.{EngineState}
use Rattle.co_state.specs.declared.verdict.Verdict.{Verdict}
use Rattle.co_state.specs.declared.verdict.Verdict.TheVariants.{LostOperations, StaleRead, HeldBy, VoteYes}
use Rattle.co_state.specs.StaleRead.{stale_key}
use Rattle.co_state.specs.VotingRule.{kept_count, unless_stale, vote_of}
use Rattle.co_law_exact.specs.Votes.{holder_here, VerdictIsExact}

-- the parts of a verdict
abbrev key_named : List ℕ → Verdict → List ℕ
key_named d LostOperations = d
key_named d (StaleRead key) = key
key_named d (HeldBy u) = d
key_named d VoteYes = d

abbrev holder_named : ℕ → Verdict → ℕ
holder_named d LostOperations = d
holder_named d (StaleRead key) = d
holder_named d (HeldBy u) = u
holder_named d VoteYes = d

-- which verdict it is
abbrev rank : Verdict → ℕ
rank LostOperations = 0
rank (StaleRead key) = 1
rank (HeldBy u) = 2
rank VoteYes = 3

apart : {A : Type 0} (v w : Verdict) → v ≡ w → rank v ≢ rank w → A
apart v w e n = absurd (n (ap rank e))

module _ (b : EngineState) (t carried : ℕ) where
  -- the verdict by its parts
  made : (c : Bool) (key : Option (List ℕ)) (holder : Option ℕ) → (kept_count b t == carried) ≡ c → stale_key b t ≡ key → holder_here b t ≡ holder →
      vote_of b t carried ≡ (if c then unless_stale key holder else LostOperations)
  made c key holder e f g = λ i. if e i then unless_stale (f i) (g i) else LostOperations

  pub verdict_exact : VerdictIsExact b t carried
  verdict_exact =
      record {
        lost = (λ h n. lost_to (kept_count b t == carried) (stale_key b t) (holder_here b t) refl refl refl h n, λ n. made false (stale_key b t) (holder_here b t) (ne_eqb (kept_count b t) carried n) refl refl);
        stale = λ key. (stale_to key (kept_count b t == carried) (stale_key b t) (holder_here b t) refl refl refl, λ p. made true (Some key) (holder_here b t) (eq-eqb (kept_count b t) carried p.0) p.1 refl);
        held = λ u. (held_to u (kept_count b t == carried) (stale_key b t) (holder_here b t) refl refl refl, λ p. made true None (Some u) (eq-eqb (kept_count b t) carried p.0) p.1 p.2);
        granted = (yes_to (kept_count b t == carried) (stale_key b t) (holder_here b t) refl refl refl, λ p. made true None None (eq-eqb (kept_count b t) carried p.0) p.1 p.2);
      }
    where
      lost_to : (c : Bool) (key : Option (List ℕ)) (holder : Option ℕ) → (kept_count b t == carried) ≡ c → stale_key b t ≡ key → holder_here b t ≡ holder → vote_of b t carried ≡ LostOperations →
          kept_count b t ≡ carried → ⊥
      lost_to false key holder e f g h n = let z : true ≡ false = sym (eq-eqb (kept_count b t) carried n) ∙ e in cc
      lost_to true (Some key) holder e f g h n = apart (StaleRead key) LostOperations (sym (made true (Some key) holder e f g) ∙ h) (λ z. omega (arith, z))
      lost_to true None (Some u) e f g h n = apart (HeldBy u) LostOperations (sym (made true None (Some u) e f g) ∙ h) (λ z. omega (arith, z))
      lost_to true None None e f g h n = apart VoteYes LostOperations (sym (made true None None e f g) ∙ h) (λ z. omega (arith, z))

      stale_to : (k : List ℕ) (c : Bool) (key : Option (List ℕ)) (holder : Option ℕ) → (kept_count b t == carried) ≡ c → stale_key b t ≡ key → holder_here b t ≡ holder → vote_of b t carried ≡ StaleRead k →
          (kept_count b t ≡ carried) × (stale_key b t ≡ Some k)
      stale_to k false key holder e f g h = apart LostOperations (StaleRead k) (sym (made false key holder e f g) ∙ h) (λ z. omega (arith, z))
      stale_to k true (Some key) holder e f g h = (eqb-true (kept_count b t) carried e, f ∙ ap (λ v. Some (key_named key v)) (sym (made true (Some key) holder e f g) ∙ h))
      stale_to k true None (Some u) e f g h = apart (HeldBy u) (StaleRead k) (sym (made true None (Some u) e f g) ∙ h) (λ z. omega (arith, z))
      stale_to k true None None e f g h = apart VoteYes (StaleRead k) (sym (made true None None e f g) ∙ h) (λ z. omega (arith, z))

      held_to : (v : ℕ) (c : Bool) (key : Option (List ℕ)) (holder : Option ℕ) → (kept_count b t == carried) ≡ c → stale_key b t ≡ key → holder_here b t ≡ holder → vote_of b t carried ≡ HeldBy v →
          (kept_count b t ≡ carried) × (stale_key b t ≡ None) × (holder_here b t ≡ Some v)
      held_to v false key holder e f g h = apart LostOperations (HeldBy v) (sym (made false key holder e f g) ∙ h) (λ z. omega (arith, z))
      held_to v true (Some key) holder e f g h = apart (StaleRead key) (HeldBy v) (sym (made true (Some key) holder e f g) ∙ h) (λ z. omega (arith, z))
      held_to v true None (Some u) e f g h = (eqb-true (kept_count b t) carried e, f, g ∙ ap (λ w. Some (holder_named u w)) (sym (made true None (Some u) e f g) ∙ h))
      held_to v true None None e f g h = apart VoteYes (HeldBy v) (sym (made true None None e f g) ∙ h) (λ z. omega (arith, z))

      yes_to : (c : Bool) (key : Option (List ℕ)) (holder : Option ℕ) → (kept_count b t == carried) ≡ c → stale_key b t ≡ key → holder_here b t ≡ holder → vote_of b t carried ≡ VoteYes →
          (kept_count b t ≡ carried) × (stale_key b t ≡ None) × (holder_here b t ≡ None)
      yes_to false key holder e f g h = apart LostOperations VoteYes (sym (made false key holder e f g) ∙ h) (λ z. omega (arith, z))
      yes_to true (Some key) holder e f g h = apart (StaleRead key) VoteYes (sym (made true (Some key) holder e f g) ∙ h) (λ z. omega (arith, z))
      yes_to true None (Some u) e f g h = apart (HeldBy u) VoteYes (sym (made true None (Some u) e f g) ∙ h) (λ z. omega (arith, z))
      yes_to true None None e f g h = (eqb-true (kept_count b t) carried e, f, g)
