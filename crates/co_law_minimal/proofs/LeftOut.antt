-- What one part leaves out, another one asks for.
use Rattle.std.proofs.Common.{◌≡◌, ◌≢◌, ◌⊎◌, inl, inr, ℕ, Bool, true, false, not, ◌&&◌, ◌||◌, ◌==◌, min, if◌then◌else◌, List, [], ◌∷◌, Option, None, Some, refl, sym, ap, ◌∙◌}
use Rattle.std.specs.FinMap.{entries}
use Rattle.std.proofs.lemmas.Bool.{or_parts, or_from, and_right}
use Rattle.co_state.specs.declared.engine_state.EngineState.{EngineState}
use Rattle.co_state.specs.declared.engine_state.Operation.{Operation}
use Rattle.co_state.specs.declared.engine_state.Sets.{Sets}
use Rattle.co_state.specs.declared.engine_state.Vote.{Vote}
use Rattle.co_state.specs.declared.verdict.Verdict.TheVariants.{LostOperations, StaleRead, HeldBy, VoteYes}
use Rattle.co_state.specs.Changes.{sets_of}
use Rattle.co_state.specs.EngineState.{operations_of}
use Rattle.co_state.specs.Keys.{reads_meet, writes_meet}
use Rattle.co_state.specs.StaleRead.{stale_key}
use Rattle.co_state.specs.Table.{first_in, least_where, lesser}
use Rattle.co_state.specs.VotingRule.{active_holds, voted_holds, holder_of, kept_count, unless_stale, vote_of}
use Rattle.co_law_minimal.specs.Rule.{RulePart, CountsAgree, ReadsAreFresh, ActiveReader, VotedReader, BothWrote, VotedWriter, is_asked_for, voted_holds_without, holder_without, stale_without, vote_without}

-- a part is asked for, or it is the one that is left out
asked_or_same : (part left : RulePart) → (is_asked_for part left ≡ true) ⊎ (part ≡ left)
asked_or_same CountsAgree CountsAgree = inr refl
asked_or_same ReadsAreFresh ReadsAreFresh = inr refl
asked_or_same ActiveReader ActiveReader = inr refl
asked_or_same VotedReader VotedReader = inr refl
asked_or_same BothWrote BothWrote = inr refl
asked_or_same VotedWriter VotedWriter = inr refl
asked_or_same CountsAgree _ = inl refl
asked_or_same ReadsAreFresh _ = inl refl
asked_or_same ActiveReader _ = inl refl
asked_or_same VotedReader _ = inl refl
asked_or_same BothWrote _ = inl refl
asked_or_same VotedWriter _ = inl refl

-- of two that are left out, one asks for it
asked_by_one : (part left other : RulePart) → left ≢ other → (is_asked_for part left ≡ true) ⊎ (is_asked_for part other ≡ true)
asked_by_one part left other d = by (asked_or_same part left) (asked_or_same part other)
  where
    by : (is_asked_for part left ≡ true) ⊎ (part ≡ left) → (is_asked_for part other ≡ true) ⊎ (part ≡ other) → (is_asked_for part left ≡ true) ⊎ (is_asked_for part other ≡ true)
    by (inl a) q = inl a
    by (inr a) (inl b) = inr b
    by (inr a) (inr b) = absurd (d (sym a ∙ b))

-- a test that two ask for
both_fail : (part left other : RulePart) (test : Bool) → left ≢ other → (is_asked_for part left && test) ≡ false → (is_asked_for part other && test) ≡ false → test ≡ false
both_fail part left other test d a b = by (asked_by_one part left other d)
  where
    by : (is_asked_for part left ≡ true) ⊎ (is_asked_for part other ≡ true) → test ≡ false
    by (inl e) = sym (ap (λ z. z && test) e) ∙ a
    by (inr e) = sym (ap (λ z. z && test) e) ∙ b

-- who is in the way of a rule is in the way of one of two
none_both : {X : Type 0} (p q r : ℕ → X → Bool) → ((u : ℕ) (x : X) → p u x ≡ false → q u x ≡ false → r u x ≡ false) → (es : List (ℕ × X)) →
    first_in p es ≡ None → first_in q es ≡ None → first_in r es ≡ None
none_both p q r less [] a b = refl
none_both p q r less (e ∷ es) a b = by (p e.0 e.1) (q e.0 e.1) refl refl (none_both p q r less es)
  where
    some : {A : Type 0} → Some e.0 ≡ None → A
    some h = absurd (let z : Some e.0 ≡ None = h in cc)

    by : (v w : Bool) → p e.0 e.1 ≡ v → q e.0 e.1 ≡ w → (first_in p es ≡ None → first_in q es ≡ None → first_in r es ≡ None) → first_in r (e ∷ es) ≡ None
    by true w f g rest = some (sym (ap (λ z. if z then Some e.0 else first_in p es) f) ∙ a)
    by false true f g rest = some (sym (ap (λ z. if z then Some e.0 else first_in q es) g) ∙ b)
    by false false f g rest =
        ap (λ z. if z then Some e.0 else first_in r es) (less e.0 e.1 f g)
        ∙ rest (sym (ap (λ z. if z then Some e.0 else first_in p es) f) ∙ a) (sym (ap (λ z. if z then Some e.0 else first_in q es) g) ∙ b)

neither : (a b : Option ℕ) → lesser a b ≡ None → (a ≡ None) × (b ≡ None)
neither None b e = (refl, e)
neither (Some t) None e = absurd (let q : Some t ≡ None = e in cc)
neither (Some t) (Some u) e = absurd (let q : Some (min t u) ≡ None = e in cc)

module _ (b : EngineState) (t carried : ℕ) where
  abbrev own : Sets
  own = sets_of (operations_of b t)

  abbrev active_test : RulePart → ℕ → List Operation → Bool
  active_test left u os = is_asked_for ActiveReader left && (not (u == t) && active_holds own os)

  abbrev voted_test : RulePart → ℕ → Vote → Bool
  voted_test left u vote = not (u == t) && voted_holds_without left own vote.sets

  -- the parts of a yes, with one left out
  record SaysYes (left : RulePart) : Type 0 where
    counts : (not (is_asked_for CountsAgree left) || (kept_count b t == carried)) ≡ true
    fresh : stale_without left b t ≡ None
    active : first_in (active_test left) (entries b.active) ≡ None
    voted : first_in (voted_test left) (entries b.voted) ≡ None

  yes_parts : (left : RulePart) → vote_without left b t carried ≡ VoteYes → SaysYes left
  yes_parts left h = by (not (is_asked_for CountsAgree left) || (kept_count b t == carried)) refl (stale_without left b t) refl (holder_without left b t own) refl
    where
      is : (c : Bool) (key : Option (List ℕ)) (holder : Option ℕ) → (not (is_asked_for CountsAgree left) || (kept_count b t == carried)) ≡ c → stale_without left b t ≡ key →
          holder_without left b t own ≡ holder → vote_without left b t carried ≡ (if c then unless_stale key holder else LostOperations)
      is c key holder e f g = λ i. if e i then unless_stale (f i) (g i) else LostOperations

      by : (c : Bool) → (not (is_asked_for CountsAgree left) || (kept_count b t == carried)) ≡ c → (key : Option (List ℕ)) → stale_without left b t ≡ key →
          (holder : Option ℕ) → holder_without left b t own ≡ holder → SaysYes left
      by true e None f None g =
          let p = neither (least_where (active_test left) b.active) (least_where (voted_test left) b.voted) g in record { counts = e; fresh = f; active = p.0; voted = p.1 }
      by false e key f holder g = absurd (let z : LostOperations ≡ VoteYes = sym (is false key holder e f g) ∙ h in cc)
      by true e (Some key) f holder g = absurd (let z : StaleRead key ≡ VoteYes = sym (is true (Some key) holder e f g) ∙ h in cc)
      by true e None f (Some u) g = absurd (let z : HeldBy u ≡ VoteYes = sym (is true None (Some u) e f g) ∙ h in cc)

  yes_from : (left : RulePart) → SaysYes left → vote_without left b t carried ≡ VoteYes
  yes_from left y = λ i. if y.counts i then unless_stale (y.fresh i) (lesser (y.active i) (y.voted i)) else LostOperations

  -- the rule itself
  record RuleSays : Type 0 where
    counts : (kept_count b t == carried) ≡ true
    fresh : stale_key b t ≡ None
    active : first_in (λ u os. not (u == t) && active_holds own os) (entries b.active) ≡ None
    voted : first_in (λ u vote. not (u == t) && voted_holds own vote.sets) (entries b.voted) ≡ None

  rule_parts : vote_of b t carried ≡ VoteYes → RuleSays
  rule_parts h = by (kept_count b t == carried) refl (stale_key b t) refl (holder_of b t own) refl
    where
      is : (c : Bool) (key : Option (List ℕ)) (holder : Option ℕ) → (kept_count b t == carried) ≡ c → stale_key b t ≡ key → holder_of b t own ≡ holder →
          vote_of b t carried ≡ (if c then unless_stale key holder else LostOperations)
      is c key holder e f g = λ i. if e i then unless_stale (f i) (g i) else LostOperations

      by : (c : Bool) → (kept_count b t == carried) ≡ c → (key : Option (List ℕ)) → stale_key b t ≡ key → (holder : Option ℕ) → holder_of b t own ≡ holder → RuleSays
      by true e None f None g =
          let p = neither (least_where (λ u os. not (u == t) && active_holds own os) b.active) (least_where (λ u vote. not (u == t) && voted_holds own vote.sets) b.voted) g in
          record { counts = e; fresh = f; active = p.0; voted = p.1 }
      by false e key f holder g = absurd (let z : LostOperations ≡ VoteYes = sym (is false key holder e f g) ∙ h in cc)
      by true e (Some key) f holder g = absurd (let z : StaleRead key ≡ VoteYes = sym (is true (Some key) holder e f g) ∙ h in cc)
      by true e None f (Some u) g = absurd (let z : HeldBy u ≡ VoteYes = sym (is true None (Some u) e f g) ∙ h in cc)

  rule_from : RuleSays → vote_of b t carried ≡ VoteYes
  rule_from y = λ i. if y.counts i then unless_stale (y.fresh i) (lesser (y.active i) (y.voted i)) else LostOperations

  or_true : (a c : Bool) → c ≡ true → (a || c) ≡ true
  or_true true c e = refl
  or_true false c e = e

  pub weaker : (left : RulePart) → vote_of b t carried ≡ VoteYes → vote_without left b t carried ≡ VoteYes
  weaker left h =
      yes_from left (record {
        counts = or_true (not (is_asked_for CountsAgree left)) (kept_count b t == carried) y.counts;
        fresh = stale (is_asked_for ReadsAreFresh left);
        active = none_both _ _ (active_test left) (λ u os p q. and_right (is_asked_for ActiveReader left) (not (u == t) && active_holds own os) p) (entries b.active) y.active y.active;
        voted = none_both _ _ (voted_test left) (λ u vote p q. less (not (u == t)) vote.sets p) (entries b.voted) y.voted y.voted;
      })
    where
      y : RuleSays
      y = rule_parts h

      stale : (c : Bool) → (if c then stale_key b t else None) ≡ None
      stale true = y.fresh
      stale false = refl

      less : (c : Bool) (sets : Sets) → (c && voted_holds own sets) ≡ false → (c && voted_holds_without left own sets) ≡ false
      less false sets p = refl
      less true sets p =
          let q = or_parts (reads_meet sets.reads own.writes || writes_meet sets.writes own.writes) (reads_meet own.reads sets.writes) p in
          let r = or_parts (reads_meet sets.reads own.writes) (writes_meet sets.writes own.writes) q.0 in
          or_from (is_asked_for VotedReader left && reads_meet sets.reads own.writes) _ (and_right (is_asked_for VotedReader left) (reads_meet sets.reads own.writes) r.0)
          (or_from (is_asked_for BothWrote left && writes_meet sets.writes own.writes) (is_asked_for VotedWriter left && reads_meet own.reads sets.writes)
          (and_right (is_asked_for BothWrote left) (writes_meet sets.writes own.writes) r.1) (and_right (is_asked_for VotedWriter left) (reads_meet own.reads sets.writes) q.1))

  pub alone : (left other : RulePart) → left ≢ other → vote_without left b t carried ≡ VoteYes → vote_without other b t carried ≡ VoteYes → vote_of b t carried ≡ VoteYes
  alone left other d h k =
      rule_from (record {
        counts = counted (asked_by_one CountsAgree left other d);
        fresh = stale (asked_by_one ReadsAreFresh left other d);
        active = none_both (active_test left) (active_test other) _ (λ u os p q. both_fail ActiveReader left other (not (u == t) && active_holds own os) d p q) (entries b.active) y.active z.active;
        voted = none_both (voted_test left) (voted_test other) _ (λ u vote p q. less (not (u == t)) vote.sets p q) (entries b.voted) y.voted z.voted;
      })
    where
      y : SaysYes left
      y = yes_parts left h

      z : SaysYes other
      z = yes_parts other k

      counted : (is_asked_for CountsAgree left ≡ true) ⊎ (is_asked_for CountsAgree other ≡ true) → (kept_count b t == carried) ≡ true
      counted (inl e) = sym (ap (λ v. not v || (kept_count b t == carried)) e) ∙ y.counts
      counted (inr e) = sym (ap (λ v. not v || (kept_count b t == carried)) e) ∙ z.counts

      stale : (is_asked_for ReadsAreFresh left ≡ true) ⊎ (is_asked_for ReadsAreFresh other ≡ true) → stale_key b t ≡ None
      stale (inl e) = sym (ap (λ v. if v then stale_key b t else None) e) ∙ y.fresh
      stale (inr e) = sym (ap (λ v. if v then stale_key b t else None) e) ∙ z.fresh

      less : (c : Bool) (sets : Sets) → (c && voted_holds_without left own sets) ≡ false → (c && voted_holds_without other own sets) ≡ false → (c && voted_holds own sets) ≡ false
      less false sets p q = refl
      less true sets p q =
          let p0 = or_parts (is_asked_for VotedReader left && reads_meet sets.reads own.writes) _ p in
          let p1 = or_parts (is_asked_for BothWrote left && writes_meet sets.writes own.writes) (is_asked_for VotedWriter left && reads_meet own.reads sets.writes) p0.1 in
          let q0 = or_parts (is_asked_for VotedReader other && reads_meet sets.reads own.writes) _ q in
          let q1 = or_parts (is_asked_for BothWrote other && writes_meet sets.writes own.writes) (is_asked_for VotedWriter other && reads_meet own.reads sets.writes) q0.1 in
          or_from (reads_meet sets.reads own.writes || writes_meet sets.writes own.writes) (reads_meet own.reads sets.writes)
          (or_from (reads_meet sets.reads own.writes) (writes_meet sets.writes own.writes)
          (both_fail VotedReader left other (reads_meet sets.reads own.writes) d p0.0 q0.0) (both_fail BothWrote left other (writes_meet sets.writes own.writes) d p1.0 q1.0))
          (both_fail VotedWriter left other (reads_meet own.reads sets.writes) d p1.1 q1.1)
