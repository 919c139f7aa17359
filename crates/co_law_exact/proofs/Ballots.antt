-- Why a vote is refused or held, by where the transaction stands.
use Rattle.std.proofs.Common.{◌≡◌, ◌≢◌, ◌⊎◌, inl, inr, ℕ, Bool, true, false, ◌==◌, ◌≤◌, if◌then◌else◌, List, [], ◌∷◌, Option, None, Some, refl, sym, ap, ◌∙◌, subst, arith}
use Rattle.std.proofs.lemmas.Bool.Decides.{nat_tests}
use Rattle.co_message.specs.declared.answer.Answer.{Answer}
use Rattle.co_message.specs.declared.answer.Answer.TheVariants as answer
use Rattle.co_message.specs.declared.message.Message.{Message}
use Rattle.co_message.specs.declared.message.Message.TheVariants as message
use Rattle.co_record.specs.declared.record.Record.{Record}
use Rattle.co_record.specs.declared.record.Record.TheVariants as log
use Rattle.co_frame.specs.Gate.{batch_is_stable}
use Rattle.co_state.specs.declared.verdict.Verdict.{Verdict}
use Rattle.co_state.specs.declared.verdict.Verdict.TheVariants.{LostOperations, StaleRead, HeldBy, VoteYes}
use Rattle.co_state.specs.Changes.{sets_of}
use Rattle.co_state.specs.EngineState.{operations_of}
use Rattle.co_state.specs.Table.{look}
use Rattle.co_state.specs.VotingRule.{kept_count, vote_of}
use Rattle.co_plain.specs.declared.member_state.AskedMark.{AskedMark}
use Rattle.co_plain.specs.declared.member_state.MemberState.{MemberState}
use Rattle.co_plain.specs.declared.member_step.MemberStep.{MemberStep}
use Rattle.co_plain.specs.declared.outcome.Outcome.{Outcome}
use Rattle.co_plain.specs.declared.outcome.Outcome.TheVariants.{Completes, StopsAt}
use Rattle.co_plain.specs.declared.standing.Standing.{Standing}
use Rattle.co_plain.specs.declared.standing.Standing.TheVariants.{IsActive, IsVoted, IsInstalled, IsAbsent}
use Rattle.co_plain.specs.Numbers.{counted}
use Rattle.co_plain.specs.LogWrite.{outcome_of}
use Rattle.co_plain.specs.MemberStep.{says, says_and_sends, standing_of, stopped_member, forced_by, force_member}
use Rattle.co_plain.specs.Member.{prepare_record, voted_state, installed_state, vote_by, vote_on, coord_of, with_mark, prepare_by, member_prepare, vote_where_asked, vote_again_by, member_vote}
use Rattle.co_plain.specs.LocalCommit.{local_coord, local_commit_by, member_local_commit}
use Rattle.co_law_node.specs.Causes.{Exactly, is_balloted, is_completed}
use Rattle.co_law_exact.specs.Votes.{RefusesVote, MayVote, MayVoteAgain, NoIsExact, YesSentIsExact, IsSilent, HeldIsExact}

-- numbers and keys that an answer names, and which answer it is
abbrev pub rank : Answer → ℕ
rank (answer.NoLost kept count) = 1
rank (answer.NoStale key) = 2
rank (answer.Held u) = 3
rank _ = 0

abbrev pub count_named : ℕ → Answer → ℕ
count_named d (answer.NoLost kept count) = count
count_named d _ = d

abbrev key_named : List ℕ → Answer → List ℕ
key_named d (answer.NoStale key) = key
key_named d _ = d

abbrev holder_named : ℕ → Answer → ℕ
holder_named d (answer.Held u) = u
holder_named d _ = d

pub apart : {A : Type 0} (a b : Answer) → a ≡ b → rank a ≢ rank b → A
apart a b e n = absurd (n (ap rank e))

-- a forced write gives no such answer, unless it is given
forced_rank : (m : ℕ) (next : MemberState) (batch : List Record) (a : Answer) (note : Option Message) → rank a ≡ 0 → rank (force_member m next batch a note).answer ≡ 0
forced_rank m next batch a note e = by (outcome_of next.log.armed 4)
  where
    stopped : (call : ℕ) (b : Bool) → rank (stopped_member m next call b batch).answer ≡ 0
    stopped call true = refl
    stopped call false = refl

    by : (o : Outcome) → rank (forced_by m next batch a note o).answer ≡ 0
    by Completes = e
    by (StopsAt call leaves) = stopped call (batch_is_stable call leaves)

-- and sends nothing but what is given
forced_sends : (m : ℕ) (next : MemberState) (batch : List Record) (a : Answer) (note : Option Message) → ((force_member m next batch a note).sent ≡ None) ⊎ ((force_member m next batch a note).sent ≡ note)
forced_sends m next batch a note = by (outcome_of next.log.armed 4)
  where
    stopped : (call : ℕ) (b : Bool) → (stopped_member m next call b batch).sent ≡ None
    stopped call true = refl
    stopped call false = refl

    by : (o : Outcome) → ((forced_by m next batch a note o).sent ≡ None) ⊎ ((forced_by m next batch a note o).sent ≡ note)
    by Completes = inr refl
    by (StopsAt call leaves) = inl (stopped call (batch_is_stable call leaves))

abbrev is_yes_note : Option Message → Bool
is_yes_note (Some (message.Vote t m c granted)) = granted
is_yes_note _ = false

abbrev sends_some : Option Message → Bool
sends_some None = false
sends_some (Some note) = true

abbrev coord_named : ℕ → Option Message → ℕ
coord_named d (Some (message.Vote t m c granted)) = c
coord_named d _ = d

-- a no is no yes
not_a_no : {A : Type 0} (t m c u n d : ℕ) → Some (message.Vote t m c true) ≡ Some (message.Vote u n d false) → A
not_a_no t m c u n d e = absurd (let z : true ≡ false = ap is_yes_note e in cc)

module _ (m : ℕ) where
  yes_rank : (x : MemberState) (t coord count : ℕ) → rank (vote_by m x t coord count VoteYes).answer ≡ 0
  yes_rank x t coord count = forced_rank m (voted_state x t coord count) (prepare_record t coord count (sets_of (operations_of x.engine t)) ∷ []) answer.Yes (Some (message.Vote t m coord true)) refl

  pub no_yes : {A : Type 0} (x : MemberState) (t coord count : ℕ) (a : Answer) → (vote_by m x t coord count VoteYes).answer ≡ a → rank a ≢ 0 → A
  no_yes x t coord count a h n = absurd (n (sym (ap rank h) ∙ yes_rank x t coord count))

  -- on a verdict
  lost_on : (x : MemberState) (t coord count n : ℕ) → Exactly ((vote_on m x t coord count).answer ≡ answer.NoLost (counted (kept_count x.engine t)) n) ((count ≡ n) × (vote_of x.engine t count ≡ LostOperations))
  lost_on x t coord count n = (by (vote_of x.engine t count), λ p. ap (λ v. (vote_by m x t coord count v).answer) p.1 ∙ ap (answer.NoLost (counted (kept_count x.engine t))) p.0)
    where
      by : (v : Verdict) → (vote_by m x t coord count v).answer ≡ answer.NoLost (counted (kept_count x.engine t)) n → (count ≡ n) × (v ≡ LostOperations)
      by LostOperations h = (ap (count_named 0) h, refl)
      by (StaleRead key) h = apart (answer.NoStale key) (answer.NoLost (counted (kept_count x.engine t)) n) h (λ z. omega (arith, z))
      by (HeldBy u) h = apart (answer.Held u) (answer.NoLost (counted (kept_count x.engine t)) n) h (λ z. omega (arith, z))
      by VoteYes h = no_yes x t coord count (answer.NoLost (counted (kept_count x.engine t)) n) h (λ z. omega (arith, z))

  stale_on : (x : MemberState) (t coord count : ℕ) (key : List ℕ) → Exactly ((vote_on m x t coord count).answer ≡ answer.NoStale key) (vote_of x.engine t count ≡ StaleRead key)
  stale_on x t coord count key = (by (vote_of x.engine t count), ap (λ v. (vote_by m x t coord count v).answer))
    where
      by : (v : Verdict) → (vote_by m x t coord count v).answer ≡ answer.NoStale key → v ≡ StaleRead key
      by LostOperations h = apart (answer.NoLost (counted (kept_count x.engine t)) count) (answer.NoStale key) h (λ z. omega (arith, z))
      by (StaleRead k) h = ap (λ a. StaleRead (key_named k a)) h
      by (HeldBy u) h = apart (answer.Held u) (answer.NoStale key) h (λ z. omega (arith, z))
      by VoteYes h = no_yes x t coord count (answer.NoStale key) h (λ z. omega (arith, z))

  held_on : (x : MemberState) (t coord count u : ℕ) → Exactly ((vote_on m x t coord count).answer ≡ answer.Held u) (vote_of x.engine t count ≡ HeldBy u)
  held_on x t coord count u = (by (vote_of x.engine t count), ap (λ v. (vote_by m x t coord count v).answer))
    where
      by : (v : Verdict) → (vote_by m x t coord count v).answer ≡ answer.Held u → v ≡ HeldBy u
      by LostOperations h = apart (answer.NoLost (counted (kept_count x.engine t)) count) (answer.Held u) h (λ z. omega (arith, z))
      by (StaleRead k) h = apart (answer.NoStale k) (answer.Held u) h (λ z. omega (arith, z))
      by (HeldBy v) h = ap (λ a. HeldBy (holder_named v a)) h
      by VoteYes h = no_yes x t coord count (answer.Held u) h (λ z. omega (arith, z))

  sent_on : (x : MemberState) (t coord count d : ℕ) → Exactly ((vote_on m x t coord count).sent ≡ Some (message.Vote t m d false)) ((coord ≡ d) × RefusesVote (vote_of x.engine t count))
  sent_on x t coord count d = (to (vote_of x.engine t count), λ p. from (vote_of x.engine t count) p.0 p.1)
    where
      to : (v : Verdict) → (vote_by m x t coord count v).sent ≡ Some (message.Vote t m d false) → (coord ≡ d) × RefusesVote v
      to LostOperations h = (ap (coord_named 0) h, tt)
      to (StaleRead key) h = (ap (coord_named 0) h, tt)
      to (HeldBy u) h = absurd (let z : false ≡ true = ap sends_some h in cc)
      to VoteYes h = yes (forced_sends m (voted_state x t coord count) (prepare_record t coord count (sets_of (operations_of x.engine t)) ∷ []) answer.Yes (Some (message.Vote t m coord true)))
        where
          yes : ((vote_by m x t coord count VoteYes).sent ≡ None) ⊎ ((vote_by m x t coord count VoteYes).sent ≡ Some (message.Vote t m coord true)) → (coord ≡ d) × RefusesVote VoteYes
          yes (inl e) = absurd (let z : false ≡ true = ap sends_some (sym e ∙ h) in cc)
          yes (inr e) = not_a_no t m coord t m d (sym e ∙ h)

      from : (v : Verdict) → coord ≡ d → RefusesVote v → (vote_by m x t coord count v).sent ≡ Some (message.Vote t m d false)
      from LostOperations e r = ap (λ c. Some (message.Vote t m c false)) e
      from (StaleRead key) e r = ap (λ c. Some (message.Vote t m c false)) e
      from (HeldBy u) e r = absurd r
      from VoteYes e r = absurd r

  -- by where the transaction stands
  pub prepares : (x : MemberState) (t coord count : ℕ) (P : MemberStep → Type 0) (Q : Type 0) → (P (says_and_sends x answer.Voted (message.Vote t m (coord_of x t) true)) → ⊥) → (P (says x answer.Already) → ⊥) →
      Exactly (P (vote_on m (with_mark x t coord count) t coord count)) Q → Exactly (P (vote_on m x t coord count)) Q → Exactly (P (member_prepare m x t coord count)) (MayVote x t × Q)
  prepares x t coord count P Q voted already marked plain = (to (standing_of x t), λ p. from (standing_of x t) p.0 p.1)
    where
      to : (st : Standing) → P (prepare_by m x t coord count st) → (is_balloted st ≡ true) × Q
      to IsActive h = (refl, marked.0 h)
      to IsVoted h = absurd (voted h)
      to IsInstalled h = absurd (already h)
      to IsAbsent h = (refl, plain.0 h)

      from : (st : Standing) → is_balloted st ≡ true → Q → P (prepare_by m x t coord count st)
      from IsActive e q = marked.1 q
      from IsVoted e q = absurd (let z : false ≡ true = e in cc)
      from IsInstalled e q = absurd (let z : false ≡ true = e in cc)
      from IsAbsent e q = plain.1 q

  pub tries : (x : MemberState) (t : ℕ) (P : MemberStep → Type 0) (Q : AskedMark → Type 0) → ((a : Answer) → rank a ≡ 0 → P (says x a) → ⊥) →
      ((mark : AskedMark) → Exactly (P (vote_on m x t mark.coord mark.count)) (Q mark)) → Exactly (P (member_vote m x t)) ((mark : AskedMark) × MayVoteAgain x t mark × Q mark)
  tries x t P Q never on = (to (standing_of x t), from)
    where
      asked : (o : Option AskedMark) → P (vote_where_asked m x t o) → (mark : AskedMark) × (o ≡ Some mark) × Q mark
      asked None h = absurd (never answer.Unasked refl h)
      asked (Some mark) h = (mark, refl, (on mark).0 h)

      to : (st : Standing) → P (vote_again_by m x t st) → (mark : AskedMark) × ((st ≡ IsActive) × (look x.asked t ≡ Some mark)) × Q mark
      to IsActive h = let p = asked (look x.asked t) h in (p.0, (refl, p.1), p.2)
      to IsVoted h = absurd (never answer.Voted refl h)
      to IsInstalled h = absurd (never answer.Already refl h)
      to IsAbsent h = absurd (never answer.Absent refl h)

      from : ((mark : AskedMark) × MayVoteAgain x t mark × Q mark) → P (member_vote m x t)
      from p =
          subst (λ st. P (vote_again_by m x t st)) (sym p.1.0) (subst (λ o. P (vote_where_asked m x t o)) (sym p.1.1) ((on p.0).1 p.2))

  pub alone : (x : MemberState) (t carried : ℕ) (P : MemberStep → Type 0) (Q : Type 0) → (P (says x answer.Absent) → ⊥) →
      Exactly (P (local_commit_by m x t carried (vote_of x.engine t carried))) Q → Exactly (P (member_local_commit m x t carried)) ((1 ≤ carried) × Q)
  alone x t carried P Q absent on = (to (carried == 0) refl, λ p. from (carried == 0) refl p.0 p.1)
    where
      some : (n : ℕ) → (n == 0) ≡ false → 1 ≤ n
      some n h = grind (arith, nat_tests, h)

      none : (n : ℕ) → 1 ≤ n → (n == 0) ≡ false
      none n h = grind (arith, nat_tests, h)

      to : (b : Bool) → (carried == 0) ≡ b → P (if b then says x answer.Absent else local_commit_by m x t carried (vote_of x.engine t carried)) → (1 ≤ carried) × Q
      to true e h = absurd (absent h)
      to false e h = (some carried e, on.0 h)

      from : (b : Bool) → (carried == 0) ≡ b → 1 ≤ carried → Q → P (if b then says x answer.Absent else local_commit_by m x t carried (vote_of x.engine t carried))
      from true e l h = absurd (let z : true ≡ false = sym e ∙ none carried l in cc)
      from false e l h = on.1 h

  -- a local transaction's verdict
  pub local_yes : (x : MemberState) (t carried : ℕ) → rank (local_commit_by m x t carried VoteYes).answer ≡ 0
  local_yes x t carried =
      forced_rank m (installed_state (voted_state x t local_coord (counted carried)) t)
      (log.Commit t [] ∷ prepare_record t local_coord (counted carried) (sets_of (operations_of x.engine t)) ∷ []) answer.Committed None refl

  alone_lost : (x : MemberState) (t carried : ℕ) → Exactly ((local_commit_by m x t carried (vote_of x.engine t carried)).answer ≡ answer.NoLost (counted (kept_count x.engine t)) (counted carried)) (vote_of x.engine t carried ≡ LostOperations)
  alone_lost x t carried = (by (vote_of x.engine t carried), ap (λ v. (local_commit_by m x t carried v).answer))
    where
      by : (v : Verdict) → (local_commit_by m x t carried v).answer ≡ answer.NoLost (counted (kept_count x.engine t)) (counted carried) → v ≡ LostOperations
      by LostOperations h = refl
      by (StaleRead key) h = apart (answer.NoStale key) (answer.NoLost (counted (kept_count x.engine t)) (counted carried)) h (λ z. omega (arith, z))
      by (HeldBy u) h = apart (answer.Held u) (answer.NoLost (counted (kept_count x.engine t)) (counted carried)) h (λ z. omega (arith, z))
      by VoteYes h = absurd (let z : 0 ≡ 1 = sym (local_yes x t carried) ∙ ap rank h in omega (arith, z))

  alone_stale : (x : MemberState) (t carried : ℕ) (key : List ℕ) → Exactly ((local_commit_by m x t carried (vote_of x.engine t carried)).answer ≡ answer.NoStale key) (vote_of x.engine t carried ≡ StaleRead key)
  alone_stale x t carried key = (by (vote_of x.engine t carried), ap (λ v. (local_commit_by m x t carried v).answer))
    where
      by : (v : Verdict) → (local_commit_by m x t carried v).answer ≡ answer.NoStale key → v ≡ StaleRead key
      by LostOperations h = apart (answer.NoLost (counted (kept_count x.engine t)) (counted carried)) (answer.NoStale key) h (λ z. omega (arith, z))
      by (StaleRead k) h = ap (λ a. StaleRead (key_named k a)) h
      by (HeldBy u) h = apart (answer.Held u) (answer.NoStale key) h (λ z. omega (arith, z))
      by VoteYes h = absurd (let z : 0 ≡ 2 = sym (local_yes x t carried) ∙ ap rank h in omega (arith, z))

  alone_held : (x : MemberState) (t carried u : ℕ) → Exactly ((local_commit_by m x t carried (vote_of x.engine t carried)).answer ≡ answer.Held u) (vote_of x.engine t carried ≡ HeldBy u)
  alone_held x t carried u = (by (vote_of x.engine t carried), ap (λ v. (local_commit_by m x t carried v).answer))
    where
      by : (v : Verdict) → (local_commit_by m x t carried v).answer ≡ answer.Held u → v ≡ HeldBy u
      by LostOperations h = apart (answer.NoLost (counted (kept_count x.engine t)) (counted carried)) (answer.Held u) h (λ z. omega (arith, z))
      by (StaleRead k) h = apart (answer.NoStale k) (answer.Held u) h (λ z. omega (arith, z))
      by (HeldBy v) h = ap (λ a. HeldBy (holder_named v a)) h
      by VoteYes h = absurd (let z : 0 ≡ 3 = sym (local_yes x t carried) ∙ ap rank h in omega (arith, z))

  -- another answer
  pub never : (x : MemberState) (a b : Answer) → rank a ≡ 0 → rank b ≢ 0 → (says x a).answer ≡ b → ⊥
  never x a b e n h = n (sym (ap rank h) ∙ e)

  -- the same count, the same coordinator
  same_one : {A B : Type 0} (n : ℕ) → Exactly A ((n ≡ n) × B) → Exactly A B
  same_one n e = (λ a. (e.0 a).1, λ b. e.1 (refl, b))

  pub no_exact : (x : MemberState) → NoIsExact m x
  no_exact x =
      record {
        lost = λ t coord count.
            prepares x t coord count (λ did. did.answer ≡ answer.NoLost (counted (kept_count x.engine t)) count) (vote_of x.engine t count ≡ LostOperations)
            (never x answer.Voted (answer.NoLost (counted (kept_count x.engine t)) count) refl (λ z. omega (arith, z)))
            (never x answer.Already (answer.NoLost (counted (kept_count x.engine t)) count) refl (λ z. omega (arith, z)))
            (same_one count (lost_on (with_mark x t coord count) t coord count count)) (same_one count (lost_on x t coord count count));
        stale = λ t coord count key.
            prepares x t coord count (λ did. did.answer ≡ answer.NoStale key) (vote_of x.engine t count ≡ StaleRead key)
            (never x answer.Voted (answer.NoStale key) refl (λ z. omega (arith, z))) (never x answer.Already (answer.NoStale key) refl (λ z. omega (arith, z)))
            (stale_on (with_mark x t coord count) t coord count key) (stale_on x t coord count key);
        sent = λ t coord count.
            prepares x t coord count (λ did. did.sent ≡ Some (message.Vote t m coord false)) (RefusesVote (vote_of x.engine t count))
            (not_a_no t m (coord_of x t) t m coord) (λ h. let z : false ≡ true = ap sends_some h in cc)
            (same_one coord (sent_on (with_mark x t coord count) t coord count coord)) (same_one coord (sent_on x t coord count coord));
        lost_again = λ t count.
            tries x t (λ did. did.answer ≡ answer.NoLost (counted (kept_count x.engine t)) count) (λ mark. (mark.count ≡ count) × (vote_of x.engine t mark.count ≡ LostOperations))
            (λ a e. never x a (answer.NoLost (counted (kept_count x.engine t)) count) e (λ z. omega (arith, z))) (λ mark. lost_on x t mark.coord mark.count count);
        stale_again = λ t key.
            tries x t (λ did. did.answer ≡ answer.NoStale key) (λ mark. vote_of x.engine t mark.count ≡ StaleRead key)
            (λ a e. never x a (answer.NoStale key) e (λ z. omega (arith, z))) (λ mark. stale_on x t mark.coord mark.count key);
        sent_again = λ t coord.
            tries x t (λ did. did.sent ≡ Some (message.Vote t m coord false)) (λ mark. (mark.coord ≡ coord) × RefusesVote (vote_of x.engine t mark.count))
            (λ a e h. let z : false ≡ true = ap sends_some h in cc) (λ mark. sent_on x t mark.coord mark.count coord);
        lost_alone = λ t carried.
            alone x t carried (λ did. did.answer ≡ answer.NoLost (counted (kept_count x.engine t)) (counted carried)) (vote_of x.engine t carried ≡ LostOperations)
            (never x answer.Absent (answer.NoLost (counted (kept_count x.engine t)) (counted carried)) refl (λ z. omega (arith, z))) (alone_lost x t carried);
        stale_alone = λ t carried key.
            alone x t carried (λ did. did.answer ≡ answer.NoStale key) (vote_of x.engine t carried ≡ StaleRead key)
            (never x answer.Absent (answer.NoStale key) refl (λ z. omega (arith, z))) (alone_stale x t carried key);
      }

  -- a held vote leaves what was there
  held_leaves : (y : MemberState) (t coord count u : ℕ) → (vote_on m y t coord count).answer ≡ answer.Held u → IsSilent (vote_on m y t coord count) × ((vote_on m y t coord count).state ≡ y)
  held_leaves y t coord count u h =
      subst (λ v. IsSilent (vote_by m y t coord count v) × ((vote_by m y t coord count v).state ≡ y)) (sym ((held_on y t coord count u).0 h)) ((refl, refl), refl)

  pub held_exact : (x : MemberState) → HeldIsExact m x
  held_exact x =
      record {
        prepare = λ t coord count u.
            prepares x t coord count (λ did. did.answer ≡ answer.Held u) (vote_of x.engine t count ≡ HeldBy u)
            (never x answer.Voted (answer.Held u) refl (λ z. omega (arith, z))) (never x answer.Already (answer.Held u) refl (λ z. omega (arith, z)))
            (held_on (with_mark x t coord count) t coord count u) (held_on x t coord count u);
        prepare_marks = λ t coord count u. marks t coord count u (standing_of x t) refl;
        again = λ t u.
            tries x t (λ did. did.answer ≡ answer.Held u) (λ mark. vote_of x.engine t mark.count ≡ HeldBy u)
            (λ a e. never x a (answer.Held u) e (λ z. omega (arith, z))) (λ mark. held_on x t mark.coord mark.count u);
        again_stays = λ t u. again t u (standing_of x t) (look x.asked t);
        alone = λ t carried u.
            alone x t carried (λ did. did.answer ≡ answer.Held u) (vote_of x.engine t carried ≡ HeldBy u)
            (never x answer.Absent (answer.Held u) refl (λ z. omega (arith, z))) (alone_held x t carried u);
        alone_stays = λ t carried u. by_itself t carried u (carried == 0);
      }
    where
      marks : (t coord count u : ℕ) (st : Standing) → standing_of x t ≡ st → (prepare_by m x t coord count st).answer ≡ answer.Held u →
          IsSilent (prepare_by m x t coord count st)
          × (((prepare_by m x t coord count st).state ≡ x) ⊎ ((standing_of x t ≡ IsActive) × ((prepare_by m x t coord count st).state ≡ with_mark x t coord count)))
      marks t coord count u IsActive e h = let p = held_leaves (with_mark x t coord count) t coord count u h in (p.0, inr (e, p.1))
      marks t coord count u IsVoted e h = absurd (never x answer.Voted (answer.Held u) refl (λ z. omega (arith, z)) h)
      marks t coord count u IsInstalled e h = absurd (never x answer.Already (answer.Held u) refl (λ z. omega (arith, z)) h)
      marks t coord count u IsAbsent e h = let p = held_leaves x t coord count u h in (p.0, inl p.1)

      again : (t u : ℕ) (st : Standing) (o : Option AskedMark) → (vote_again_by m x t st).answer ≡ answer.Held u → IsSilent (vote_again_by m x t st) × ((vote_again_by m x t st).state ≡ x)
      again t u IsActive o h = asked t u (look x.asked t) h
        where
          asked : (t u : ℕ) (o : Option AskedMark) → (vote_where_asked m x t o).answer ≡ answer.Held u → IsSilent (vote_where_asked m x t o) × ((vote_where_asked m x t o).state ≡ x)
          asked t u None h = absurd (never x answer.Unasked (answer.Held u) refl (λ z. omega (arith, z)) h)
          asked t u (Some mark) h = held_leaves x t mark.coord mark.count u h
      again t u IsVoted o h = absurd (never x answer.Voted (answer.Held u) refl (λ z. omega (arith, z)) h)
      again t u IsInstalled o h = absurd (never x answer.Already (answer.Held u) refl (λ z. omega (arith, z)) h)
      again t u IsAbsent o h = absurd (never x answer.Absent (answer.Held u) refl (λ z. omega (arith, z)) h)

      by_itself : (t carried u : ℕ) (b : Bool) → (if b then says x answer.Absent else local_commit_by m x t carried (vote_of x.engine t carried)).answer ≡ answer.Held u →
          IsSilent (if b then says x answer.Absent else local_commit_by m x t carried (vote_of x.engine t carried))
          × ((if b then says x answer.Absent else local_commit_by m x t carried (vote_of x.engine t carried)).state ≡ x)
      by_itself t carried u true h = absurd (never x answer.Absent (answer.Held u) refl (λ z. omega (arith, z)) h)
      by_itself t carried u false h =
          subst (λ v. IsSilent (local_commit_by m x t carried v) × ((local_commit_by m x t carried v).state ≡ x)) (sym ((alone_held x t carried u).0 h)) ((refl, refl), refl)

  -- a yes on a verdict
  yes_on : (x : MemberState) (t coord count d : ℕ) →
      Exactly ((vote_on m x t coord count).sent ≡ Some (message.Vote t m d true)) ((coord ≡ d) × (vote_of x.engine t count ≡ VoteYes) × is_completed x.log)
  yes_on x t coord count d = (to (vote_of x.engine t count), λ p. ap (λ v. (vote_by m x t coord count v).sent) p.1 ∙ written.1 (p.0, p.2))
    where
      stopped : {A : Type 0} (call : ℕ) (b : Bool) → (stopped_member m (voted_state x t coord count) call b (prepare_record t coord count (sets_of (operations_of x.engine t)) ∷ [])).sent ≡ Some (message.Vote t m d true) → A
      stopped call true h = absurd (let z : false ≡ true = ap sends_some h in cc)
      stopped call false h = absurd (let z : false ≡ true = ap sends_some h in cc)

      forced : (o : Outcome) → (forced_by m (voted_state x t coord count) (prepare_record t coord count (sets_of (operations_of x.engine t)) ∷ []) answer.Yes (Some (message.Vote t m coord true)) o).sent ≡ Some (message.Vote t m d true) →
          (coord ≡ d) × (o ≡ Completes)
      forced Completes h = (ap (coord_named 0) h, refl)
      forced (StopsAt call leaves) h = stopped call (batch_is_stable call leaves) h

      written : Exactly ((vote_by m x t coord count VoteYes).sent ≡ Some (message.Vote t m d true)) ((coord ≡ d) × is_completed x.log)
      written = (
        forced (outcome_of x.log.armed 4),
        λ p. ap (λ o. (forced_by m (voted_state x t coord count) (prepare_record t coord count (sets_of (operations_of x.engine t)) ∷ []) answer.Yes (Some (message.Vote t m coord true)) o).sent) p.1
            ∙ ap (λ c. Some (message.Vote t m c true)) p.0,
      )

      to : (v : Verdict) → (vote_by m x t coord count v).sent ≡ Some (message.Vote t m d true) → (coord ≡ d) × (v ≡ VoteYes) × is_completed x.log
      to LostOperations h = not_a_no t m d t m coord (sym h)
      to (StaleRead key) h = not_a_no t m d t m coord (sym h)
      to (HeldBy u) h = absurd (let z : false ≡ true = ap sends_some h in cc)
      to VoteYes h = let p = written.0 h in (p.0, refl, p.1)

  pub yes_sent_exact : (x : MemberState) → YesSentIsExact m x
  yes_sent_exact x =
      record {
        sent = λ t coord count d. (to t coord count d (standing_of x t) refl, from t coord count d);
        sent_again = λ t d.
            tries x t (λ did. did.sent ≡ Some (message.Vote t m d true)) (λ mark. (mark.coord ≡ d) × (vote_of x.engine t mark.count ≡ VoteYes) × is_completed x.log)
            (λ a e h. let z : false ≡ true = ap sends_some h in cc) (λ mark. yes_on x t mark.coord mark.count d);
      }
    where
      to : (t coord count d : ℕ) (st : Standing) → standing_of x t ≡ st → (prepare_by m x t coord count st).sent ≡ Some (message.Vote t m d true) →
          ((standing_of x t ≡ IsVoted) × (coord_of x t ≡ d)) ⊎ (MayVote x t × ((coord ≡ d) × (vote_of x.engine t count ≡ VoteYes) × is_completed x.log))
      to t coord count d IsActive e h = inr (ap is_balloted e, (yes_on (with_mark x t coord count) t coord count d).0 h)
      to t coord count d IsVoted e h = inl (e, ap (coord_named 0) h)
      to t coord count d IsInstalled e h = absurd (let z : false ≡ true = ap sends_some h in cc)
      to t coord count d IsAbsent e h = inr (ap is_balloted e, (yes_on x t coord count d).0 h)

      by : (t coord count d : ℕ) (st : Standing) → is_balloted st ≡ true → (coord ≡ d) × (vote_of x.engine t count ≡ VoteYes) × is_completed x.log → (prepare_by m x t coord count st).sent ≡ Some (message.Vote t m d true)
      by t coord count d IsActive e p = (yes_on (with_mark x t coord count) t coord count d).1 p
      by t coord count d IsVoted e p = absurd (let z : false ≡ true = e in cc)
      by t coord count d IsInstalled e p = absurd (let z : false ≡ true = e in cc)
      by t coord count d IsAbsent e p = (yes_on x t coord count d).1 p

      from : (t coord count d : ℕ) → ((standing_of x t ≡ IsVoted) × (coord_of x t ≡ d)) ⊎ (MayVote x t × ((coord ≡ d) × (vote_of x.engine t count ≡ VoteYes) × is_completed x.log)) →
          (member_prepare m x t coord count).sent ≡ Some (message.Vote t m d true)
      from t coord count d (inl p) = ap (λ st. (prepare_by m x t coord count st).sent) p.0 ∙ ap (λ c. Some (message.Vote t m c true)) p.1
      from t coord count d (inr p) = by t coord count d (standing_of x t) p.0 p.1

  -- a no to a prepare, to whichever coordinator
  pub no_sent_exact : (x : MemberState) (t coord count d : ℕ) →
      Exactly ((member_prepare m x t coord count).sent ≡ Some (message.Vote t m d false)) (MayVote x t × ((coord ≡ d) × RefusesVote (vote_of x.engine t count)))
  no_sent_exact x t coord count d =
      prepares x t coord count (λ did. did.sent ≡ Some (message.Vote t m d false)) ((coord ≡ d) × RefusesVote (vote_of x.engine t count))
      (not_a_no t m (coord_of x t) t m d) (λ h. let z : false ≡ true = ap sends_some h in cc) (sent_on (with_mark x t coord count) t coord count d) (sent_on x t coord count d)
