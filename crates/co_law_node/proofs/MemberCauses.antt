-- A member answers yes, or decides alone, exactly where its table says so and its write completes.
use Rattle.std.proofs.Common.{◌≡◌, ℕ, Bool, true, false, ◌==◌, ◌≤◌, if◌then◌else◌, List, [], ◌∷◌, Option, None, Some, refl, ap, ◌∙◌, arith}
use Rattle.std.proofs.lemmas.Bool.Decides.{nat_tests}
use Rattle.co_message.specs.declared.answer.Answer.{Answer}
use Rattle.co_message.specs.declared.answer.Answer.TheVariants as answer
use Rattle.co_message.specs.declared.message.Message.{Message}
use Rattle.co_message.specs.declared.message.Message.TheVariants as message
use Rattle.co_record.specs.declared.record.Record.{Record}
use Rattle.co_record.specs.declared.record.Record.TheVariants as log
use Rattle.co_frame.specs.Gate.{batch_is_stable}
use Rattle.co_state.specs.declared.verdict.Verdict.{Verdict}
use Rattle.co_state.specs.declared.verdict.Verdict.TheVariants.{LostOperations, StaleRead, HeldBy, VoteYes}
use Rattle.co_state.specs.Changes.{sets_of}
use Rattle.co_state.specs.EngineState.{operations_of}
use Rattle.co_state.specs.Table.{look}
use Rattle.co_state.specs.VotingRule.{vote_of}
use Rattle.co_plain.specs.declared.member_state.AskedMark.{AskedMark}
use Rattle.co_plain.specs.declared.member_state.MemberState.{MemberState}
use Rattle.co_plain.specs.declared.outcome.Outcome.{Outcome}
use Rattle.co_plain.specs.declared.outcome.Outcome.TheVariants.{Completes, StopsAt}
use Rattle.co_plain.specs.declared.standing.Standing.{Standing}
use Rattle.co_plain.specs.declared.standing.Standing.TheVariants.{IsActive, IsVoted, IsInstalled, IsAbsent}
use Rattle.co_plain.specs.Numbers.{counted}
use Rattle.co_plain.specs.LogWrite.{outcome_of}
use Rattle.co_plain.specs.MemberStep.{says, standing_of, stopped_member, forced_by, force_member}
use Rattle.co_plain.specs.Member.{prepare_record, voted_state, installed_state, vote_by, vote_on, with_mark, prepare_by, member_prepare, vote_where_asked, vote_again_by, member_vote}
use Rattle.co_plain.specs.LocalCommit.{local_coord, local_commit_by, member_local_commit}
use Rattle.co_law_node.specs.Causes.{Exactly, is_completed, is_balloted, YesIsExact}

-- another answer than the one that is asked about
other : {A : Type 0} {a b : Answer} → (a ≡ b → ⊥) → a ≡ b → A
other n e = absurd (n e)

-- a forced write answers as given exactly where it completes
forced_answer : (m : ℕ) (next : MemberState) (batch : List Record) (a : Answer) (note : Option Message) → ((call : ℕ) → answer.Stopped call ≡ a → ⊥) →
    Exactly ((force_member m next batch a note).answer ≡ a) (outcome_of next.log.armed 4 ≡ Completes)
forced_answer m next batch a note apart = (to, λ e. ap (λ o. (forced_by m next batch a note o).answer) e)
  where
    stopped : (call : ℕ) (b : Bool) {A : Type 0} → (stopped_member m next call b batch).answer ≡ a → A
    stopped call true h = absurd (apart call h)
    stopped call false h = absurd (apart call h)

    by : (o : Outcome) → (forced_by m next batch a note o).answer ≡ a → o ≡ Completes
    by Completes h = refl
    by (StopsAt call leaves) h = stopped call (batch_is_stable call leaves) h

    to : (force_member m next batch a note).answer ≡ a → outcome_of next.log.armed 4 ≡ Completes
    to = by (outcome_of next.log.armed 4)

module _ (m : ℕ) where
  votes_exactly : (x : MemberState) (t coord count : ℕ) → Exactly ((vote_on m x t coord count).answer ≡ answer.Yes) ((vote_of x.engine t count ≡ VoteYes) × is_completed x.log)
  votes_exactly x t coord count = (by (vote_of x.engine t count), λ p. ap (λ v. (vote_by m x t coord count v).answer) p.0 ∙ written.1 p.1)
    where
      written : Exactly ((vote_by m x t coord count VoteYes).answer ≡ answer.Yes) (outcome_of x.log.armed 4 ≡ Completes)
      written =
          forced_answer m (voted_state x t coord count) (prepare_record t coord count (sets_of (operations_of x.engine t)) ∷ []) answer.Yes (Some (message.Vote t m coord true))
          (λ call e. let z : answer.Stopped call ≡ answer.Yes = e in cc)

      by : (v : Verdict) → (vote_by m x t coord count v).answer ≡ answer.Yes → (v ≡ VoteYes) × is_completed x.log
      by LostOperations h = other (λ e. cc) h
      by (StaleRead key) h = other (λ e. cc) h
      by (HeldBy u) h = other (λ e. cc) h
      by VoteYes h = (refl, written.0 h)

  prepares_exactly : (x : MemberState) (t coord count : ℕ) →
      Exactly ((member_prepare m x t coord count).answer ≡ answer.Yes) ((is_balloted (standing_of x t) ≡ true) × (vote_of x.engine t count ≡ VoteYes) × is_completed x.log)
  prepares_exactly x t coord count = (to (standing_of x t), λ p. from (standing_of x t) p.0 (p.1, p.2))
    where
      to : (st : Standing) → (prepare_by m x t coord count st).answer ≡ answer.Yes → (is_balloted st ≡ true) × (vote_of x.engine t count ≡ VoteYes) × is_completed x.log
      to IsActive h = let p = (votes_exactly (with_mark x t coord count) t coord count).0 h in (refl, p.0, p.1)
      to IsVoted h = other (λ e. cc) h
      to IsInstalled h = other (λ e. cc) h
      to IsAbsent h = let p = (votes_exactly x t coord count).0 h in (refl, p.0, p.1)

      from : (st : Standing) → is_balloted st ≡ true → (vote_of x.engine t count ≡ VoteYes) × is_completed x.log → (prepare_by m x t coord count st).answer ≡ answer.Yes
      from IsActive e p = (votes_exactly (with_mark x t coord count) t coord count).1 p
      from IsVoted e p = absurd (let z : false ≡ true = e in cc)
      from IsInstalled e p = absurd (let z : false ≡ true = e in cc)
      from IsAbsent e p = (votes_exactly x t coord count).1 p

  tries_exactly : (x : MemberState) (t : ℕ) →
      Exactly ((member_vote m x t).answer ≡ answer.Yes)
      ((standing_of x t ≡ IsActive) × ((mark : AskedMark) × (look x.asked t ≡ Some mark) × (vote_of x.engine t mark.count ≡ VoteYes)) × is_completed x.log)
  tries_exactly x t = (to (standing_of x t), from)
    where
      asked : (o : Option AskedMark) → (vote_where_asked m x t o).answer ≡ answer.Yes →
          ((mark : AskedMark) × (o ≡ Some mark) × (vote_of x.engine t mark.count ≡ VoteYes)) × is_completed x.log
      asked None h = other (λ e. cc) h
      asked (Some mark) h = let p = (votes_exactly x t mark.coord mark.count).0 h in ((mark, refl, p.0), p.1)

      to : (st : Standing) → (vote_again_by m x t st).answer ≡ answer.Yes →
          (st ≡ IsActive) × ((mark : AskedMark) × (look x.asked t ≡ Some mark) × (vote_of x.engine t mark.count ≡ VoteYes)) × is_completed x.log
      to IsActive h = let p = asked (look x.asked t) h in (refl, p.0, p.1)
      to IsVoted h = other (λ e. cc) h
      to IsInstalled h = other (λ e. cc) h
      to IsAbsent h = other (λ e. cc) h

      from : (standing_of x t ≡ IsActive) × ((mark : AskedMark) × (look x.asked t ≡ Some mark) × (vote_of x.engine t mark.count ≡ VoteYes)) × is_completed x.log →
          (member_vote m x t).answer ≡ answer.Yes
      from p =
          ap (λ st. (vote_again_by m x t st).answer) p.0 ∙ ap (λ o. (vote_where_asked m x t o).answer) p.1.1
          ∙ (votes_exactly x t p.1.0.coord p.1.0.count).1 (p.1.2, p.2)

  alone_exactly : (x : MemberState) (t carried : ℕ) →
      Exactly ((member_local_commit m x t carried).answer ≡ answer.Committed) ((1 ≤ carried) × (vote_of x.engine t carried ≡ VoteYes) × is_completed x.log)
  alone_exactly x t carried = (to (carried == 0) refl, from)
    where
      written : Exactly ((local_commit_by m x t carried VoteYes).answer ≡ answer.Committed) (outcome_of x.log.armed 4 ≡ Completes)
      written =
          forced_answer m (installed_state (voted_state x t local_coord (counted carried)) t)
          (log.Commit t [] ∷ prepare_record t local_coord (counted carried) (sets_of (operations_of x.engine t)) ∷ []) answer.Committed None
          (λ call e. let z : answer.Stopped call ≡ answer.Committed = e in cc)

      granted : (v : Verdict) → (local_commit_by m x t carried v).answer ≡ answer.Committed → (v ≡ VoteYes) × is_completed x.log
      granted LostOperations h = other (λ e. cc) h
      granted (StaleRead key) h = other (λ e. cc) h
      granted (HeldBy u) h = other (λ e. cc) h
      granted VoteYes h = (refl, written.0 h)

      some : (n : ℕ) → (n == 0) ≡ false → 1 ≤ n
      some n h = grind (arith, nat_tests, h)

      none : (n : ℕ) → 1 ≤ n → (n == 0) ≡ false
      none n h = grind (arith, nat_tests, h)

      to : (b : Bool) → (carried == 0) ≡ b → (if b then says x answer.Absent else local_commit_by m x t carried (vote_of x.engine t carried)).answer ≡ answer.Committed →
          (1 ≤ carried) × (vote_of x.engine t carried ≡ VoteYes) × is_completed x.log
      to true e h = other (λ q. cc) h
      to false e h = let p = granted (vote_of x.engine t carried) h in (some carried e, p.0, p.1)

      from : (1 ≤ carried) × (vote_of x.engine t carried ≡ VoteYes) × is_completed x.log → (member_local_commit m x t carried).answer ≡ answer.Committed
      from p =
          ap (λ b. (if b then says x answer.Absent else local_commit_by m x t carried (vote_of x.engine t carried)).answer) (none carried p.0)
          ∙ ap (λ v. (local_commit_by m x t carried v).answer) p.1 ∙ written.1 p.2

  pub yes_exact : (x : MemberState) → YesIsExact m x
  yes_exact x = record { prepare = prepares_exactly x; vote = tries_exactly x; alone = alone_exactly x }
