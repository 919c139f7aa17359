-- Why a vote is refused for lost operations: with the counts that the answer names.
use Rattle.std.proofs.Common.{◌≡◌, ℕ, ◌≤◌, refl, sym, ap, ◌∙◌, arith}
use Rattle.co_message.specs.declared.answer.Answer.{Answer}
use Rattle.co_message.specs.declared.answer.Answer.TheVariants as answer
use Rattle.co_state.specs.declared.verdict.Verdict.{Verdict}
use Rattle.co_state.specs.declared.verdict.Verdict.TheVariants.{LostOperations, StaleRead, HeldBy, VoteYes}
use Rattle.co_state.specs.VotingRule.{kept_count, vote_of}
use Rattle.co_plain.specs.declared.member_state.AskedMark.{AskedMark}
use Rattle.co_plain.specs.declared.member_state.MemberState.{MemberState}
use Rattle.co_plain.specs.Numbers.{counted}
use Rattle.co_plain.specs.Member.{vote_by, vote_on, with_mark, member_prepare, member_vote}
use Rattle.co_plain.specs.LocalCommit.{local_commit_by, member_local_commit}
use Rattle.co_law_node.specs.Causes.{Exactly}
use Rattle.co_law_exact.specs.Votes.{MayVote, MayVoteAgain}
use Rattle.co_law_exact.specs.Events.{FindsLost}
use Rattle.co_law_exact.proofs.Ballots.{rank, count_named, apart, no_yes, prepares, tries, local_yes, never, alone}

abbrev kept_named : ℕ → Answer → ℕ
kept_named d (answer.NoLost kept count) = kept
kept_named d _ = d

module _ (m : ℕ) (x : MemberState) (t kept count : ℕ) where
  abbrev IsLost : Answer
  IsLost = answer.NoLost kept count

  on : (y : MemberState) (coord carried : ℕ) → Exactly ((vote_on m y t coord carried).answer ≡ IsLost) (FindsLost kept count y t carried carried)
  on y coord carried = (to (vote_of y.engine t carried), λ p. ap (λ v. (vote_by m y t coord carried v).answer) p.0 ∙ (λ i. answer.NoLost (p.1 i) (p.2 i)))
    where
      to : (v : Verdict) → (vote_by m y t coord carried v).answer ≡ IsLost → (v ≡ LostOperations) × (counted (kept_count y.engine t) ≡ kept) × (carried ≡ count)
      to LostOperations h = (refl, ap (kept_named 0) h, ap (count_named 0) h)
      to (StaleRead key) h = apart (answer.NoStale key) IsLost h (λ z. omega (arith, z))
      to (HeldBy u) h = apart (answer.Held u) IsLost h (λ z. omega (arith, z))
      to VoteYes h = no_yes m y t coord carried IsLost h (λ z. omega (arith, z))

  pub lost_prepare : (coord n : ℕ) → Exactly ((member_prepare m x t coord n).answer ≡ IsLost) (MayVote x t × FindsLost kept count x t n n)
  lost_prepare coord n =
      prepares m x t coord n (λ did. did.answer ≡ IsLost) (FindsLost kept count x t n n)
      (never m x answer.Voted IsLost refl (λ z. omega (arith, z))) (never m x answer.Already IsLost refl (λ z. omega (arith, z))) (on (with_mark x t coord n) coord n) (on x coord n)

  pub lost_again : Exactly ((member_vote m x t).answer ≡ IsLost) ((mark : AskedMark) × MayVoteAgain x t mark × FindsLost kept count x t mark.count mark.count)
  lost_again =
      tries m x t (λ did. did.answer ≡ IsLost) (λ mark. FindsLost kept count x t mark.count mark.count) (λ a e. never m x a IsLost e (λ z. omega (arith, z)))
      (λ mark. on x mark.coord mark.count)

  pub lost_alone : (carried : ℕ) → Exactly ((member_local_commit m x t carried).answer ≡ IsLost) ((1 ≤ carried) × FindsLost kept count x t carried (counted carried))
  lost_alone carried =
      alone m x t carried (λ did. did.answer ≡ IsLost) (FindsLost kept count x t carried (counted carried)) (never m x answer.Absent IsLost refl (λ z. omega (arith, z)))
      (to (vote_of x.engine t carried), λ p. ap (λ v. (local_commit_by m x t carried v).answer) p.0 ∙ (λ i. answer.NoLost (p.1 i) (p.2 i)))
    where
      to : (v : Verdict) → (local_commit_by m x t carried v).answer ≡ IsLost → (v ≡ LostOperations) × (counted (kept_count x.engine t) ≡ kept) × (counted carried ≡ count)
      to LostOperations h = (refl, ap (kept_named 0) h, ap (count_named 0) h)
      to (StaleRead key) h = apart (answer.NoStale key) IsLost h (λ z. omega (arith, z))
      to (HeldBy u) h = apart (answer.Held u) IsLost h (λ z. omega (arith, z))
      to VoteYes h = absurd (let z : 0 ≡ 1 = sym (local_yes m x t carried) ∙ ap rank h in omega (arith, z))
