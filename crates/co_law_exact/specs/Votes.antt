-- Why a vote is refused, held or granted, and why an operation is refused: each both ways.
use Rattle.std.specs.Prelude.{ℕ, true, false, ◌≡◌, ◌≢◌, ◌≤◌, ◌⊎◌, List, [], Option, None, Some}
use Rattle.co_base.specs.declared.op.Op.{Op}
use Rattle.co_base.specs.declared.reply.Reply.{Reply}
use Rattle.co_base.specs.Limits.{most_operations}
use Rattle.co_message.specs.declared.answer.Answer.TheVariants as answer
use Rattle.co_message.specs.declared.message.Message.TheVariants as message
use Rattle.co_state.specs.declared.engine_state.EngineState.{EngineState}
use Rattle.co_state.specs.declared.verdict.Verdict.{Verdict}
use Rattle.co_state.specs.declared.verdict.Verdict.TheVariants.{LostOperations, StaleRead, HeldBy, VoteYes}
use Rattle.co_state.specs.Changes.{sets_of}
use Rattle.co_state.specs.EngineState.{operations_of}
use Rattle.co_state.specs.LockRule.{lock_blocker}
use Rattle.co_state.specs.ReadRule.{operation_reply}
use Rattle.co_state.specs.StaleRead.{stale_key}
use Rattle.co_state.specs.Table.{look}
use Rattle.co_state.specs.VotingRule.{holder_of, kept_count, vote_of}
use Rattle.co_plain.specs.declared.member_state.AskedMark.{AskedMark}
use Rattle.co_plain.specs.declared.member_state.MemberState.{MemberState}
use Rattle.co_plain.specs.declared.member_step.MemberStep.{MemberStep}
use Rattle.co_plain.specs.declared.standing.Standing.TheVariants.{IsActive, IsVoted}
use Rattle.co_plain.specs.Numbers.{counted}
use Rattle.co_plain.specs.MemberStep.{standing_of}
use Rattle.co_plain.specs.Member.{coord_of, member_op, member_prepare, member_vote, with_mark}
use Rattle.co_plain.specs.LocalCommit.{member_local_commit}
use Rattle.co_law_node.specs.Causes.{Exactly, is_balloted, is_completed}

-- the least other transaction in the way of this one
abbrev pub holder_here : EngineState → ℕ → Option ℕ
holder_here b t = holder_of b t (sets_of (operations_of b t))

-- The verdict, by its parts in their order: counts, reads, and who is in the way.
pub record VerdictIsExact (b : EngineState) (t carried : ℕ) : Type 0 where
  pub lost : Exactly (vote_of b t carried ≡ LostOperations) (kept_count b t ≢ carried)
  pub stale : (key : List ℕ) → Exactly (vote_of b t carried ≡ StaleRead key) ((kept_count b t ≡ carried) × (stale_key b t ≡ Some key))
  pub held : (u : ℕ) → Exactly (vote_of b t carried ≡ HeldBy u) ((kept_count b t ≡ carried) × (stale_key b t ≡ None) × (holder_here b t ≡ Some u))
  pub granted : Exactly (vote_of b t carried ≡ VoteYes) ((kept_count b t ≡ carried) × (stale_key b t ≡ None) × (holder_here b t ≡ None))

-- a verdict that refuses
abbrev pub RefusesVote : Verdict → Type 0
RefusesVote LostOperations = Unit {0}
RefusesVote (StaleRead key) = Unit {0}
RefusesVote (HeldBy u) = ⊥
RefusesVote VoteYes = ⊥

-- The transaction may be voted on: it is active or nowhere. And it may be voted on again: it is active, and was asked with this
-- coordinator and count.
abbrev pub MayVote : MemberState → ℕ → Type 0
MayVote x t = is_balloted (standing_of x t) ≡ true

abbrev pub MayVoteAgain : MemberState → ℕ → AskedMark → Type 0
MayVoteAgain x t mark = (standing_of x t ≡ IsActive) × (look x.asked t ≡ Some mark)

-- A no, to a prepare, to a vote that is tried again, and to a local transaction.
pub record NoIsExact (m : ℕ) (x : MemberState) : Type 0 where
  pub lost : (t coord count : ℕ) → Exactly ((member_prepare m x t coord count).answer ≡ answer.NoLost (counted (kept_count x.engine t)) count)
      (MayVote x t × (vote_of x.engine t count ≡ LostOperations))
  pub stale : (t coord count : ℕ) (key : List ℕ) → Exactly ((member_prepare m x t coord count).answer ≡ answer.NoStale key)
      (MayVote x t × (vote_of x.engine t count ≡ StaleRead key))
  pub sent : (t coord count : ℕ) → Exactly ((member_prepare m x t coord count).sent ≡ Some (message.Vote t m coord false))
      (MayVote x t × RefusesVote (vote_of x.engine t count))
  pub lost_again : (t count : ℕ) → Exactly ((member_vote m x t).answer ≡ answer.NoLost (counted (kept_count x.engine t)) count)
      ((mark : AskedMark) × MayVoteAgain x t mark × ((mark.count ≡ count) × (vote_of x.engine t mark.count ≡ LostOperations)))
  pub stale_again : (t : ℕ) (key : List ℕ) → Exactly ((member_vote m x t).answer ≡ answer.NoStale key)
      ((mark : AskedMark) × MayVoteAgain x t mark × (vote_of x.engine t mark.count ≡ StaleRead key))
  pub sent_again : (t coord : ℕ) → Exactly ((member_vote m x t).sent ≡ Some (message.Vote t m coord false))
      ((mark : AskedMark) × MayVoteAgain x t mark × ((mark.coord ≡ coord) × RefusesVote (vote_of x.engine t mark.count)))
  pub lost_alone : (t carried : ℕ) → Exactly ((member_local_commit m x t carried).answer ≡ answer.NoLost (counted (kept_count x.engine t)) (counted carried))
      ((1 ≤ carried) × (vote_of x.engine t carried ≡ LostOperations))
  pub stale_alone : (t carried : ℕ) (key : List ℕ) → Exactly ((member_local_commit m x t carried).answer ≡ answer.NoStale key)
      ((1 ≤ carried) × (vote_of x.engine t carried ≡ StaleRead key))

-- A yes is sent: where the rule grants it and the prepare record was written, and again where the transaction is voted already, to
-- the coordinator that it was voted for.
pub record YesSentIsExact (m : ℕ) (x : MemberState) : Type 0 where
  pub sent : (t coord count d : ℕ) → Exactly ((member_prepare m x t coord count).sent ≡ Some (message.Vote t m d true))
      (((standing_of x t ≡ IsVoted) × (coord_of x t ≡ d)) ⊎ (MayVote x t × ((coord ≡ d) × (vote_of x.engine t count ≡ VoteYes) × is_completed x.log)))
  pub sent_again : (t d : ℕ) → Exactly ((member_vote m x t).sent ≡ Some (message.Vote t m d true))
      ((mark : AskedMark) × MayVoteAgain x t mark × ((mark.coord ≡ d) × (vote_of x.engine t mark.count ≡ VoteYes) × is_completed x.log))

-- nothing is sent, and nothing became stable
abbrev pub IsSilent : MemberStep → Type 0
IsSilent did = (did.sent ≡ None) × (did.marks ≡ [])

-- A vote that is held: what is in the way is named, and nothing changes but that an active transaction is marked as asked.
pub record HeldIsExact (m : ℕ) (x : MemberState) : Type 0 where
  pub prepare : (t coord count u : ℕ) → Exactly ((member_prepare m x t coord count).answer ≡ answer.Held u)
      (MayVote x t × (vote_of x.engine t count ≡ HeldBy u))
  pub prepare_marks : (t coord count u : ℕ) → (member_prepare m x t coord count).answer ≡ answer.Held u →
      IsSilent (member_prepare m x t coord count)
      × (((member_prepare m x t coord count).state ≡ x) ⊎ ((standing_of x t ≡ IsActive) × ((member_prepare m x t coord count).state ≡ with_mark x t coord count)))
  pub again : (t u : ℕ) → Exactly ((member_vote m x t).answer ≡ answer.Held u)
      ((mark : AskedMark) × MayVoteAgain x t mark × (vote_of x.engine t mark.count ≡ HeldBy u))
  pub again_stays : (t u : ℕ) → (member_vote m x t).answer ≡ answer.Held u → IsSilent (member_vote m x t) × ((member_vote m x t).state ≡ x)
  pub alone : (t carried u : ℕ) → Exactly ((member_local_commit m x t carried).answer ≡ answer.Held u)
      ((1 ≤ carried) × (vote_of x.engine t carried ≡ HeldBy u))
  pub alone_stays : (t carried u : ℕ) → (member_local_commit m x t carried).answer ≡ answer.Held u →
      IsSilent (member_local_commit m x t carried) × ((member_local_commit m x t carried).state ≡ x)

-- An operation of a transaction, of which the client was told so many at this member.
pub record OperationIsExact (x : MemberState) : Type 0 where
  pub gone : (t carried : ℕ) (op : Op) → Exactly ((member_op x t carried op).answer ≡ answer.Gone (counted (kept_count x.engine t)) (counted carried))
      (kept_count x.engine t ≢ carried)
  pub too_many : (t carried : ℕ) (op : Op) → Exactly ((member_op x t carried op).answer ≡ answer.TooMany)
      ((kept_count x.engine t ≡ carried) × (carried ≡ most_operations))
  pub blocked : (t carried u : ℕ) (op : Op) → Exactly ((member_op x t carried op).answer ≡ answer.Blocked u)
      ((kept_count x.engine t ≡ carried) × (carried ≢ most_operations) × (lock_blocker x.engine t op ≡ Some u))
  pub replied : (t carried : ℕ) (op : Op) (reply : Reply) → Exactly ((member_op x t carried op).answer ≡ answer.Replied reply)
      ((kept_count x.engine t ≡ carried) × (carried ≢ most_operations) × (lock_blocker x.engine t op ≡ None) × (operation_reply x.engine t op ≡ reply))
  pub stays : (t carried : ℕ) (op : Op) → ((reply : Reply) → (member_op x t carried op).answer ≢ answer.Replied reply) →
      IsSilent (member_op x t carried op) × ((member_op x t carried op).state ≡ x)
