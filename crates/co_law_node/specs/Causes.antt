-- Why a member answers yes, and why a transaction is decided: each exactly where the tables say so and the log write does not
-- prevent it.
use Rattle.std.specs.Prelude.{ℕ, Bool, true, false, ◌&&◌, ◌||◌, ◌==◌, ◌≡◌, ◌≤◌, List, [], ◌∷◌, None, Some}
use Rattle.co_base.specs.declared.mark.Mark.{Mark}
use Rattle.co_base.specs.declared.mark.MarkKind.{MarkKind}
use Rattle.co_base.specs.declared.mark.MarkKind.TheVariants as kind
use Rattle.co_base.specs.declared.part.Part.{Part}
use Rattle.co_message.specs.declared.answer.Answer.TheVariants as answer
use Rattle.co_frame.specs.Gate.{batch_is_stable}
use Rattle.co_state.specs.declared.verdict.Verdict.TheVariants.{VoteYes}
use Rattle.co_state.specs.Table.{look}
use Rattle.co_state.specs.VotingRule.{vote_of}
use Rattle.co_plain.specs.declared.coord_state.CoordState.{CoordState}
use Rattle.co_plain.specs.declared.coord_state.Entry.TheVariants as entry
use Rattle.co_plain.specs.declared.log_state.LogState.{LogState}
use Rattle.co_plain.specs.declared.member_state.AskedMark.{AskedMark}
use Rattle.co_plain.specs.declared.member_state.MemberState.{MemberState}
use Rattle.co_plain.specs.declared.outcome.Outcome.{Outcome}
use Rattle.co_plain.specs.declared.outcome.Outcome.TheVariants.{Completes, StopsAt}
use Rattle.co_plain.specs.declared.standing.Standing.{Standing}
use Rattle.co_plain.specs.declared.standing.Standing.TheVariants.{IsActive, IsVoted, IsInstalled, IsAbsent}
use Rattle.co_plain.specs.Numbers.{first_lacking, has_number}
use Rattle.co_plain.specs.LogWrite.{outcome_of}
use Rattle.co_plain.specs.MemberStep.{standing_of}
use Rattle.co_plain.specs.Member.{member_prepare, member_vote}
use Rattle.co_plain.specs.LocalCommit.{member_local_commit}
use Rattle.co_plain.specs.CoordStep.{has_part, members_of}
use Rattle.co_plain.specs.Coordinator.{coord_commit, coord_vote}

-- each of two follows from the other
abbrev pub Exactly : Type 0 → Type 0 → Type 0
Exactly A B = (A → B) × (B → A)

-- a forced write completes; and its records are stable after it, though it may have been stopped with its gate open
abbrev pub is_completed : LogState → Type 0
is_completed l = outcome_of l.armed 4 ≡ Completes

abbrev pub is_stable_after : Outcome → Bool
is_stable_after Completes = true
is_stable_after (StopsAt call leaves) = batch_is_stable call leaves

-- a prepare leads to a ballot on who is active and on who is nowhere
abbrev pub is_balloted : Standing → Bool
is_balloted IsActive = true
is_balloted IsVoted = false
is_balloted IsInstalled = false
is_balloted IsAbsent = true

-- The answer is yes where the voting rule says yes and the prepare record was written.
pub record YesIsExact (m : ℕ) (x : MemberState) : Type 0 where
  pub prepare : (t coord count : ℕ) → Exactly ((member_prepare m x t coord count).answer ≡ answer.Yes)
      ((is_balloted (standing_of x t) ≡ true) × (vote_of x.engine t count ≡ VoteYes) × is_completed x.log)
  -- a held vote is tried again
  pub vote : (t : ℕ) → Exactly ((member_vote m x t).answer ≡ answer.Yes)
      ((standing_of x t ≡ IsActive) × ((mark : AskedMark) × (look x.asked t ≡ Some mark) × (vote_of x.engine t mark.count ≡ VoteYes)) × is_completed x.log)
  -- a member that decides alone
  pub alone : (t carried : ℕ) → Exactly ((member_local_commit m x t carried).answer ≡ answer.Committed)
      ((1 ≤ carried) × (vote_of x.engine t carried ≡ VoteYes) × is_completed x.log)

abbrev pub is_commit : MarkKind → Bool
is_commit kind.Commit = true
is_commit _ = false

-- whether a commit record of the transaction is among those that became stable
abbrev pub marks_commit : List Mark → ℕ → Bool
marks_commit [] t = false
marks_commit (k ∷ ks) t = (is_commit k.kind && (k.number == t)) || marks_commit ks t

-- the row of a commit at once: an idle transaction without participants
abbrev pub IsAlone : CoordState → ℕ → List Part → Type 0
IsAlone y t parts = (look y.table t ≡ Some entry.Idle) × (parts ≡ [])

-- the row of the last yes: a participant whose yes was the only one that lacked
abbrev pub IsLastYes : CoordState → ℕ → ℕ → Type 0
IsLastYes y t m =
    (parts : List Part) × (yeses : List ℕ) × (look y.table t ≡ Some (entry.Collecting parts yeses)) × (has_part parts m ≡ true)
    × (has_number yeses m ≡ false) × (first_lacking (members_of parts) (m ∷ yeses) ≡ None)

-- A commit record becomes stable in these two rows where its write leaves it stable, and is answered where the write completes.
pub record DecisionIsExact (c : ℕ) (y : CoordState) : Type 0 where
  pub alone : (t : ℕ) (parts : List Part) → Exactly (marks_commit (coord_commit c y t parts).marks t ≡ true)
      (IsAlone y t parts × (is_stable_after (outcome_of y.log.armed 4) ≡ true))
  pub alone_answered : (t : ℕ) (parts : List Part) → Exactly ((coord_commit c y t parts).answer ≡ answer.Committed) (IsAlone y t parts × is_completed y.log)
  pub last_yes : (t m : ℕ) → Exactly (marks_commit (coord_vote c y t m true).marks t ≡ true)
      (IsLastYes y t m × (is_stable_after (outcome_of y.log.armed 4) ≡ true))
  pub last_yes_answered : (t m : ℕ) → Exactly ((coord_vote c y t m true).answer ≡ answer.Committed) (IsLastYes y t m × is_completed y.log)
