-- Local transactions: a member decides them alone, by its own commit record, and sends nothing.
use Rattle.std.specs.Prelude.{◌==◌, [], ◌∷◌, if◌then◌else◌, None}
use Rattle.co_message.specs.declared.answer.Answer.TheVariants as answer
use Rattle.co_message.specs.declared.answer.Cause.TheVariants as cause
use Rattle.co_record.specs.declared.record.Record.TheVariants as log
use Rattle.co_state.specs.Changes.{sets_of}
use Rattle.co_state.specs.EngineState.{operations_of}
use Rattle.co_state.specs.declared.verdict.Verdict.{Verdict}
use Rattle.co_state.specs.declared.verdict.Verdict.TheVariants.{LostOperations, StaleRead, HeldBy, VoteYes}
use Rattle.co_state.specs.VotingRule.{vote_of, kept_count}
use Rattle.co_plain.specs.declared.member_state.MemberState.{MemberState}
use Rattle.co_plain.specs.declared.member_step.MemberStep.{MemberStep}
use Rattle.co_plain.specs.declared.standing.Standing.{Standing}
use Rattle.co_plain.specs.declared.standing.Standing.TheVariants.{IsActive, IsVoted, IsInstalled, IsAbsent}
use Rattle.co_plain.specs.Numbers.{TxnNumber, MemberNumber, CoordNumber, Count, counted}
use Rattle.co_plain.specs.MemberStep.{says, standing_of, dropped, force_member}
use Rattle.co_plain.specs.Member.{prepare_record, voted_state, installed_state}

-- the coordinator number that stands in the prepare record of a local transaction
abbrev pub local_coord : CoordNumber
local_coord = 1

-- By the same rule as a vote. Where it says yes, the prepare record and the commit record go out in one
-- batch, so the transaction is never voted between two events.
abbrev pub local_commit_by : MemberNumber → MemberState → TxnNumber → Count → Verdict → MemberStep
local_commit_by m x t count LostOperations = says (dropped x t) (answer.NoLost (counted (kept_count x.engine t)) (counted count))
local_commit_by m x t count (StaleRead key) = says (dropped x t) (answer.NoStale key)
local_commit_by m x t count (HeldBy u) = says x (answer.Held u)
local_commit_by m x t count VoteYes =
    force_member m (installed_state (voted_state x t local_coord (counted count)) t)
    (log.Commit t [] ∷ prepare_record t local_coord (counted count) (sets_of (operations_of x.engine t)) ∷ []) answer.Committed None

-- a local transaction without operations is nowhere
abbrev pub member_local_commit : MemberNumber → MemberState → TxnNumber → Count → MemberStep
member_local_commit m x t carried =
    if carried == 0 then says x answer.Absent else local_commit_by m x t carried (vote_of x.engine t carried)

abbrev pub local_abort_by : MemberState → TxnNumber → Standing → MemberStep
local_abort_by x t IsActive = says (dropped x t) (answer.Aborted cause.Client)
local_abort_by x t IsVoted = says x answer.Absent
local_abort_by x t IsInstalled = says x answer.Absent
local_abort_by x t IsAbsent = says x answer.Absent

abbrev pub member_local_abort : MemberState → TxnNumber → MemberStep
member_local_abort x t = local_abort_by x t (standing_of x t)
