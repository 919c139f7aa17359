-- What a member does with an operation, with a message, with a timer and with a question: one definition
-- for each event, by where the transaction stands there. Every one is for a member that is up.
use Rattle.std.specs.Prelude.{ℕ, Bool, true, false, ◌==◌, [], ◌∷◌, if◌then◌else◌, Option, None, Some}
use Rattle.co_base.specs.Limits.{most_operations}
use Rattle.co_base.specs.declared.op.Op.{Op}
use Rattle.co_message.specs.declared.answer.Answer.TheVariants as answer
use Rattle.co_message.specs.declared.message.Message.{Message}
use Rattle.co_message.specs.declared.message.Message.TheVariants as message
use Rattle.co_record.specs.declared.record.Record.{Record}
use Rattle.co_record.specs.declared.record.Record.TheVariants as log
use Rattle.co_state.specs.declared.engine_state.Sets.{Sets}
use Rattle.co_state.specs.declared.engine_state.Vote.{Vote}
use Rattle.co_state.specs.Table.{look, put, without}
use Rattle.co_state.specs.Changes.{sets_of}
use Rattle.co_state.specs.EngineState.{operations_of}
use Rattle.co_state.specs.ReadRule.{operation_reply}
use Rattle.co_state.specs.LockRule.{lock_blocker}
use Rattle.co_state.specs.declared.verdict.Verdict.{Verdict}
use Rattle.co_state.specs.declared.verdict.Verdict.TheVariants.{LostOperations, StaleRead, HeldBy, VoteYes}
use Rattle.co_state.specs.VotingRule.{vote_of, kept_count}
use Rattle.co_state.specs.Effects.{with_operation, after_cast, after_install}
use Rattle.co_plain.specs.declared.member_state.AskedMark.{AskedMark}
use Rattle.co_plain.specs.declared.member_state.MemberState.{MemberState}
use Rattle.co_plain.specs.MemberView.{with_number}
use Rattle.co_plain.specs.LogWrite.{with_waiting}
use Rattle.co_plain.specs.declared.member_step.MemberStep.{MemberStep}
use Rattle.co_plain.specs.declared.standing.Standing.{Standing}
use Rattle.co_plain.specs.declared.standing.Standing.TheVariants.{IsActive, IsVoted, IsInstalled, IsAbsent}
use Rattle.co_plain.specs.Numbers.{TxnNumber, MemberNumber, CoordNumber, Count, counted}
use Rattle.co_plain.specs.MemberStep.{says, says_and_sends, standing_of, with_log, with_engine, dropped, force_member}

-- An operation, with how many the client saw answered here. Refused where operations were lost, where
-- there are too many, and where a lock is in the way.
abbrev pub unless_blocked : MemberState → TxnNumber → Op → Option ℕ → MemberStep
unless_blocked x t op (Some u) = says x (answer.Blocked u)
unless_blocked x t op None = says (with_engine x (with_operation x.engine t op)) (answer.Replied (operation_reply x.engine t op))

abbrev pub member_op : MemberState → TxnNumber → Count → Op → MemberStep
member_op x t carried op =
    if kept_count x.engine t == carried
    then (if carried == most_operations then says x answer.TooMany else unless_blocked x t op (lock_blocker x.engine t op))
    else says x (answer.Gone (counted (kept_count x.engine t)) (counted carried))

-- the record that a vote forces
abbrev pub prepare_record : TxnNumber → CoordNumber → Count → Sets → Record
prepare_record t coord count sets = log.Prepare t coord count sets.reads sets.writes

-- an active transaction becomes voted, and its asked mark ends
abbrev pub voted_state : MemberState → TxnNumber → CoordNumber → Count → MemberState
voted_state x t coord count =
    record x { engine = after_cast x.engine t coord count; asked = without x.asked t }

-- The vote on a transaction, by the verdict on it. A yes is sent once its record is stable; a no at once,
-- and the transaction is dropped; nothing is sent while another one is in the way.
abbrev pub vote_by : MemberNumber → MemberState → TxnNumber → CoordNumber → Count → Verdict → MemberStep
vote_by m x t coord count LostOperations =
    says_and_sends (dropped x t) (answer.NoLost (counted (kept_count x.engine t)) count) (message.Vote t m coord false)
vote_by m x t coord count (StaleRead key) = says_and_sends (dropped x t) (answer.NoStale key) (message.Vote t m coord false)
vote_by m x t coord count (HeldBy u) = says x (answer.Held u)
vote_by m x t coord count VoteYes =
    force_member m (voted_state x t coord count) (prepare_record t coord count (sets_of (operations_of x.engine t)) ∷ [])
    answer.Yes (Some (message.Vote t m coord true))

abbrev pub vote_on : MemberNumber → MemberState → TxnNumber → CoordNumber → Count → MemberStep
vote_on m x t coord count = vote_by m x t coord count (vote_of x.engine t count)

-- the coordinator that a voted transaction waits for; nothing waits for coordinator 0
abbrev pub coord_in : Option Vote → CoordNumber
coord_in None = 0
coord_in (Some vote) = vote.coord

abbrev pub coord_of : MemberState → TxnNumber → CoordNumber
coord_of x t = coord_in (look x.engine.voted t)

-- a prepare is marked, so that a vote that is held can be tried again
abbrev pub with_mark : MemberState → TxnNumber → CoordNumber → Count → MemberState
with_mark x t coord count =
    record x { asked = put x.asked t (record { coord = coord; count = count }) }

-- a prepare comes
abbrev pub prepare_by : MemberNumber → MemberState → TxnNumber → CoordNumber → Count → Standing → MemberStep
prepare_by m x t coord count IsActive = vote_on m (with_mark x t coord count) t coord count
prepare_by m x t coord count IsVoted = says_and_sends x answer.Voted (message.Vote t m (coord_of x t) true)
prepare_by m x t coord count IsInstalled = says x answer.Already
prepare_by m x t coord count IsAbsent = vote_on m x t coord count

abbrev pub member_prepare : MemberNumber → MemberState → TxnNumber → CoordNumber → Count → MemberStep
member_prepare m x t coord count = prepare_by m x t coord count (standing_of x t)

-- a vote is tried again
abbrev pub vote_where_asked : MemberNumber → MemberState → TxnNumber → Option AskedMark → MemberStep
vote_where_asked m x t None = says x answer.Unasked
vote_where_asked m x t (Some mark) = vote_on m x t mark.coord mark.count

abbrev pub vote_again_by : MemberNumber → MemberState → TxnNumber → Standing → MemberStep
vote_again_by m x t IsActive = vote_where_asked m x t (look x.asked t)
vote_again_by m x t IsVoted = says x answer.Voted
vote_again_by m x t IsInstalled = says x answer.Already
vote_again_by m x t IsAbsent = says x answer.Absent

abbrev pub member_vote : MemberNumber → MemberState → TxnNumber → MemberStep
member_vote m x t = vote_again_by m x t (standing_of x t)

-- a voted transaction is installed
abbrev pub installed_state : MemberState → TxnNumber → MemberState
installed_state x t =
    record x { engine = after_install x.engine t; committed = with_number x.committed t }

-- the decision to commit comes: it is forced, and then acknowledged
abbrev pub commit_by : MemberNumber → MemberState → TxnNumber → CoordNumber → Standing → MemberStep
commit_by m x t coord IsActive = says x answer.Absent
commit_by m x t coord IsVoted =
    force_member m (installed_state x t) (log.Commit t [] ∷ []) answer.Installed (Some (message.Ack t m coord))
commit_by m x t coord IsInstalled = says_and_sends x answer.Already (message.Ack t m coord)
commit_by m x t coord IsAbsent = says x answer.Absent

-- the decision to abort comes: what had voted leaves an abort record that waits
abbrev pub abort_by : MemberState → TxnNumber → Standing → MemberStep
abort_by x t IsActive = says (dropped x t) answer.Dropped
abort_by x t IsVoted = says (with_log (dropped x t) (with_waiting x.log (log.Abort t))) answer.Dropped
abort_by x t IsInstalled = says x answer.Already
abort_by x t IsAbsent = says x answer.Absent

abbrev pub member_decide : MemberNumber → MemberState → TxnNumber → CoordNumber → Bool → MemberStep
member_decide m x t coord true = commit_by m x t coord (standing_of x t)
member_decide m x t coord false = abort_by x t (standing_of x t)

-- the timer fires: only what has not voted may be dropped
abbrev pub timer_by : MemberState → TxnNumber → Standing → MemberStep
timer_by x t IsActive = says (dropped x t) answer.Dropped
timer_by x t IsVoted = says x answer.Kept
timer_by x t IsInstalled = says x answer.Already
timer_by x t IsAbsent = says x answer.Absent

abbrev pub member_timer : MemberState → TxnNumber → MemberStep
member_timer x t = timer_by x t (standing_of x t)

-- a member in doubt asks its coordinator
abbrev pub ask_by : MemberNumber → MemberState → TxnNumber → Standing → MemberStep
ask_by m x t IsActive = says x answer.Unvoted
ask_by m x t IsVoted = says_and_sends x answer.Asking (message.Ask t m (coord_of x t))
ask_by m x t IsInstalled = says x answer.Already
ask_by m x t IsAbsent = says x answer.Absent

abbrev pub member_ask : MemberNumber → MemberState → TxnNumber → MemberStep
member_ask m x t = ask_by m x t (standing_of x t)

-- a message that was sent to the member; the other messages go to coordinators
abbrev pub member_deliver : MemberNumber → MemberState → Message → MemberStep
member_deliver m x (message.Prepare t coord member count) = member_prepare m x t coord count
member_deliver m x (message.Decide t coord member commit) = member_decide m x t coord commit
member_deliver m x (message.Vote t member coord granted) = says x answer.Absent
member_deliver m x (message.Ask t member coord) = says x answer.Absent
member_deliver m x (message.Ack t member coord) = says x answer.Absent
