-- Each event of a member is its plan, carried out.
use Rattle.std.proofs.Common.{◌≡◌, ℕ, Bool, true, false, ◌==◌, refl}
use Rattle.std.specs.Prelude.{Option, None, Some, if◌then◌else◌}
use Rattle.co_message.specs.declared.answer.Answer.TheVariants as answer
use Rattle.co_message.specs.declared.message.Message.{Message}
use Rattle.co_message.specs.declared.message.Message.TheVariants as message
use Rattle.co_state.specs.Changes.{sets_of}
use Rattle.co_state.specs.EngineState.{operations_of}
use Rattle.co_state.specs.Table.{look}
use Rattle.co_state.specs.VotingRule.{vote_of, kept_count}
use Rattle.co_state.specs.declared.verdict.Verdict.{Verdict}
use Rattle.co_state.specs.declared.verdict.Verdict.TheVariants.{LostOperations, StaleRead, HeldBy, VoteYes}
use Rattle.co_plain.specs.LocalCommit as local
use Rattle.co_plain.specs.Member as plain
use Rattle.co_plain.specs.Member.{with_mark, coord_of}
use Rattle.co_plain.specs.MemberStep as step
use Rattle.co_plain.specs.MemberStep.{standing_of}
use Rattle.co_plain.specs.declared.member_state.AskedMark.{AskedMark}
use Rattle.co_plain.specs.declared.member_state.MemberState.{MemberState}
use Rattle.co_plain.specs.declared.standing.Standing.{Standing}
use Rattle.co_plain.specs.declared.standing.Standing.TheVariants.{IsActive, IsVoted, IsInstalled, IsAbsent}
use Rattle.co_member.specs.Plans as plans
use Rattle.co_member.specs.Plans.{vote_plan, prepare_plan, asked_plan, again_plan, commit_plan, abort_plan, timer_plan, ask_plan, deliver_plan, marked_by, marked, txn_of, local_vote_plan, local_commit_plan, local_abort_plan, carried_out}

vote_by : (m t coord count : ℕ) (x : MemberState) (v : Verdict)
    → plain.vote_by m x t coord count v ≡ carried_out m x t (vote_plan m t coord count (kept_count x.engine t) (sets_of (operations_of x.engine t)) v)
vote_by m t coord count x LostOperations = refl
vote_by m t coord count x (StaleRead key) = refl
vote_by m t coord count x (HeldBy u) = refl
vote_by m t coord count x VoteYes = refl

prepare_by : (m t coord count : ℕ) (x : MemberState) (s : Standing) → plain.prepare_by m x t coord count s ≡ carried_out m (marked_by x t coord count s) t (prepare_plan m x t coord count s)
prepare_by m t coord count x IsActive = vote_by m t coord count (with_mark x t coord count) (vote_of x.engine t count)
prepare_by m t coord count x IsVoted = refl
prepare_by m t coord count x IsInstalled = refl
prepare_by m t coord count x IsAbsent = vote_by m t coord count x (vote_of x.engine t count)

asked_by : (m t : ℕ) (x : MemberState) (mark : Option AskedMark) → plain.vote_where_asked m x t mark ≡ carried_out m x t (asked_plan m x t mark)
asked_by m t x None = refl
asked_by m t x (Some mark) = vote_by m t mark.coord mark.count x (vote_of x.engine t mark.count)

again_by : (m t : ℕ) (x : MemberState) (s : Standing) → plain.vote_again_by m x t s ≡ carried_out m x t (again_plan m x t s)
again_by m t x IsActive = asked_by m t x (look x.asked t)
again_by m t x IsVoted = refl
again_by m t x IsInstalled = refl
again_by m t x IsAbsent = refl

commit_by : (m t coord : ℕ) (x : MemberState) (s : Standing) → plain.commit_by m x t coord s ≡ carried_out m x t (commit_plan m t coord s)
commit_by m t coord x IsActive = refl
commit_by m t coord x IsVoted = refl
commit_by m t coord x IsInstalled = refl
commit_by m t coord x IsAbsent = refl

abort_by : (m t : ℕ) (x : MemberState) (s : Standing) → plain.abort_by x t s ≡ carried_out m x t (abort_plan t s)
abort_by m t x IsActive = refl
abort_by m t x IsVoted = refl
abort_by m t x IsInstalled = refl
abort_by m t x IsAbsent = refl

timer_by : (m t : ℕ) (x : MemberState) (s : Standing) → plain.timer_by x t s ≡ carried_out m x t (timer_plan s)
timer_by m t x IsActive = refl
timer_by m t x IsVoted = refl
timer_by m t x IsInstalled = refl
timer_by m t x IsAbsent = refl

ask_by : (m t : ℕ) (x : MemberState) (s : Standing) → plain.ask_by m x t s ≡ carried_out m x t (ask_plan m t (coord_of x t) s)
ask_by m t x IsActive = refl
ask_by m t x IsVoted = refl
ask_by m t x IsInstalled = refl
ask_by m t x IsAbsent = refl

local_vote_by : (m t carried : ℕ) (x : MemberState) (v : Verdict)
    → local.local_commit_by m x t carried v ≡ carried_out m x t (local_vote_plan t carried (kept_count x.engine t) (sets_of (operations_of x.engine t)) v)
local_vote_by m t carried x LostOperations = refl
local_vote_by m t carried x (StaleRead key) = refl
local_vote_by m t carried x (HeldBy u) = refl
local_vote_by m t carried x VoteYes = refl

local_by : (m t carried : ℕ) (x : MemberState) (none : Bool)
    → (if none then step.says x answer.Absent else local.local_commit_by m x t carried (vote_of x.engine t carried))
    ≡ carried_out m x t (if none then plans.says answer.Absent else local_vote_plan t carried (kept_count x.engine t) (sets_of (operations_of x.engine t)) (vote_of x.engine t carried))
local_by m t carried x true = refl
local_by m t carried x false = local_vote_by m t carried x (vote_of x.engine t carried)

local_abort_by : (m t : ℕ) (x : MemberState) (s : Standing) → local.local_abort_by x t s ≡ carried_out m x t (local_abort_plan s)
local_abort_by m t x IsActive = refl
local_abort_by m t x IsVoted = refl
local_abort_by m t x IsInstalled = refl
local_abort_by m t x IsAbsent = refl

pub deliver_is : (m : ℕ) (x : MemberState) (message : Message) → plain.member_deliver m x message ≡ carried_out m (marked x message) (txn_of message) (deliver_plan m x message)
deliver_is m x (message.Prepare t coord member count) = prepare_by m t coord count x (standing_of x t)
deliver_is m x (message.Decide t coord member true) = commit_by m t coord x (standing_of x t)
deliver_is m x (message.Decide t coord member false) = abort_by m t x (standing_of x t)
deliver_is m x (message.Vote t member coord granted) = refl
deliver_is m x (message.Ask t member coord) = refl
deliver_is m x (message.Ack t member coord) = refl

pub vote_is : (m t : ℕ) (x : MemberState) → plain.member_vote m x t ≡ carried_out m x t (again_plan m x t (standing_of x t))
vote_is m t x = again_by m t x (standing_of x t)

pub timer_is : (m t : ℕ) (x : MemberState) → plain.member_timer x t ≡ carried_out m x t (timer_plan (standing_of x t))
timer_is m t x = timer_by m t x (standing_of x t)

pub ask_is : (m t : ℕ) (x : MemberState) → plain.member_ask m x t ≡ carried_out m x t (ask_plan m t (coord_of x t) (standing_of x t))
ask_is m t x = ask_by m t x (standing_of x t)

pub local_commit_is : (m t carried : ℕ) (x : MemberState) → local.member_local_commit m x t carried ≡ carried_out m x t (local_commit_plan x t carried)
local_commit_is m t carried x = local_by m t carried x (carried == 0)

pub local_abort_is : (m t : ℕ) (x : MemberState) → local.member_local_abort x t ≡ carried_out m x t (local_abort_plan (standing_of x t))
local_abort_is m t x = local_abort_by m t x (standing_of x t)
