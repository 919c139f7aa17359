-- The plan of each event of a member, by where its transaction stands; and what carrying a plan out comes to.
use Rattle.std.specs.Prelude.{ℕ, Bool, true, false, ◌==◌, [], ◌∷◌, if◌then◌else◌, Option, None, Some}
use Rattle.co_message.specs.declared.answer.Answer.{Answer}
use Rattle.co_message.specs.declared.answer.Answer.TheVariants as answer
use Rattle.co_message.specs.declared.answer.Cause.TheVariants as cause
use Rattle.co_message.specs.declared.message.Message.{Message}
use Rattle.co_message.specs.declared.message.Message.TheVariants as message
use Rattle.co_record.specs.declared.record.Record.TheVariants as log
use Rattle.co_state.specs.Changes.{sets_of}
use Rattle.co_state.specs.EngineState.{operations_of}
use Rattle.co_state.specs.Table.{look}
use Rattle.co_state.specs.VotingRule.{vote_of, kept_count}
use Rattle.co_state.specs.declared.engine_state.Sets.{Sets}
use Rattle.co_state.specs.declared.verdict.Verdict.{Verdict}
use Rattle.co_state.specs.declared.verdict.Verdict.TheVariants.{LostOperations, StaleRead, HeldBy, VoteYes}
use Rattle.co_plain.specs.LocalCommit.{local_coord}
use Rattle.co_plain.specs.LogWrite.{with_waiting}
use Rattle.co_plain.specs.Member.{prepare_record, voted_state, installed_state, with_mark, coord_of}
use Rattle.co_plain.specs.MemberStep.{standing_of, with_log, dropped, force_member}
use Rattle.co_plain.specs.Numbers.{counted}
use Rattle.co_plain.specs.declared.member_state.AskedMark.{AskedMark}
use Rattle.co_plain.specs.declared.member_state.MemberState.{MemberState}
use Rattle.co_plain.specs.declared.member_step.MemberStep.{MemberStep}
use Rattle.co_plain.specs.declared.standing.Standing.{Standing}
use Rattle.co_plain.specs.declared.standing.Standing.TheVariants.{IsActive, IsVoted, IsInstalled, IsAbsent}
use Rattle.co_member.specs.declared.plan.Change.{Change}
use Rattle.co_member.specs.declared.plan.Change.TheVariants.{Stays, Casts, Drops, Installs, CastsAndInstalls}
use Rattle.co_member.specs.declared.plan.Course.{Course}
use Rattle.co_member.specs.declared.plan.Course.TheVariants.{Carries, Grants, GrantsLocal}
use Rattle.co_member.specs.declared.plan.Plan.{Plan}
use Rattle.co_node.specs.declared.writing.Writes.{Writes}
use Rattle.co_node.specs.declared.writing.Writes.TheVariants.{Nothing, Keeps, Forces, ForcesBoth}

abbrev pub says : Answer → Plan
says a = record { writes = Nothing; change = Stays; answer = a; sent = None }

abbrev pub sends : Answer → Message → Plan
sends a message = record { writes = Nothing; change = Stays; answer = a; sent = Some message }

abbrev pub drops : Answer → Option Message → Plan
drops a message = record { writes = Nothing; change = Drops; answer = a; sent = message }

-- The vote on a transaction, with its kept operations and what it read and wrote, by the verdict on it. The prepare record is forced
-- before a yes is sent; a no is sent at once, and the transaction is dropped; nothing is sent while another one is in the way.
abbrev pub vote_plan : ℕ → ℕ → ℕ → ℕ → ℕ → Sets → Verdict → Plan
vote_plan m t coord count kept sets LostOperations = drops (answer.NoLost (counted kept) count) (Some (message.Vote t m coord false))
vote_plan m t coord count kept sets (StaleRead key) = drops (answer.NoStale key) (Some (message.Vote t m coord false))
vote_plan m t coord count kept sets (HeldBy u) = says (answer.Held u)
vote_plan m t coord count kept sets VoteYes =
    record {
      writes = Forces (prepare_record t coord count sets);
      change = Casts coord count;
      answer = answer.Yes;
      sent = Some (message.Vote t m coord true);
    }

-- the ballot on a transaction that this coordinator asked about
abbrev pub ballot_plan : ℕ → MemberState → ℕ → ℕ → ℕ → Plan
ballot_plan m x t coord count =
    vote_plan m t coord count (kept_count x.engine t) (sets_of (operations_of x.engine t)) (vote_of x.engine t count)

-- a prepare comes: who voted says so again
abbrev pub prepare_plan : ℕ → MemberState → ℕ → ℕ → ℕ → Standing → Plan
prepare_plan m x t coord count IsActive = ballot_plan m x t coord count
prepare_plan m x t coord count IsVoted = sends answer.Voted (message.Vote t m (coord_of x t) true)
prepare_plan m x t coord count IsInstalled = says answer.Already
prepare_plan m x t coord count IsAbsent = ballot_plan m x t coord count

-- a vote is tried again, where it was asked for
abbrev pub asked_plan : ℕ → MemberState → ℕ → Option AskedMark → Plan
asked_plan m x t None = says answer.Unasked
asked_plan m x t (Some mark) = ballot_plan m x t mark.coord mark.count

abbrev pub again_plan : ℕ → MemberState → ℕ → Standing → Plan
again_plan m x t IsActive = asked_plan m x t (look x.asked t)
again_plan m x t IsVoted = says answer.Voted
again_plan m x t IsInstalled = says answer.Already
again_plan m x t IsAbsent = says answer.Absent

-- the decision to commit comes: it is forced, and then acknowledged
abbrev pub commit_plan : ℕ → ℕ → ℕ → Standing → Plan
commit_plan m t coord IsActive = says answer.Absent
commit_plan m t coord IsVoted =
    record {
      writes = Forces (log.Commit t []);
      change = Installs;
      answer = answer.Installed;
      sent = Some (message.Ack t m coord);
    }
commit_plan m t coord IsInstalled = sends answer.Already (message.Ack t m coord)
commit_plan m t coord IsAbsent = says answer.Absent

-- the decision to abort comes: what had voted leaves an abort record that waits
abbrev pub abort_plan : ℕ → Standing → Plan
abort_plan t IsActive = drops answer.Dropped None
abort_plan t IsVoted = record { writes = Keeps (log.Abort t); change = Drops; answer = answer.Dropped; sent = None }
abort_plan t IsInstalled = says answer.Already
abort_plan t IsAbsent = says answer.Absent

abbrev pub decide_plan : ℕ → ℕ → ℕ → Bool → Standing → Plan
decide_plan m t coord true s = commit_plan m t coord s
decide_plan m t coord false s = abort_plan t s

-- the timer fires: only what has not voted may be dropped
abbrev pub timer_plan : Standing → Plan
timer_plan IsActive = drops answer.Dropped None
timer_plan IsVoted = says answer.Kept
timer_plan IsInstalled = says answer.Already
timer_plan IsAbsent = says answer.Absent

-- a member in doubt asks the coordinator of the vote
abbrev pub ask_plan : ℕ → ℕ → ℕ → Standing → Plan
ask_plan m t coord IsActive = says answer.Unvoted
ask_plan m t coord IsVoted = sends answer.Asking (message.Ask t m coord)
ask_plan m t coord IsInstalled = says answer.Already
ask_plan m t coord IsAbsent = says answer.Absent

-- the transaction that a message is about
abbrev pub txn_of : Message → ℕ
txn_of (message.Prepare t coord m count) = t
txn_of (message.Vote t m coord granted) = t
txn_of (message.Decide t coord m commit) = t
txn_of (message.Ask t m coord) = t
txn_of (message.Ack t m coord) = t

-- a message that was sent to the member; the other messages go to coordinators
abbrev pub deliver_plan : ℕ → MemberState → Message → Plan
deliver_plan m x (message.Prepare t coord member count) = prepare_plan m x t coord count (standing_of x t)
deliver_plan m x (message.Decide t coord member commit) = decide_plan m t coord commit (standing_of x t)
deliver_plan m x (message.Vote t member coord granted) = says answer.Absent
deliver_plan m x (message.Ask t member coord) = says answer.Absent
deliver_plan m x (message.Ack t member coord) = says answer.Absent

-- a prepare of an active transaction is marked first, so that a vote that is held can be tried again
abbrev pub marked_by : MemberState → ℕ → ℕ → ℕ → Standing → MemberState
marked_by x t coord count IsActive = with_mark x t coord count
marked_by x t coord count IsVoted = x
marked_by x t coord count IsInstalled = x
marked_by x t coord count IsAbsent = x

abbrev pub marked : MemberState → Message → MemberState
marked x (message.Prepare t coord member count) = marked_by x t coord count (standing_of x t)
marked x (message.Decide t coord member commit) = x
marked x (message.Vote t member coord granted) = x
marked x (message.Ask t member coord) = x
marked x (message.Ack t member coord) = x

-- The commit of a local transaction, by the verdict on it: its prepare record and its commit record are forced in one log write.
abbrev pub local_vote_plan : ℕ → ℕ → ℕ → Sets → Verdict → Plan
local_vote_plan t carried kept sets LostOperations = drops (answer.NoLost (counted kept) (counted carried)) None
local_vote_plan t carried kept sets (StaleRead key) = drops (answer.NoStale key) None
local_vote_plan t carried kept sets (HeldBy u) = says (answer.Held u)
local_vote_plan t carried kept sets VoteYes =
    record {
      writes = ForcesBoth (prepare_record t local_coord (counted carried) sets) (log.Commit t []);
      change = CastsAndInstalls local_coord (counted carried);
      answer = answer.Committed;
      sent = None;
    }

abbrev pub local_commit_plan : MemberState → ℕ → ℕ → Plan
local_commit_plan x t carried =
    if carried == 0
    then says answer.Absent
    else local_vote_plan t carried (kept_count x.engine t) (sets_of (operations_of x.engine t)) (vote_of x.engine t carried)

abbrev pub local_abort_plan : Standing → Plan
local_abort_plan IsActive = drops (answer.Aborted cause.Client) None
local_abort_plan IsVoted = says answer.Absent
local_abort_plan IsInstalled = says answer.Absent
local_abort_plan IsAbsent = says answer.Absent

-- the plan that a course of this member comes to, by what the transaction read and wrote
abbrev pub plan_of : Course → ℕ → MemberState → ℕ → Plan
plan_of (Carries plan) m x t = plan
plan_of (Grants coord count) m x t = vote_plan m t coord count (kept_count x.engine t) (sets_of (operations_of x.engine t)) VoteYes
plan_of (GrantsLocal count) m x t = local_vote_plan t count (kept_count x.engine t) (sets_of (operations_of x.engine t)) VoteYes

-- at most one record is given to the log
abbrev pub IsSingle : Writes → Type 0
IsSingle Nothing = Unit {0}
IsSingle (Keeps r) = Unit {0}
IsSingle (Forces r) = Unit {0}
IsSingle (ForcesBoth first r) = ⊥

-- so it is by a plan that a course carries out; the two records of a local commit are granted
abbrev pub IsSingleIn : Course → Type 0
IsSingleIn (Carries plan) = IsSingle plan.writes
IsSingleIn (Grants coord count) = Unit {0}
IsSingleIn (GrantsLocal count) = Unit {0}

-- ---- carrying a plan out

abbrev pub changed : MemberState → ℕ → Change → MemberState
changed x t Stays = x
changed x t (Casts coord count) = voted_state x t coord count
changed x t Drops = dropped x t
changed x t Installs = installed_state x t
changed x t (CastsAndInstalls coord count) = installed_state (voted_state x t coord count) t

-- What a plan comes to: its log write first, which may be stopped and then leaves the member down; then its change.
abbrev pub carried : Writes → ℕ → MemberState → Answer → Option Message → MemberStep
carried Nothing m next a message = record { state = next; answer = a; sent = message; marks = [] }
carried (Keeps r) m next a message = record { state = with_log next (with_waiting next.log r); answer = a; sent = message; marks = [] }
carried (Forces r) m next a message = force_member m next (r ∷ []) a message
carried (ForcesBoth first r) m next a message = force_member m next (r ∷ first ∷ []) a message

abbrev pub carried_out : ℕ → MemberState → ℕ → Plan → MemberStep
carried_out m x t p = carried p.writes m (changed x t p.change) p.answer p.sent
