-- What the plans of a message, of a held vote and of a local commit write may be written, and their changes are of transactions that stand so.
use Rattle.std.proofs.Common.{◌≡◌, ◌≤◌, ℕ, Bool, true, false, List, [], ◌∷◌, length, ◌==◌, nat_le, refl, sym, ap, subst, ◌∙◌, arith}
use Rattle.std.specs.Prelude.{Option, None, Some, is_some, if◌then◌else◌}
use Rattle.std.proofs.lemmas.Bool.Decides.{nat_tests}
use Rattle.std.specs.List.{AllByRecursion}
use Rattle.std.specs.List.Sorted.{IsStrictlySortedBy}
use Rattle.co_message.specs.declared.answer.Answer.TheVariants as answer
use Rattle.co_message.specs.declared.message.Message.{Message}
use Rattle.co_message.specs.declared.message.Message.TheVariants as message
use Rattle.co_record.specs.Spelling.{IsWritable}
use Rattle.co_record.specs.declared.record.Record.TheVariants as log
use Rattle.co_state.specs.Changes.{sets_of}
use Rattle.co_state.specs.EngineState.{operations_in, operations_of}
use Rattle.co_state.specs.Table.{look, holds}
use Rattle.co_state.specs.VotingRule.{vote_of, kept_count}
use Rattle.co_state.specs.declared.engine_state.Operation.{Operation}
use Rattle.co_state.specs.declared.engine_state.Sets.{Sets}
use Rattle.co_state.specs.declared.verdict.Verdict.{Verdict}
use Rattle.co_state.specs.declared.verdict.Verdict.TheVariants.{LostOperations, StaleRead, HeldBy, VoteYes}
use Rattle.co_plain.specs.LocalCommit.{local_coord}
use Rattle.co_plain.specs.Member.{prepare_record, coord_of}
use Rattle.co_plain.specs.MemberStep.{standing_by, standing_of}
use Rattle.co_plain.specs.Numbers.{counted}
use Rattle.co_plain.specs.declared.member_state.AskedMark.{AskedMark}
use Rattle.co_plain.specs.declared.member_state.MemberState.{MemberState}
use Rattle.co_plain.specs.declared.standing.Standing.{Standing}
use Rattle.co_plain.specs.declared.standing.Standing.TheVariants.{IsActive, IsVoted, IsInstalled, IsAbsent}
use Rattle.co_member.specs.Conditions.{MayCast, MayTake, MayVote, MayCommit, IsAboutSome, IsCastable, IsCastableFor}
use Rattle.co_member.specs.Plans.{plan_of, says, sends, vote_plan, ballot_plan, prepare_plan, asked_plan, again_plan, commit_plan, abort_plan, deliver_plan, marked_by, marked, txn_of, local_vote_plan, local_commit_plan, IsSingle, IsSingleIn}
use Rattle.co_member.specs.Standing.{Suits}
use Rattle.co_node.specs.Writing.{MayWrite, MayWriteOne}
use Rattle.co_node.specs.declared.writing.Writes.{Writes}
use Rattle.co_node.specs.declared.writing.Writes.TheVariants.{Nothing, Keeps, Forces, ForcesBoth}
use Rattle.co_member.specs.declared.plan.Course.{Course}
use Rattle.co_member.specs.declared.plan.Course.TheVariants.{Carries, Grants, GrantsLocal}
use Rattle.co_member.specs.declared.plan.Plan.{Plan}

pub nobody : (t : ℕ) → IsWritable (log.Commit t [])
unfolding IsStrictlySortedBy
nobody t = (omega arith, tt, tt)

vote_may : (m t coord count kept : ℕ) (sets : Sets) (v : Verdict) → (v ≡ VoteYes → IsWritable (prepare_record t coord count sets)) → MayWrite (vote_plan m t coord count kept sets v).writes
vote_may m t coord count kept sets LostOperations may = tt
vote_may m t coord count kept sets (StaleRead key) may = tt
vote_may m t coord count kept sets (HeldBy u) may = tt
vote_may m t coord count kept sets VoteYes may = (may refl, tt)

vote_suits : (x : MemberState) (m t coord count kept : ℕ) (sets : Sets) (v : Verdict) → (v ≡ VoteYes → standing_of x t ≡ IsActive) → Suits x t (vote_plan m t coord count kept sets v).change
vote_suits x m t coord count kept sets LostOperations is = tt
vote_suits x m t coord count kept sets (StaleRead key) is = tt
vote_suits x m t coord count kept sets (HeldBy u) is = tt
vote_suits x m t coord count kept sets VoteYes is = is refl

prepare_may : (m t coord count : ℕ) (x : MemberState) (s : Standing) → MayCast x t coord count → MayWrite (prepare_plan m x t coord count s).writes
prepare_may m t coord count x IsActive may = vote_may m t coord count (kept_count x.engine t) (sets_of (operations_of x.engine t)) (vote_of x.engine t count) may
prepare_may m t coord count x IsVoted may = tt
prepare_may m t coord count x IsInstalled may = tt
prepare_may m t coord count x IsAbsent may = vote_may m t coord count (kept_count x.engine t) (sets_of (operations_of x.engine t)) (vote_of x.engine t count) may

asked_may : (m t : ℕ) (x : MemberState) (mark : Option AskedMark) → ((k : AskedMark) → mark ≡ Some k → MayCast x t k.coord k.count) → MayWrite (asked_plan m x t mark).writes
asked_may m t x None may = tt
asked_may m t x (Some k) may = vote_may m t k.coord k.count (kept_count x.engine t) (sets_of (operations_of x.engine t)) (vote_of x.engine t k.count) (may k refl)

pub again_may : (m t : ℕ) (x : MemberState) (s : Standing) → MayVote x t → MayWrite (again_plan m x t s).writes
again_may m t x IsActive may = asked_may m t x (look x.asked t) may
again_may m t x IsVoted may = tt
again_may m t x IsInstalled may = tt
again_may m t x IsAbsent may = tt

commit_may : (m t coord : ℕ) (s : Standing) → MayWrite (commit_plan m t coord s).writes
commit_may m t coord IsActive = tt
commit_may m t coord IsVoted = (nobody t, tt)
commit_may m t coord IsInstalled = tt
commit_may m t coord IsAbsent = tt

abort_may : (t : ℕ) (s : Standing) → MayWrite (abort_plan t s).writes
abort_may t IsActive = tt
abort_may t IsVoted = (tt, tt)
abort_may t IsInstalled = tt
abort_may t IsAbsent = tt

pub deliver_may : (m : ℕ) (x : MemberState) (message : Message) → MayTake x message → MayWrite (deliver_plan m x message).writes
deliver_may m x (message.Prepare t coord member count) may = prepare_may m t coord count x (standing_of x t) may
deliver_may m x (message.Decide t coord member true) may = commit_may m t coord (standing_of x t)
deliver_may m x (message.Decide t coord member false) may = abort_may t (standing_of x t)
deliver_may m x (message.Vote t member coord granted) may = tt
deliver_may m x (message.Ask t member coord) may = tt
deliver_may m x (message.Ack t member coord) may = tt

-- ---- plans that give the log at most one record

pub may_one : (w : Writes) → MayWrite w → IsSingle w → MayWriteOne w
may_one Nothing may single = tt
may_one (Keeps r) may single = may
may_one (Forces r) may single = may
may_one (ForcesBoth first r) may single = single

vote_single : (m t coord count kept : ℕ) (sets : Sets) (v : Verdict) → IsSingle (vote_plan m t coord count kept sets v).writes
vote_single m t coord count kept sets LostOperations = tt
vote_single m t coord count kept sets (StaleRead key) = tt
vote_single m t coord count kept sets (HeldBy u) = tt
vote_single m t coord count kept sets VoteYes = tt

ballot_single : (m t coord count : ℕ) (x : MemberState) → IsSingle (ballot_plan m x t coord count).writes
ballot_single m t coord count x = vote_single m t coord count (kept_count x.engine t) (sets_of (operations_of x.engine t)) (vote_of x.engine t count)

prepare_single : (m t coord count : ℕ) (x : MemberState) (s : Standing) → IsSingle (prepare_plan m x t coord count s).writes
prepare_single m t coord count x IsActive = ballot_single m t coord count x
prepare_single m t coord count x IsVoted = tt
prepare_single m t coord count x IsInstalled = tt
prepare_single m t coord count x IsAbsent = ballot_single m t coord count x

asked_single : (m t : ℕ) (x : MemberState) (mark : Option AskedMark) → IsSingle (asked_plan m x t mark).writes
asked_single m t x None = tt
asked_single m t x (Some k) = ballot_single m t k.coord k.count x

pub again_single : (m t : ℕ) (x : MemberState) (s : Standing) → IsSingle (again_plan m x t s).writes
again_single m t x IsActive = asked_single m t x (look x.asked t)
again_single m t x IsVoted = tt
again_single m t x IsInstalled = tt
again_single m t x IsAbsent = tt

commit_single : (m t coord : ℕ) (s : Standing) → IsSingle (commit_plan m t coord s).writes
commit_single m t coord IsActive = tt
commit_single m t coord IsVoted = tt
commit_single m t coord IsInstalled = tt
commit_single m t coord IsAbsent = tt

abort_single : (t : ℕ) (s : Standing) → IsSingle (abort_plan t s).writes
abort_single t IsActive = tt
abort_single t IsVoted = tt
abort_single t IsInstalled = tt
abort_single t IsAbsent = tt

pub deliver_single : (m : ℕ) (x : MemberState) (message : Message) → IsSingle (deliver_plan m x message).writes
deliver_single m x (message.Prepare t coord member count) = prepare_single m t coord count x (standing_of x t)
deliver_single m x (message.Decide t coord member true) = commit_single m t coord (standing_of x t)
deliver_single m x (message.Decide t coord member false) = abort_single t (standing_of x t)
deliver_single m x (message.Vote t member coord granted) = tt
deliver_single m x (message.Ask t member coord) = tt
deliver_single m x (message.Ack t member coord) = tt

-- and so a course that comes to one
pub course_single : (course : Course) (m t : ℕ) (x : MemberState) (plan : Plan) → plan_of course m x t ≡ plan → IsSingle plan.writes → IsSingleIn course
course_single (Carries carried) m t x plan is single = subst (λ (p : Plan). IsSingle p.writes) (sym is) single
course_single (Grants coord count) m t x plan is single = tt
course_single (GrantsLocal count) m t x plan is single = tt

-- ---- the changes of plans

vote_stands : (x : MemberState) (m t coord count : ℕ) → IsCastable x t count → Suits x t (ballot_plan m x t coord count).change
vote_stands x m t coord count is = vote_suits x m t coord count (kept_count x.engine t) (sets_of (operations_of x.engine t)) (vote_of x.engine t count) is

prepare_suits : (m t coord count : ℕ) (x : MemberState) (s : Standing) → IsCastable x t count → Suits x t (prepare_plan m x t coord count s).change
prepare_suits m t coord count x IsActive is = vote_stands x m t coord count is
prepare_suits m t coord count x IsVoted is = tt
prepare_suits m t coord count x IsInstalled is = tt
prepare_suits m t coord count x IsAbsent is = vote_stands x m t coord count is

commit_suits : (m t coord : ℕ) (x : MemberState) (s : Standing) → standing_of x t ≡ s → Suits x t (commit_plan m t coord s).change
commit_suits m t coord x IsActive is = tt
commit_suits m t coord x IsVoted is = is
commit_suits m t coord x IsInstalled is = tt
commit_suits m t coord x IsAbsent is = tt

abort_suits : (t : ℕ) (x : MemberState) (s : Standing) → Suits x t (abort_plan t s).change
abort_suits t x IsActive = tt
abort_suits t x IsVoted = tt
abort_suits t x IsInstalled = tt
abort_suits t x IsAbsent = tt

pub deliver_suits : (m : ℕ) (x : MemberState) (message : Message) → IsCastableFor x message → Suits x (txn_of message) (deliver_plan m x message).change
deliver_suits m x (message.Prepare t coord member count) is = prepare_suits m t coord count x (standing_of x t) is
deliver_suits m x (message.Decide t coord member true) is = commit_suits m t coord x (standing_of x t) refl
deliver_suits m x (message.Decide t coord member false) is = abort_suits t x (standing_of x t)
deliver_suits m x (message.Vote t member coord granted) is = tt
deliver_suits m x (message.Ask t member coord) is = tt
deliver_suits m x (message.Ack t member coord) is = tt

asked_suits : (m t : ℕ) (x : MemberState) (mark : Option AskedMark) → standing_of x t ≡ IsActive → Suits x t (asked_plan m x t mark).change
asked_suits m t x None is = tt
asked_suits m t x (Some mark) is = vote_stands x m t mark.coord mark.count (λ e. is)

pub again_suits : (m t : ℕ) (x : MemberState) (s : Standing) → standing_of x t ≡ s → Suits x t (again_plan m x t s).change
again_suits m t x IsActive is = asked_suits m t x (look x.asked t) is
again_suits m t x IsVoted is = tt
again_suits m t x IsInstalled is = tt
again_suits m t x IsAbsent is = tt

-- ---- who is voted yes has operations

counts_alike : (b : Bool) (v : Verdict) → (if b then v else LostOperations) ≡ VoteYes → b ≡ true
counts_alike true v e = refl
counts_alike false v e = absurd (let z : LostOperations ≡ VoteYes = e in cc)

some_active : (os : Option (List Operation)) (v c : Bool) (count : ℕ) → 1 ≤ count → length (operations_in os) ≡ count → standing_by (is_some os) v c ≡ IsActive
some_active (Some os) v c count some e = refl
some_active None v c count some e = absurd (let z : 0 ≡ count = e in omega (arith, z, some))

pub castable : (x : MemberState) (t count : ℕ) → 1 ≤ count → IsCastable x t count
castable x t count some granted =
    let same = counts_alike (kept_count x.engine t == count) _ granted in
    let kept : kept_count x.engine t ≡ count = grind (arith, nat_tests, same) in
    some_active (look x.engine.active t) (holds x.engine.voted t) (holds x.committed t) count some kept

pub castable_for : (x : MemberState) (message : Message) → IsAboutSome message → IsCastableFor x message
castable_for x (message.Prepare t coord member count) some = castable x t count some
castable_for x (message.Decide t coord member commit) some = tt
castable_for x (message.Vote t member coord granted) some = tt
castable_for x (message.Ask t member coord) some = tt
castable_for x (message.Ack t member coord) some = tt

-- ---- a mark changes no plan

stands_marked : (x : MemberState) (t coord count : ℕ) (s : Standing) (u : ℕ) → standing_of (marked_by x t coord count s) u ≡ standing_of x u
stands_marked x t coord count IsActive u = refl
stands_marked x t coord count IsVoted u = refl
stands_marked x t coord count IsInstalled u = refl
stands_marked x t coord count IsAbsent u = refl

ballot_marked : (m : ℕ) (x : MemberState) (t coord count : ℕ) (s : Standing) → ballot_plan m (marked_by x t coord count s) t coord count ≡ ballot_plan m x t coord count
ballot_marked m x t coord count IsActive = refl
ballot_marked m x t coord count IsVoted = refl
ballot_marked m x t coord count IsInstalled = refl
ballot_marked m x t coord count IsAbsent = refl

coord_marked : (x : MemberState) (t coord count : ℕ) (s : Standing) → coord_of (marked_by x t coord count s) t ≡ coord_of x t
coord_marked x t coord count IsActive = refl
coord_marked x t coord count IsVoted = refl
coord_marked x t coord count IsInstalled = refl
coord_marked x t coord count IsAbsent = refl

prepare_marked : (m : ℕ) (x : MemberState) (t coord count : ℕ) (s u : Standing) → prepare_plan m (marked_by x t coord count s) t coord count u ≡ prepare_plan m x t coord count u
prepare_marked m x t coord count s IsActive = ballot_marked m x t coord count s
prepare_marked m x t coord count s IsVoted = ap (λ c. sends answer.Voted (message.Vote t m c true)) (coord_marked x t coord count s)
prepare_marked m x t coord count s IsInstalled = refl
prepare_marked m x t coord count s IsAbsent = ballot_marked m x t coord count s

pub deliver_marked : (m : ℕ) (x : MemberState) (message : Message) → deliver_plan m (marked x message) message ≡ deliver_plan m x message
deliver_marked m x (message.Prepare t coord member count) =
    let s = standing_of x t in
    ap (prepare_plan m (marked_by x t coord count s) t coord count) (stands_marked x t coord count s t) ∙ prepare_marked m x t coord count s s
deliver_marked m x (message.Decide t coord member commit) = refl
deliver_marked m x (message.Vote t member coord granted) = refl
deliver_marked m x (message.Ask t member coord) = refl
deliver_marked m x (message.Ack t member coord) = refl

log_marked : (x : MemberState) (t coord count : ℕ) (s : Standing) → (marked_by x t coord count s).log ≡ x.log
log_marked x t coord count IsActive = refl
log_marked x t coord count IsVoted = refl
log_marked x t coord count IsInstalled = refl
log_marked x t coord count IsAbsent = refl

pub marked_log : (x : MemberState) (message : Message) → (marked x message).log ≡ x.log
marked_log x (message.Prepare t coord member count) = log_marked x t coord count (standing_of x t)
marked_log x (message.Decide t coord member commit) = refl
marked_log x (message.Vote t member coord granted) = refl
marked_log x (message.Ask t member coord) = refl
marked_log x (message.Ack t member coord) = refl

up_marked : (x : MemberState) (t coord count : ℕ) (s : Standing) → (marked_by x t coord count s).up ≡ x.up
up_marked x t coord count IsActive = refl
up_marked x t coord count IsVoted = refl
up_marked x t coord count IsInstalled = refl
up_marked x t coord count IsAbsent = refl

pub marked_up : (x : MemberState) (message : Message) → (marked x message).up ≡ x.up
marked_up x (message.Prepare t coord member count) = up_marked x t coord count (standing_of x t)
marked_up x (message.Decide t coord member commit) = refl
marked_up x (message.Vote t member coord granted) = refl
marked_up x (message.Ask t member coord) = refl
marked_up x (message.Ack t member coord) = refl

-- ---- local commits

local_may : (t carried kept : ℕ) (sets : Sets) (v : Verdict) → (v ≡ VoteYes → AllByRecursion IsWritable (log.Commit t [] ∷ prepare_record t local_coord (counted carried) sets ∷ []))
    → MayWrite (local_vote_plan t carried kept sets v).writes
local_may t carried kept sets LostOperations may = tt
local_may t carried kept sets (StaleRead key) may = tt
local_may t carried kept sets (HeldBy u) may = tt
local_may t carried kept sets VoteYes may = (((may refl).1.0, tt), ((may refl).0, tt))

local_suits : (x : MemberState) (t carried kept : ℕ) (sets : Sets) (v : Verdict) → (v ≡ VoteYes → standing_of x t ≡ IsActive) → Suits x t (local_vote_plan t carried kept sets v).change
local_suits x t carried kept sets LostOperations is = tt
local_suits x t carried kept sets (StaleRead key) is = tt
local_suits x t carried kept sets (HeldBy u) is = tt
local_suits x t carried kept sets VoteYes is = is refl

at_least_one : (n : ℕ) → (n == 0) ≡ false → 1 ≤ n
at_least_one n e = by (nat_le 1 n) refl
  where
    by : (b : Bool) → nat_le 1 n ≡ b → 1 ≤ n
    by true h = grind (arith, nat_tests, h)
    by false h = let z : n ≡ 0 = grind (arith, nat_tests, h) in absurd (let y : true ≡ false = sym (ap (λ k. k == 0) z) ∙ e in cc)

local_by : (x : MemberState) (t carried : ℕ) (b : Bool) → (carried == 0) ≡ b → MayCommit x t carried
    → MayWrite (if b then says answer.Absent else local_vote_plan t carried (kept_count x.engine t) (sets_of (operations_of x.engine t)) (vote_of x.engine t carried)).writes
local_by x t carried true e may = tt
local_by x t carried false e may = local_may t carried (kept_count x.engine t) (sets_of (operations_of x.engine t)) (vote_of x.engine t carried) (may (at_least_one carried e))

pub local_commit_may : (x : MemberState) (t carried : ℕ) → MayCommit x t carried → MayWrite (local_commit_plan x t carried).writes
local_commit_may x t carried may = local_by x t carried (carried == 0) refl may

local_suits_by : (x : MemberState) (t carried : ℕ) (b : Bool) → (carried == 0) ≡ b
    → Suits x t (if b then says answer.Absent else local_vote_plan t carried (kept_count x.engine t) (sets_of (operations_of x.engine t)) (vote_of x.engine t carried)).change
local_suits_by x t carried true e = tt
local_suits_by x t carried false e =
    local_suits x t carried (kept_count x.engine t) (sets_of (operations_of x.engine t)) (vote_of x.engine t carried) (castable x t carried (at_least_one carried e))

pub local_commit_suits : (x : MemberState) (t carried : ℕ) → Suits x t (local_commit_plan x t carried).change
local_commit_suits x t carried = local_suits_by x t carried (carried == 0) refl
