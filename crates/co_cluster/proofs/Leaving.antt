-- What the log write of an event leaves of the stable records of its node, where no stop is armed.
use Rattle.std.proofs.Common.{◌≡◌, ◌⊎◌, ℕ, Bool, true, false, List, [], ◌∷◌, ◌++◌, refl, sym, ap, subst, ◌∙◌, inl, inr}
use Rattle.std.specs.Prelude.{Option, None, Some, is_some, Result, Ok, Err, IsOk, IfErr}
use Rattle.co_base.specs.declared.mark.Mark.{Mark}
use Rattle.co_base.specs.declared.node.Node.{Node}
use Rattle.co_base.specs.declared.node.Node.TheVariants as node
use Rattle.co_log.specs.LogView.{LogView, HasSpots, spot_of}
use Rattle.co_log.specs.declared.fault.NodeFault.{NodeFault}
use Rattle.co_log.specs.declared.fault.NodeFault.TheVariants.{Device, Differs, Full, Memory}
use Rattle.co_message.specs.declared.answer.Answer.{Answer}
use Rattle.co_message.specs.declared.message.Message.{Message}
use Rattle.co_message.specs.declared.message.Message.TheVariants as message
use Rattle.co_node.proofs.Opened.{told_records}
use Rattle.co_node.specs.Answers.{LeftAs, IsAnswered}
use Rattle.co_node.specs.NodeLog.{RepresentsLog}
use Rattle.co_opening.specs.Nodes.{IsKept}
use Rattle.co_opening.specs.Rest.{IsSpotOf}
use Rattle.co_outside.specs.Home.{File, HomeView}
use Rattle.co_outside.specs.declared.spot.Spot.{Spot}
use Rattle.co_plain.specs.LogWrite.{outcome_of, with_stop}
use Rattle.co_plain.specs.LocalCommit.{member_local_commit}
use Rattle.co_plain.specs.Member.{member_deliver, member_vote}
use Rattle.co_plain.specs.MemberLog.{checkpoint_by, member_checkpoint, member_spare}
use Rattle.co_plain.specs.MemberStep.{forced_by, standing_of}
use Rattle.co_plain.specs.LogWrite.{generation_of}
use Rattle.co_plain.specs.declared.member_step.MemberStep.{MemberStep as PlainStep}
use Rattle.co_log.specs.Spare.{IsOverfull}
use Rattle.co_plain.specs.Numbers.{next_generation}
use Rattle.co_plain.specs.declared.log_state.LogState.{LogState}
use Rattle.co_base.specs.declared.leaves.Stop.{Stop}
use Rattle.co_plain.specs.declared.member_state.AskedMark.{AskedMark}
use Rattle.co_plain.specs.declared.member_state.MemberState.{MemberState}
use Rattle.co_plain.specs.declared.standing.Standing.{Standing}
use Rattle.co_plain.specs.declared.standing.Standing.TheVariants.{IsActive, IsVoted, IsInstalled, IsAbsent}
use Rattle.co_record.specs.declared.record.Record.{Record}
use Rattle.co_state.specs.Table.{look}
use Rattle.co_member.proofs.Carrying.{changed_log}
use Rattle.co_member.proofs.Steps.{deliver_is, vote_is, local_commit_is}
use Rattle.co_member.specs.Checkpoint.{spare_items, IsAnsweredIn, IsCheckpointed}
use Rattle.co_member.specs.Plans.{txn_of, changed, carried, carried_out, prepare_plan, deliver_plan, again_plan, asked_plan, local_commit_plan, marked, marked_by}
use Rattle.co_member.specs.Standing.{marks_in, written_by}
use Rattle.co_node.specs.Writing.{IsAnsweredFor, IsTooLongFor, stable_after, written_with}
use Rattle.co_log.specs.Others.{OtherFilesStay}
use Rattle.co_cluster.proofs.Serving.{files_stay}
use Rattle.co_member.specs.declared.plan.Plan.{Plan}
use Rattle.co_node.specs.declared.writing.Writes.{Writes}
use Rattle.co_node.specs.declared.writing.Writes.TheVariants.{Nothing, Keeps, Forces, ForcesBoth}
use Rattle.co_member.specs.declared.step.MemberStep.{MemberStep}
use Rattle.co_node.specs.Rereading.{IsReread}
use Rattle.co_member.specs.Attaching.{read_by}
use Rattle.co_cluster.specs.Left.{IsFullWith, IsLeftBy, member_disarmed}

-- ---- a plan that is carried out where no stop is armed

forced_stable : (m : ℕ) (next : MemberState) (batch : List Record) (a : Answer) (sent : Option Message) (l : LogState) → next.log ≡ with_stop l None → (forced_by m next batch a sent (outcome_of next.log.armed 4)).state.log.stable ≡ batch ++ (l.waiting ++ l.stable)
forced_stable m next batch a sent l is =
    ap (λ (o : Option Stop). (forced_by m next batch a sent (outcome_of o 4)).state.log.stable) (ap (λ (k : LogState). k.armed) is)
    ∙ ap (λ (k : LogState). batch ++ (k.waiting ++ k.stable)) is

carried_stable : (w : Writes) (m : ℕ) (next : MemberState) (a : Answer) (sent : Option Message) (l : LogState) → next.log ≡ with_stop l None → (carried w m next a sent).state.log.stable ≡ stable_after w l
carried_stable Nothing m next a sent l is = ap (λ (k : LogState). k.stable) is
carried_stable (Keeps r) m next a sent l is = ap (λ (k : LogState). k.stable) is
carried_stable (Forces r) m next a sent l is = forced_stable m next (r ∷ []) a sent l is
carried_stable (ForcesBoth first r) m next a sent l is = forced_stable m next (r ∷ first ∷ []) a sent l is

plan_stable : (m t : ℕ) (y : MemberState) (l : LogState) (plan : Plan) → y.log ≡ with_stop l None → (carried_out m y t plan).state.log.stable ≡ stable_after plan.writes l
plan_stable m t y l plan is = carried_stable plan.writes m (changed y t plan.change) plan.answer plan.sent l (changed_log y t plan.change ∙ is)

-- ---- a plan does not look at the armed stop

prepare_alike : (m t coord count : ℕ) (x : MemberState) (s : Standing) → prepare_plan m (member_disarmed x) t coord count s ≡ prepare_plan m x t coord count s
prepare_alike m t coord count x IsActive = refl
prepare_alike m t coord count x IsVoted = refl
prepare_alike m t coord count x IsInstalled = refl
prepare_alike m t coord count x IsAbsent = refl

deliver_alike : (m : ℕ) (x : MemberState) (note : Message) → deliver_plan m (member_disarmed x) note ≡ deliver_plan m x note
deliver_alike m x (message.Prepare t coord member count) = prepare_alike m t coord count x (standing_of x t)
deliver_alike m x (message.Decide t coord member commit) = refl
deliver_alike m x (message.Vote t member coord granted) = refl
deliver_alike m x (message.Ask t member coord) = refl
deliver_alike m x (message.Ack t member coord) = refl

asked_alike : (m t : ℕ) (x : MemberState) (o : Option AskedMark) → asked_plan m (member_disarmed x) t o ≡ asked_plan m x t o
asked_alike m t x None = refl
asked_alike m t x (Some mark) = refl

again_alike : (m t : ℕ) (x : MemberState) (s : Standing) → again_plan m (member_disarmed x) t s ≡ again_plan m x t s
again_alike m t x IsActive = asked_alike m t x (look x.asked t)
again_alike m t x IsVoted = refl
again_alike m t x IsInstalled = refl
again_alike m t x IsAbsent = refl

marked_by_log : (x : MemberState) (t coord count : ℕ) (s : Standing) → (marked_by x t coord count s).log ≡ x.log
marked_by_log x t coord count IsActive = refl
marked_by_log x t coord count IsVoted = refl
marked_by_log x t coord count IsInstalled = refl
marked_by_log x t coord count IsAbsent = refl

marked_log : (x : MemberState) (note : Message) → (marked x note).log ≡ x.log
marked_log x (message.Prepare t coord member count) = marked_by_log x t coord count (standing_of x t)
marked_log x (message.Decide t coord member commit) = refl
marked_log x (message.Vote t member coord granted) = refl
marked_log x (message.Ask t member coord) = refl
marked_log x (message.Ack t member coord) = refl

pub deliver_stable : (m : ℕ) (x : MemberState) (note : Message) → stable_after (deliver_plan m x note).writes x.log ≡ (member_deliver m (member_disarmed x) note).state.log.stable
deliver_stable m x note =
    sym
    (ap (λ (d : PlainStep). d.state.log.stable) (deliver_is m (member_disarmed x) note)
    ∙ plan_stable m (txn_of note) (marked (member_disarmed x) note) x.log (deliver_plan m (member_disarmed x) note) (marked_log (member_disarmed x) note)
    ∙ ap (λ (p : Plan). stable_after p.writes x.log) (deliver_alike m x note))

pub vote_stable : (m t : ℕ) (x : MemberState) → stable_after (again_plan m x t (standing_of x t)).writes x.log ≡ (member_vote m (member_disarmed x) t).state.log.stable
vote_stable m t x =
    sym
    (ap (λ (d : PlainStep). d.state.log.stable) (vote_is m t (member_disarmed x))
    ∙ plan_stable m t (member_disarmed x) x.log (again_plan m (member_disarmed x) t (standing_of x t)) refl
    ∙ ap (λ (p : Plan). stable_after p.writes x.log) (again_alike m t x (standing_of x t)))

pub local_commit_stable : (m t carried : ℕ) (x : MemberState) → stable_after (local_commit_plan x t carried).writes x.log ≡ (member_local_commit m (member_disarmed x) t carried).state.log.stable
local_commit_stable m t carried x =
    sym
    (ap (λ (d : PlainStep). d.state.log.stable) (local_commit_is m t carried (member_disarmed x))
    ∙ plan_stable m t (member_disarmed x) x.log (local_commit_plan x t carried) refl)

-- ---- what is left where a call does not answer

-- the files of a log are those of its node
pub own_spots : (owner : Node) (log : LogView) → log.node ≡ owner → HasSpots log → IsSpotOf owner log.current.spot × IsSpotOf owner log.spare.spot
own_spots owner log owned (inl own) = (inl (own.0 ∙ ap (λ (n : Node). spot_of n 0) owned), inr (own.1 ∙ ap (λ (n : Node). spot_of n 1) owned))
own_spots owner log owned (inr own) = (inr (own.0 ∙ ap (λ (n : Node). spot_of n 1) owned), inl (own.1 ∙ ap (λ (n : Node). spot_of n 0) owned))

-- before a log write the files have the records of the log
pub kept_left : (owner : Node) (home : HomeView) (log : LogView) (l : LogState) (that : List Record) → RepresentsLog owner log l → IsKept home owner log → LeftAs home.file owner l.stable that
kept_left owner home log l that s kept told =
    let here = told_records owner home log l s kept.held kept.within told in
    (here.0, here.1, inl here.2)

module _ (owner : Node) (at : Spot) (long : Type 0) (this that : List Record) (log : LogView) (old new : HomeView) where
  pub fault_left : IsSpotOf owner at → (e : NodeFault) → IsAnswered owner at long this that log old new (Err e) → LeftAs old.file owner this that → IsLeftBy new.file owner this that e
  fault_left own (Device spot) answered before = (answered.1.left, tt)
  fault_left own (Differs spot place kept read) answered before = absurd answered
  fault_left own (Full spot) answered before = (subst (λ (v : HomeView). LeftAs v.file owner this that) (sym answered.untouched) before, (answered.overlong, subst (IsSpotOf owner) (sym answered.spot) own))
  fault_left own Memory answered before = (λ told. let h = answered.left told in (h.0, h.1, inl (either h.2)), tt)
    where
      either : {X : Type 0} → X ⊎ X → X
      either (inl x) = x
      either (inr x) = x

  -- so of a step with these marks
  pub step_left : IsSpotOf owner at → {D : Type 0} (marks : D → List Mark) (out : Result D NodeFault) (completed : List Record) → that ≡ completed → IsAnswered owner at long this that log old new (written_with marks out) → LeftAs old.file owner this that → IfErr out (IsLeftBy new.file owner this completed)
  step_left own marks (Ok d) completed same answered before = tt
  step_left own marks (Err e) completed same answered before = subst (λ (rs : List Record). IsLeftBy new.file owner this rs e) same (fault_left own e answered before)

-- the two steps of a checkpoint
checkpoint_by_left : (m : ℕ) (x : MemberState) (log after : LogView) (old new : HomeView) (out : Result MemberStep NodeFault) (closed : Bool) → IsSpotOf (node.Member m) log.spare.spot → IsAnsweredIn closed m x log after old new (written_by out) → ((that : List Record) → LeftAs old.file (node.Member m) x.log.stable that)
    → IfErr out (IsLeftBy new.file (node.Member m) x.log.stable (checkpoint_by m (member_disarmed x) closed).state.log.stable)
checkpoint_by_left m x log after old new out false own answered before =
    step_left (node.Member m) log.spare.spot ⊥ x.log.stable x.log.stable after old new own marks_in out x.log.stable refl answered (before x.log.stable)
checkpoint_by_left m x log after old new out true own answered before =
    let that = member_spare m x (next_generation (generation_of x.log.stable)) in
    step_left (node.Member m) log.spare.spot (IsOverfull log (spare_items x)) x.log.stable that after old new own marks_in out that refl answered (before that)

pub checkpoint_left : (m : ℕ) (x : MemberState) (log after : LogView) (old new : HomeView) (out : Result MemberStep NodeFault) → IsSpotOf (node.Member m) log.spare.spot → IsCheckpointed m x log after old new (written_by out) → ((that : List Record) → LeftAs old.file (node.Member m) x.log.stable that)
    → IfErr out (IsLeftBy new.file (node.Member m) x.log.stable (member_checkpoint m (member_disarmed x)).state.log.stable)
checkpoint_left m x log after old new out own answered before = checkpoint_by_left m x log after old new out x.log.spare_closed own answered before

-- ---- by the calls of a node

pub plan_left : {D : Type 0} (marks : D → List Mark) (w : Writes) (owner : Node) (l : LogState) (log after : LogView) (old new : HomeView) (out : Result D NodeFault) (completed : List Record) → stable_after w l ≡ completed → RepresentsLog owner log l → IsKept old owner log
    → IsAnsweredFor w owner l log after old new (written_with marks out) → IfErr out (IsLeftBy new.file owner l.stable completed)
plan_left marks w owner l log after old new out completed same stands kept answered =
    step_left owner log.current.spot (IsTooLongFor w log) l.stable (stable_after w l) after old new (own_spots owner log stands.owned kept.held.spots).0 marks out completed same answered (kept_left owner old log l (stable_after w l) stands kept)

-- there was no memory, and nothing was written
pub still_left : {A : Type 0} (out : Result A NodeFault) (owner : Node) (home : HomeView) (log : LogView) (l : LogState) (that : List Record) → IfErr out (λ e. e ≡ Memory) → RepresentsLog owner log l → IsKept home owner log →
    IfErr out (IsLeftBy home.file owner l.stable that)
still_left (Ok d) owner home log l that memory stands kept = tt
still_left (Err e) owner home log l that memory stands kept = subst (IsLeftBy home.file owner l.stable that) (sym memory) (kept_left owner home log l that stands kept, tt)

pub never_left : {A : Type 0} (out : Result A NodeFault) (P : NodeFault → Type 0) → IsOk out → IfErr out P
never_left (Ok d) P done = tt
never_left (Err e) P done = absurd cc

-- a restart leaves the files of its node, and writes nothing
abbrev pub IsNotFull : NodeFault → Type 0
IsNotFull (Device spot) = Unit {0}
IsNotFull (Differs spot place kept read) = Unit {0}
IsNotFull (Full spot) = ⊥
IsNotFull Memory = Unit {0}

not_full : (owner : Node) (records : List Record) (e : NodeFault) → IsNotFull e → IsFullWith owner records e
not_full owner records (Device spot) h = tt
not_full owner records (Differs spot place kept read) h = tt
not_full owner records (Full spot) h = absurd h
not_full owner records Memory h = tt

pub restart_left : {A : Type 0} (out : Result A NodeFault) (owner : Node) (old new : HomeView) (log : LogView) (l : LogState) (that : List Record) → IfErr out IsNotFull → RepresentsLog owner log l → IsKept old owner log
    → new.file log.current.spot ≡ old.file log.current.spot → new.file log.spare.spot ≡ old.file log.spare.spot → OtherFilesStay log.node old new → IfErr out (IsLeftBy new.file owner l.stable that)
restart_left (Ok d) owner old new log l that read stands kept current spare stay = tt
restart_left (Err e) owner old new log l that read stands kept current spare stay =
    let same = files_stay owner log old new stands.owned kept.held.spots current spare (subst (λ (n : Node). OtherFilesStay n old new) stands.owned stay) in
    (subst (λ (f : Spot → Option File). LeftAs f owner l.stable that) (sym (λ i s. same s i)) (kept_left owner old log l that stands kept), not_full owner that e read)

module _ {H : Type 0} (gives : H → Spot → ℕ → List ℕ → Type 0) (seen : H → HomeView) (log : LogView) (old new : H) where
  pub reread_alone : (e : NodeFault) → IsReread gives seen log old new (Err e) → IsNotFull e
  reread_alone (Device spot) reread = tt
  reread_alone (Differs spot place kept read) reread = tt
  reread_alone (Full spot) reread = absurd reread
  reread_alone Memory reread = tt

  pub member_read : {R : Type 0} (running : Option R) (out : Result MemberStep NodeFault) → (is_some running ≡ true → IsOk out × (new ≡ old)) → (running ≡ None → IsReread gives seen log old new (read_by out)) → IfErr out IsNotFull
  member_read running (Ok d) stays reread = tt
  member_read None (Err e) stays reread = reread_alone e (reread refl)
  member_read (Some r) (Err e) stays reread = let h : false ≡ true = (stays refl).0 in absurd cc
