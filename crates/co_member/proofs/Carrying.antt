-- What carrying a plan out leaves of the plain member, once its change in memory and its log write were done.
use Rattle.std.proofs.Common.{◌≡◌, ◌||◌, ℕ, Bool, true, false, List, [], ◌∷◌, ◌++◌, refl, sym, ap, subst, ◌∙◌, ◌<◌}
use Rattle.std.specs.Prelude.{IsTrue, Option, None, Some, is_some, if◌then◌else◌, Result, Ok, Err, IfOk}
use Rattle.co_base.specs.declared.head.Kind.{Kind}
use Rattle.co_base.specs.declared.leaves.Leaves.{Leaves}
use Rattle.co_base.specs.declared.mark.Mark.{Mark}
use Rattle.co_base.specs.declared.node.Node.{Node}
use Rattle.co_base.specs.declared.node.Node.TheVariants as node
use Rattle.co_log.specs.LogView.{LogView}
use Rattle.co_log.specs.declared.fault.NodeFault.{NodeFault}
use Rattle.co_message.specs.declared.answer.Answer.{Answer}
use Rattle.co_message.specs.declared.answer.Answer.TheVariants as answer
use Rattle.co_message.specs.declared.message.Message.{Message}
use Rattle.co_outside.specs.Home.{HomeView}
use Rattle.co_outside.specs.declared.spot.Spot.{Spot}
use Rattle.co_node.specs.Answers.{IsAnswered}
use Rattle.co_node.specs.NodeLog.{RepresentsLog}
use Rattle.co_node.specs.Writes.{forcing, HasWritten}
use Rattle.co_node.specs.declared.written.Written.{Written}
use Rattle.co_node.specs.declared.written.Written.TheVariants.{Done, Stopped}
use Rattle.co_plain.specs.LocalCommit.{local_coord}
use Rattle.co_plain.specs.LogWrite.{crashed_log, marks_of, outcome_of, with_batch, with_stop}
use Rattle.co_plain.specs.Member.{prepare_record, voted_state}
use Rattle.co_plain.specs.MemberLog.{member_arm, member_crash, member_restart, restart_by}
use Rattle.co_plain.specs.MemberStep.{forced_by, member_down_with, standing_of, stopped_member, with_log}
use Rattle.co_plain.specs.MemberView.{recovered_view}
use Rattle.co_plain.specs.Numbers.{counted}
use Rattle.co_plain.specs.Opening.{member_with}
use Rattle.co_plain.specs.declared.log_state.LogState.{LogState}
use Rattle.co_plain.specs.declared.member_state.MemberState.{MemberState}
use Rattle.co_plain.specs.declared.member_step.MemberStep.{MemberStep as PlainStep}
use Rattle.co_plain.specs.declared.outcome.Outcome.{Outcome}
use Rattle.co_plain.specs.declared.standing.Standing.TheVariants.{IsActive}
use Rattle.co_undecided.proofs.Standing.{not_held}
use Rattle.co_frame.specs.Gate.{batch_is_stable}
use Rattle.co_record.specs.declared.record.Record.{Record}
use Rattle.co_record.specs.declared.record.Record.TheVariants as log
use Rattle.co_state.specs.Changes.{sets_of}
use Rattle.co_state.specs.EngineState.{is_undecided, operations_of, sets_at, sets_in}
use Rattle.co_state.specs.Table.{holds, look}
use Rattle.co_state.specs.declared.engine_state.EngineState.{EngineState}
use Rattle.co_member.specs.Plans.{changed, carried, carried_out, plan_of}
use Rattle.co_member.specs.Standing.{is_up, RepresentsMember, RepresentsRunning, HasDone, HasEnded, HasEndedAs, IsSame, told, written_by}
use Rattle.co_node.specs.Writing.{HasWrittenFor}
use Rattle.co_member.specs.declared.member.Member.{Member}
use Rattle.co_member.specs.declared.plan.Change.{Change}
use Rattle.co_member.specs.declared.plan.Change.TheVariants.{Stays, Casts, Drops, Installs, CastsAndInstalls}
use Rattle.co_member.specs.declared.plan.Course.TheVariants.{GrantsLocal}
use Rattle.co_member.specs.declared.plan.Plan.{Plan}
use Rattle.co_node.specs.declared.writing.Writes.{Writes}
use Rattle.co_node.specs.declared.writing.Writes.TheVariants.{Nothing, Keeps, Forces, ForcesBoth}
use Rattle.co_member.specs.declared.running.Running.{Running}
use Rattle.co_member.specs.declared.step.MemberStep.{MemberStep}
use Rattle.co_member.proofs.Changing.{cast_sets, cast_undecided, counted_small}
use Rattle.co_member.proofs.Standings.{held_active, unvoted_active}

-- no change of a transaction touches the log, nor whether the member runs
pub changed_log : (x : MemberState) (t : ℕ) (change : Change) → (changed x t change).log ≡ x.log
changed_log x t Stays = refl
changed_log x t (Casts coord count) = refl
changed_log x t Drops = refl
changed_log x t Installs = refl
changed_log x t (CastsAndInstalls coord count) = refl

pub changed_up : (x : MemberState) (t : ℕ) (change : Change) → (changed x t change).up ≡ x.up
changed_up x t Stays = refl
changed_up x t (Casts coord count) = refl
changed_up x t Drops = refl
changed_up x t Installs = refl
changed_up x t (CastsAndInstalls coord count) = refl

none_here : {A : Type 0} {a : A} {o : Option A} → o ≡ Some a → o ≡ None → ⊥
none_here one two = let h : None ≡ Some _ = sym two ∙ one in absurd cc

same_here : {A : Type 0} {a b : A} {o : Option A} → o ≡ Some a → o ≡ Some b → a ≡ b
same_here one two = let h : Some _ ≡ Some _ = sym one ∙ two in cc

-- what a local commit writes and changes, where its records are these
pub local_writes : (m t count : ℕ) (x : MemberState) (first item : Record) → count < 65536 → first ≡ prepare_record t local_coord count (sets_of (operations_of x.engine t)) → item ≡ log.Commit t [] → ForcesBoth first item ≡ (plan_of (GrantsLocal count) m x t).writes
local_writes m t count x first item small prepare commit =
    ap (λ (r : Record). ForcesBoth r item) prepare ∙ ap (λ (n : ℕ). ForcesBoth (prepare_record t local_coord n (sets_of (operations_of x.engine t))) item) (sym (counted_small count small))
    ∙ ap (λ (r : Record). ForcesBoth (prepare_record t local_coord (counted count) (sets_of (operations_of x.engine t))) r) commit

pub local_change : (m t count : ℕ) (x : MemberState) → count < 65536 → CastsAndInstalls local_coord count ≡ (plan_of (GrantsLocal count) m x t).change
local_change m t count x small = ap (λ (n : ℕ). CastsAndInstalls local_coord n) (sym (counted_small count small))

-- the plain member that goes up
abbrev went_up : MemberState → MemberState
went_up z = record { up = true; engine = z.engine; committed = z.committed; asked = z.asked; log = z.log }

-- how a log write that ended leaves the directory
pub ended_answered : {E : Type 0} (owner : Node) (at : Spot) (long : Type 0) (this that : List Record) (log : LogView) (old new : HomeView) (a : Answer) (sent : Option Message) (out : Result Written NodeFault) (before after : Member E) (result : Result MemberStep NodeFault)
    → HasEndedAs a sent out before result after → after.log ≡ before.log → before.log ≡ log → IsAnswered owner at long this that log old new out → IsAnswered owner at long this that after.log old new (written_by result)
ended_answered owner at long this that log old new a sent (Ok written) before after result e stays is served =
    subst (λ (r : Result MemberStep NodeFault). IsAnswered owner at long this that after.log old new (written_by r)) (sym e.1)
    (subst (λ (v : LogView). IsAnswered owner at long this that v old new (Ok written)) (sym (stays ∙ is)) served)
ended_answered owner at long this that log old new a sent (Err f) before after result e stays is left =
    subst (λ (r : Result MemberStep NodeFault). IsAnswered owner at long this that after.log old new (written_by r)) (sym e.0)
    (subst (λ (v : LogView). IsAnswered owner at long this that v old new (Err f)) (sym (stays ∙ is)) left)

module _ {E : Type 0} (stands_for : E → EngineState → Type 0) where
  -- what a member that is up has in memory
  pub running_of : (o : Option (Running E)) → is_some o ≡ true → (r : Running E) × (o ≡ Some r)
  running_of None is = absurd cc
  running_of (Some r) is = (r, refl)

  -- a plain member with another log has the same in memory
  pub on_log : (kind : Kind) (r : Running E) (x : MemberState) (l : LogState) → RepresentsRunning stands_for kind r x → RepresentsRunning stands_for kind r (with_log x l)
  on_log kind r x l s = record { undecided = s.undecided; committed = s.committed; kind = s.kind }

  -- the engine state of a plain member is of the kind of the member
  kind_by : (m : Member E) (x : MemberState) (o : Option (Running E)) → m.running ≡ o → RepresentsMember stands_for m x → x.engine.kind ≡ m.kind
  kind_by m x None is s = ap (λ (y : MemberState). y.engine.kind) (s.down is)
  kind_by m x (Some r) is s = (s.running r is).kind

  pub kind_is : (m : Member E) (x : MemberState) → RepresentsMember stands_for m x → x.engine.kind ≡ m.kind
  kind_is m x s = kind_by m x m.running refl s

  -- a member that has this in memory and a log that stands for this plain log, of the number and kind of one that stands for y
  pub stands_on : (x after : Member E) (y next : MemberState) (r : Running E) → RepresentsMember stands_for x y → is_up x ≡ true → after.number ≡ x.number → after.kind ≡ x.kind → after.running ≡ Some r → next.up ≡ y.up
      → RepresentsRunning stands_for x.kind r next → RepresentsLog (node.Member x.number) after.log next.log → RepresentsMember stands_for after next
  stands_on x after y next r s up number kind is stays running log =
      record {
        log = subst (λ (m : ℕ). RepresentsLog (node.Member m) after.log next.log) (sym number) log;
        up = stays ∙ s.up ∙ up ∙ sym (ap is_some is);
        running = λ u other. subst (λ (k : Kind). RepresentsRunning stands_for k u next) (sym kind) (subst (λ (v : Running E). RepresentsRunning stands_for x.kind v next) (same_here is other) running);
        down = λ none. absurd (none_here is none);
      }

  -- a member that went down over this plain log
  pub stands_down : (x after : Member E) (kind : Kind) (l : LogState) → after.number ≡ x.number → after.kind ≡ kind → after.running ≡ None → RepresentsLog (node.Member x.number) after.log (crashed_log l)
      → RepresentsMember stands_for after (member_down_with kind l)
  stands_down x after kind l number same none log =
      record {
        log = subst (λ (m : ℕ). RepresentsLog (node.Member m) after.log (crashed_log l)) (sym number) log;
        up = sym (ap is_some none);
        running = λ r is. absurd (none_here is none);
        down = λ is. ap (λ (k : Kind). member_down_with k l) (sym same);
      }

  -- ---- a write that was done

  forced_done : (x after : Member E) (y next : MemberState) (r : Running E) (batch : List Record) (a : Answer) (sent : Option Message) (marks : List Mark) → RepresentsMember stands_for x y → is_up x ≡ true → after.number ≡ x.number → after.kind ≡ x.kind
      → after.running ≡ Some r → next.up ≡ y.up → RepresentsRunning stands_for x.kind r next → HasWritten (forcing (node.Member x.number) next.log batch) (node.Member x.number) next.log after.log (Ok (Done marks))
      → HasDone stands_for (forced_by x.number next batch a sent (outcome_of next.log.armed 4)) (record { answer = a; sent = sent; marks = marks }) after
  forced_done x after y next r batch a sent marks s up number kind is stays running h =
      subst (λ (o : Outcome). HasDone stands_for (forced_by x.number next batch a sent o) (record { answer = a; sent = sent; marks = marks }) after) (sym h.0)
      (record {
        answer = refl;
        sent = refl;
        marks = h.1;
        state = stands_on x after y (with_log next (with_batch next.log batch)) r s up number kind is stays (on_log x.kind r next (with_batch next.log batch) running) h.2;
      })

  pub done_step : (x after : Member E) (y next : MemberState) (r : Running E) (w : Writes) (a : Answer) (sent : Option Message) (marks : List Mark) → RepresentsMember stands_for x y → is_up x ≡ true → after.number ≡ x.number → after.kind ≡ x.kind
      → after.running ≡ Some r → next.up ≡ y.up → RepresentsRunning stands_for x.kind r next → HasWrittenFor w (node.Member x.number) next.log after.log (Ok (Done marks))
      → HasDone stands_for (carried w x.number next a sent) (record { answer = a; sent = sent; marks = marks }) after
  done_step x after y next r Nothing a sent marks s up number kind is stays running h =
      record { answer = refl; sent = refl; marks = h.0; state = stands_on x after y next r s up number kind is stays running h.1 }
  done_step x after y next r (Keeps item) a sent marks s up number kind is stays running h =
      let after_it = (carried (Keeps item) x.number next a sent).state in
      record { answer = refl; sent = refl; marks = h.0; state = stands_on x after y after_it r s up number kind is stays (on_log x.kind r next after_it.log running) h.1 }
  done_step x after y next r (Forces item) a sent marks s up number kind is stays running h = forced_done x after y next r (item ∷ []) a sent marks s up number kind is stays running h
  done_step x after y next r (ForcesBoth first item) a sent marks s up number kind is stays running h = forced_done x after y next r (item ∷ first ∷ []) a sent marks s up number kind is stays running h

  -- ---- a write that was stopped

  stopped_by : (x after : Member E) (next : MemberState) (batch : List Record) (call : ℕ) (marks : List Mark) (counts : Bool) → after.number ≡ x.number → after.kind ≡ next.engine.kind → after.running ≡ None
      → marks ≡ (if counts then marks_of (node.Member x.number) (batch ++ next.log.waiting) else [])
      → RepresentsLog (node.Member x.number) after.log (crashed_log (if counts then with_batch next.log batch else next.log))
      → HasDone stands_for (stopped_member x.number next call counts batch) (record { answer = answer.Stopped call; sent = None; marks = marks }) after
  stopped_by x after next batch call marks true number kind none told log =
      record { answer = refl; sent = refl; marks = told; state = stands_down x after next.engine.kind (with_batch next.log batch) number kind none log }
  stopped_by x after next batch call marks false number kind none told log =
      record { answer = refl; sent = refl; marks = told; state = stands_down x after next.engine.kind next.log number kind none log }

  forced_stopped : (x after : Member E) (next : MemberState) (batch : List Record) (a : Answer) (sent : Option Message) (call : ℕ) (marks : List Mark) → after.number ≡ x.number → after.kind ≡ next.engine.kind → after.running ≡ None
      → HasWritten (forcing (node.Member x.number) next.log batch) (node.Member x.number) next.log after.log (Ok (Stopped call marks))
      → HasDone stands_for (forced_by x.number next batch a sent (outcome_of next.log.armed 4)) (record { answer = answer.Stopped call; sent = None; marks = marks }) after
  forced_stopped x after next batch a sent call marks number kind none h =
      subst (λ (o : Outcome). HasDone stands_for (forced_by x.number next batch a sent o) (record { answer = answer.Stopped call; sent = None; marks = marks }) after) (sym h.1)
      (stopped_by x after next batch call marks (batch_is_stable call h.0) number kind none h.2 h.3)

  pub stopped_step : (x after : Member E) (next : MemberState) (w : Writes) (a : Answer) (sent : Option Message) (call : ℕ) (marks : List Mark) → after.number ≡ x.number → after.kind ≡ next.engine.kind → after.running ≡ None
      → HasWrittenFor w (node.Member x.number) next.log after.log (Ok (Stopped call marks))
      → HasDone stands_for (carried w x.number next a sent) (record { answer = answer.Stopped call; sent = None; marks = marks }) after
  stopped_step x after next Nothing a sent call marks number kind none h = absurd h
  stopped_step x after next (Keeps item) a sent call marks number kind none h = absurd h
  stopped_step x after next (Forces item) a sent call marks number kind none h = forced_stopped x after next (item ∷ []) a sent call marks number kind none h
  stopped_step x after next (ForcesBoth first item) a sent call marks number kind none h = forced_stopped x after next (item ∷ first ∷ []) a sent call marks number kind none h

  -- ---- a write that ended

  pub ended_step : (x before after : Member E) (y next : MemberState) (r : Running E) (w : Writes) (a : Answer) (sent : Option Message) (written : Written) (d : MemberStep) → RepresentsMember stands_for x y → is_up x ≡ true → before.number ≡ x.number
      → before.kind ≡ x.kind → before.running ≡ Some r → next.up ≡ y.up → RepresentsRunning stands_for x.kind r next → HasWrittenFor w (node.Member x.number) next.log before.log (Ok written)
      → HasEnded a sent written before d after → after.log ≡ before.log → IsSame before after → HasDone stands_for (carried w x.number next a sent) d after
  ended_step x before after y next r w a sent (Done marks) d s up number kind is stays running h e log same =
      let step = carried w x.number next a sent in
      let told : MemberStep = record { answer = a; sent = sent; marks = marks } in
      subst (λ (k : MemberStep). HasDone stands_for step k after) (sym e.0)
      (subst (λ (m : Member E). HasDone stands_for step told m) (sym e.1) (done_step x before y next r w a sent marks s up number kind is stays running h))
  ended_step x before after y next r w a sent (Stopped call marks) d s up number kind is stays running h e log same =
      subst (λ (k : MemberStep). HasDone stands_for (carried w x.number next a sent) k after) (sym e.0)
      (stopped_step x after next w a sent call marks (same.number ∙ number) (same.kind ∙ kind ∙ sym running.kind) e.1
      (subst (λ (v : LogView). HasWrittenFor w (node.Member x.number) next.log v (Ok (Stopped call marks))) (sym log) h))

  -- so it is where the log write may have failed
  pub ended_by : (x before after : Member E) (y next : MemberState) (r : Running E) (w : Writes) (a : Answer) (sent : Option Message) (out : Result Written NodeFault) (result : Result MemberStep NodeFault) → RepresentsMember stands_for x y → is_up x ≡ true
      → before.number ≡ x.number → before.kind ≡ x.kind → before.running ≡ Some r → next.up ≡ y.up → RepresentsRunning stands_for x.kind r next → HasWrittenFor w (node.Member x.number) next.log before.log out
      → HasEndedAs a sent out before result after → after.log ≡ before.log → IsSame before after → IfOk result (λ d. HasDone stands_for (carried w x.number next a sent) d after)
  ended_by x before after y next r w a sent (Ok written) result s up number kind is stays running h e log same =
      subst (λ (out : Result MemberStep NodeFault). IfOk out (λ d. HasDone stands_for (carried w x.number next a sent) d after)) (sym e.1)
      (ended_step x before after y next r w a sent written e.0 s up number kind is stays running h e.2 log same)
  ended_by x before after y next r w a sent (Err f) result s up number kind is stays running h e log same =
      subst (λ (out : Result MemberStep NodeFault). IfOk out (λ d. HasDone stands_for (carried w x.number next a sent) d after)) (sym e.0) tt

  -- the record of a vote that was cast, lent from what the member has in memory
  pub lent_record : (kind : Kind) (o : Option (Running E)) (r u : Running E) (y : MemberState) (t coord count : ℕ) (item : Record) → o ≡ Some r → o ≡ Some u → RepresentsRunning stands_for kind r (voted_state y t coord count)
      → ((k : Kind) (x : MemberState) → RepresentsRunning stands_for k u x → IsTrue (is_undecided x.engine t) → item ≡ prepare_record t coord count (sets_at x.engine t)) → item ≡ prepare_record t coord count (sets_of (operations_of y.engine t))
  lent_record kind o r u y t coord count item is other running lends =
      let here' = subst (λ (v : Running E). RepresentsRunning stands_for kind v (voted_state y t coord count)) (same_here is other) running in
      lends kind (voted_state y t coord count) here' (cast_undecided y t coord count) ∙ ap (prepare_record t coord count) (cast_sets y t coord count)

  -- the record of a local commit, lent before it is cast
  pub local_record : (kind : Kind) (u : Running E) (y : MemberState) (t coord count : ℕ) (item : Record) → RepresentsRunning stands_for kind u y → standing_of y t ≡ IsActive
      → ((k : Kind) (x : MemberState) → RepresentsRunning stands_for k u x → IsTrue (is_undecided x.engine t) → item ≡ prepare_record t coord count (sets_at x.engine t)) → item ≡ prepare_record t coord count (sets_of (operations_of y.engine t))
  local_record kind u y t coord count item running active lends =
      let b = y.engine in
      let held = held_active (holds b.active t) (holds b.voted t) (holds y.committed t) active in
      let unvoted = unvoted_active (look b.active t) (look b.voted t) (running.undecided.apart t) held in
      let sets = ap (λ v. sets_in v (operations_of b t)) (not_held (look b.voted t) unvoted) in
      lends kind y running (ap (λ a. a || holds b.voted t) held) ∙ ap (prepare_record t coord count) sets

  -- ---- plans

  -- a plan that was made, and was carried out, is the step of its event
  pub planned : (step : PlainStep) (m t : ℕ) (y : MemberState) (plan made : Plan) (result : Result MemberStep NodeFault) (after : Member E) → step ≡ carried_out m y t plan → made ≡ plan
      → IfOk result (λ d. HasDone stands_for (carried_out m y t made) d after) → IfOk result (λ d. HasDone stands_for step d after)
  planned step m t y plan made result after is same done =
      subst (λ (s : PlainStep). IfOk result (λ d. HasDone stands_for s d after)) (sym (is ∙ ap (λ (p : Plan). carried_out m y t p) (sym same))) done

  -- a plan that writes and changes nothing
  pub told_alone : (x : Member E) (y : MemberState) (t : ℕ) (plan : Plan) → plan.writes ≡ Nothing → plan.change ≡ Stays → RepresentsMember stands_for x y → HasDone stands_for (carried_out x.number y t plan) (told plan) x
  told_alone x y t plan quiet stays r =
      let d = told plan in
      subst (λ (w : Writes). HasDone stands_for (carried w x.number (changed y t plan.change) plan.answer plan.sent) d x) (sym quiet)
      (subst (λ (ch : Change). HasDone stands_for (carried Nothing x.number (changed y t ch) plan.answer plan.sent) d x) (sym stays) (record { answer = refl; sent = refl; marks = refl; state = r }))

  -- ---- stops and crashes

  pub armed_step : (x after : Member E) (y : MemberState) (call : ℕ) (leaves : Leaves) (marks : List Mark) → marks ≡ [] → RepresentsMember stands_for x y → is_up x ≡ true → after.number ≡ x.number → after.kind ≡ x.kind → after.running ≡ x.running
      → RepresentsLog (node.Member x.number) after.log (with_stop y.log (Some (record { call = call; leaves = leaves })))
      → HasDone stands_for (member_arm y call leaves) (record { answer = answer.Armed; sent = None; marks = marks }) after
  armed_step x after y call leaves marks nothing s up number kind same log =
      let r = running_of x.running up in
      let l = with_stop y.log (Some (record { call = call; leaves = leaves })) in
      record { answer = refl; sent = refl; marks = nothing; state = stands_on x after y (with_log y l) r.0 s up number kind (same ∙ r.1) refl (on_log x.kind r.0 y l (s.running r.0 r.1)) log }

  pub disarmed_stands : (x after : Member E) (y : MemberState) → RepresentsMember stands_for x y → after.number ≡ x.number → after.kind ≡ x.kind → after.running ≡ x.running → RepresentsLog (node.Member x.number) after.log (with_stop y.log None)
      → RepresentsMember stands_for after (with_log y (with_stop y.log None))
  disarmed_stands x after y s number kind same log =
      let l = with_stop y.log None in
      record {
        log = subst (λ (m : ℕ). RepresentsLog (node.Member m) after.log l) (sym number) log;
        up = s.up ∙ sym (ap is_some same);
        running = λ r is. subst (λ (k : Kind). RepresentsRunning stands_for k r (with_log y l)) (sym kind) (on_log x.kind r y l (s.running r (sym same ∙ is)));
        down = λ none. ap (λ (z : MemberState). with_log z (with_stop z.log None)) (s.down (sym same ∙ none)) ∙ ap (λ (k : Kind). member_down_with k l) (sym kind);
      }

  pub crashed_step : (x after : Member E) (y : MemberState) (marks : List Mark) → marks ≡ [] → RepresentsMember stands_for x y → after.number ≡ x.number → after.kind ≡ x.kind → after.running ≡ None
      → RepresentsLog (node.Member x.number) after.log (crashed_log y.log) → HasDone stands_for (member_crash y) (record { answer = answer.Crashed; sent = None; marks = marks }) after
  crashed_step x after y marks nothing s number kind none log =
      record { answer = refl; sent = refl; marks = nothing; state = stands_down x after y.engine.kind y.log number (kind ∙ sym (kind_is x y s)) none log }

  -- a member that goes up
  pub first_stands : (m : Member E) (r : Running E) (x : MemberState) → m.running ≡ Some r → x.up ≡ true → RepresentsLog (node.Member m.number) m.log x.log → RepresentsRunning stands_for m.kind r x → RepresentsMember stands_for m x
  first_stands m r x is up log running =
      record {
        log = log;
        up = up ∙ sym (ap is_some is);
        running = λ u other. subst (λ (v : Running E). RepresentsRunning stands_for m.kind v x) (same_here is other) running;
        down = λ none. absurd (none_here is none);
      }

  -- a member that was down goes up with what its records tell
  pub restarted_step : (m after : Member E) (x : MemberState) (r : Running E) (marks : List Mark) → marks ≡ [] → RepresentsMember stands_for m x → m.running ≡ None → after.number ≡ m.number → after.kind ≡ m.kind → after.running ≡ Some r
      → RepresentsLog (node.Member m.number) after.log x.log → ((l : LogState) → RepresentsRunning stands_for m.kind r (member_with m.kind l (recovered_view x.log.stable)))
      → HasDone stands_for (member_restart x) (record { answer = answer.Up; sent = None; marks = marks }) after
  restarted_step m after x r marks nothing s down number kind is log told =
      let d : MemberStep = record { answer = answer.Up; sent = None; marks = marks } in
      let runs = subst (λ (z : MemberState). RepresentsRunning stands_for m.kind r (went_up z)) (sym (s.down down)) (told (crashed_log x.log)) in
      let here = subst (λ (k : Kind). RepresentsRunning stands_for k r (went_up x)) (sym kind) runs in
      let owned = subst (λ (n : ℕ). RepresentsLog (node.Member n) after.log x.log) (sym number) log in
      subst (λ (b : Bool). HasDone stands_for (restart_by x b) d after) (sym (s.up ∙ ap is_some down))
      (record { answer = refl; sent = refl; marks = nothing; state = first_stands after r (went_up x) is refl owned here })
