-- What the two steps of a checkpoint leave of the plain member, and of the directory.
use Rattle.std.proofs.Common.{◌≡◌, ℕ, Bool, true, false, List, [], reverse, refl, sym, ap, subst, ◌∙◌}
use Rattle.std.specs.Prelude.{None, if◌then◌else◌, Result, Ok, Err, IfOk}
use Rattle.co_base.specs.declared.mark.Mark.{Mark}
use Rattle.co_base.specs.declared.node.Node.TheVariants as node
use Rattle.co_log.specs.LogView.{LogView}
use Rattle.co_log.specs.Spare.{IsOverfull}
use Rattle.co_log.specs.declared.fault.NodeFault.{NodeFault}
use Rattle.co_message.specs.declared.answer.Answer.TheVariants as answer
use Rattle.co_outside.specs.Home.{HomeView}
use Rattle.co_node.specs.Answers.{IsAnswered}
use Rattle.co_node.specs.NodeLog.{RepresentsLog}
use Rattle.co_node.specs.Writes.{closing, filled_with, filling, HasWritten}
use Rattle.co_node.specs.declared.written.Written.{Written}
use Rattle.co_node.specs.declared.written.Written.TheVariants.{Done, Stopped}
use Rattle.co_plain.specs.LogWrite.{checkpoint_marks, crashed_log, generation_of, with_filled_spare, with_spare}
use Rattle.co_plain.specs.MemberLog.{checkpoint_by, close_by, fill_by, member_checkpoint, member_spare, stopped_fill}
use Rattle.co_plain.specs.MemberStep.{with_log}
use Rattle.co_plain.specs.Numbers.{next_generation}
use Rattle.co_plain.specs.declared.member_state.MemberState.{MemberState}
use Rattle.co_plain.specs.declared.outcome.Outcome.{Outcome}
use Rattle.co_frame.specs.Gate.{batch_is_stable, closes_spare}
use Rattle.co_record.specs.declared.record.Record.{Record}
use Rattle.co_state.specs.declared.engine_state.EngineState.{EngineState}
use Rattle.co_member.specs.Checkpoint.{spare_items, IsAnsweredIn}
use Rattle.co_member.specs.Standing.{is_up, RepresentsMember, HasDone, HasEndedAs, IsSame}
use Rattle.co_member.specs.declared.member.Member.{Member}
use Rattle.co_member.specs.declared.step.MemberStep.{MemberStep}
use Rattle.co_member.proofs.Carrying.{kind_is, on_log, running_of, stands_down, stands_on}
use Rattle.co_member.proofs.Filling.{spare_is}

-- the generation of a filled spare
abbrev next_of : MemberState → ℕ
next_of y = next_generation (generation_of y.log.stable)

-- how a filling with what the plain member has leaves the directory
pub filled_answered : (m : ℕ) (y : MemberState) (log after : LogView) (old new : HomeView) (result : Result Written NodeFault) (items : List Record) → items ≡ spare_items y
    → IsAnswered (node.Member m) log.spare.spot (IsOverfull log items) y.log.stable (filled_with (node.Member m) y.log (reverse items)) after old new result → IsAnsweredIn true m y log after old new result
filled_answered m y log after old new result items same h =
    subst (λ (rs : List Record). IsAnswered (node.Member m) log.spare.spot (IsOverfull log (spare_items y)) y.log.stable rs after old new result) (spare_is m y (next_of y))
    (subst (λ (rs : List Record). IsAnswered (node.Member m) log.spare.spot (IsOverfull log rs) y.log.stable (filled_with (node.Member m) y.log (reverse rs)) after old new result) same h)

module _ {E : Type 0} (stands_for : E → EngineState → Type 0) where
  -- two plain members for which one member stands have the same spare
  pub spare_alike : (x : Member E) (y z : MemberState) (b : Bool) → RepresentsMember stands_for x y → RepresentsMember stands_for x z → y.log.spare_closed ≡ b → z.log.spare_closed ≡ b
  spare_alike x y z b r s is = s.log.spare ∙ sym r.log.spare ∙ is

  -- ---- the spare is closed

  closed_done : (x after : Member E) (y : MemberState) (marks : List Mark) → RepresentsMember stands_for x y → is_up x ≡ true → after.number ≡ x.number → after.kind ≡ x.kind → after.running ≡ x.running → y.log.spare_closed ≡ false
      → HasWritten (closing y.log) (node.Member x.number) y.log after.log (Ok (Done marks)) → HasDone stands_for (member_checkpoint x.number y) (record { answer = answer.Closed; sent = None; marks = marks }) after
  closed_done x after y marks s up number kind same open_yet h =
      let d : MemberStep = record { answer = answer.Closed; sent = None; marks = marks } in
      let r = running_of stands_for x.running up in
      let l = with_spare y.log true in
      subst (λ (b : Bool). HasDone stands_for (checkpoint_by x.number y b) d after) (sym open_yet)
      (subst (λ (o : Outcome). HasDone stands_for (close_by y o) d after) (sym h.0)
      (record { answer = refl; sent = refl; marks = h.1; state = stands_on stands_for x after y (with_log y l) r.0 s up number kind (same ∙ r.1) refl (on_log stands_for x.kind r.0 y l (s.running r.0 r.1)) h.2 }))

  closed_stopped : (x after : Member E) (y : MemberState) (call : ℕ) (marks : List Mark) → RepresentsMember stands_for x y → after.number ≡ x.number → after.kind ≡ x.kind → after.running ≡ None → y.log.spare_closed ≡ false
      → HasWritten (closing y.log) (node.Member x.number) y.log after.log (Ok (Stopped call marks)) → HasDone stands_for (member_checkpoint x.number y) (record { answer = answer.Stopped call; sent = None; marks = marks }) after
  closed_stopped x after y call marks s number kind none open_yet h =
      let d : MemberStep = record { answer = answer.Stopped call; sent = None; marks = marks } in
      let l = with_spare y.log (closes_spare h.0) in
      subst (λ (b : Bool). HasDone stands_for (checkpoint_by x.number y b) d after) (sym open_yet)
      (subst (λ (o : Outcome). HasDone stands_for (close_by y o) d after) (sym h.1)
      (record { answer = refl; sent = refl; marks = h.2; state = stands_down stands_for x after y.engine.kind l number (kind ∙ sym (kind_is stands_for x y s)) none h.3 }))

  pub closed_by : (x before after : Member E) (y : MemberState) (out : Result Written NodeFault) (result : Result MemberStep NodeFault) → RepresentsMember stands_for x y → is_up x ≡ true → before.number ≡ x.number → before.kind ≡ x.kind
      → before.running ≡ x.running → y.log.spare_closed ≡ false → HasWritten (closing y.log) (node.Member x.number) y.log before.log out → HasEndedAs answer.Closed None out before result after → after.log ≡ before.log → IsSame before after
      → IfOk result (λ d. HasDone stands_for (member_checkpoint x.number y) d after)
  closed_by x before after y (Ok (Done marks)) result s up number kind same open_yet h e log alike =
      let d : MemberStep = record { answer = answer.Closed; sent = None; marks = marks } in
      let done = closed_done x before y marks s up number kind same open_yet h in
      let here = subst (λ (m : Member E). HasDone stands_for (member_checkpoint x.number y) d m) (sym e.2.1) done in
      let told = subst (λ (k : MemberStep). HasDone stands_for (member_checkpoint x.number y) k after) (sym e.2.0) here in
      subst (λ (o : Result MemberStep NodeFault). IfOk o (λ k. HasDone stands_for (member_checkpoint x.number y) k after)) (sym e.1) told
  closed_by x before after y (Ok (Stopped call marks)) result s up number kind same open_yet h e log alike =
      let left = subst (λ (v : LogView). HasWritten (closing y.log) (node.Member x.number) y.log v (Ok (Stopped call marks))) (sym log) h in
      let done = closed_stopped x after y call marks s (alike.number ∙ number) (alike.kind ∙ kind) e.2.1 open_yet left in
      let told = subst (λ (k : MemberStep). HasDone stands_for (member_checkpoint x.number y) k after) (sym e.2.0) done in
      subst (λ (o : Result MemberStep NodeFault). IfOk o (λ k. HasDone stands_for (member_checkpoint x.number y) k after)) (sym e.1) told
  closed_by x before after y (Err f) result s up number kind same open_yet h e log alike =
      subst (λ (o : Result MemberStep NodeFault). IfOk o (λ k. HasDone stands_for (member_checkpoint x.number y) k after)) (sym e.0) tt

  -- ---- the spare is filled

  pub filled_done : (x after : Member E) (y : MemberState) (items : List Record) (generation : ℕ) (marks : List Mark) → RepresentsMember stands_for x y → is_up x ≡ true → after.number ≡ x.number → after.kind ≡ x.kind → after.running ≡ x.running
      → y.log.spare_closed ≡ true → items ≡ spare_items y → generation ≡ next_of y → HasWritten (filling (node.Member x.number) y.log (reverse items)) (node.Member x.number) y.log after.log (Ok (Done marks))
      → HasDone stands_for (member_checkpoint x.number y) (record { answer = answer.Filled generation; sent = None; marks = marks }) after
  filled_done x after y items generation marks s up number kind same closed are is h =
      let d : MemberStep = record { answer = answer.Filled generation; sent = None; marks = marks } in
      let r = running_of stands_for x.running up in
      let told : filled_with (node.Member x.number) y.log (reverse items) ≡ member_spare x.number y (next_of y) = ap (λ (rs : List Record). filled_with (node.Member x.number) y.log (reverse rs)) are ∙ spare_is x.number y (next_of y) in
      let l = with_filled_spare y.log (member_spare x.number y (next_of y)) in
      let log = subst (λ (rs : List Record). RepresentsLog (node.Member x.number) after.log (with_filled_spare y.log rs)) told h.2 in
      subst (λ (b : Bool). HasDone stands_for (checkpoint_by x.number y b) d after) (sym closed)
      (subst (λ (o : Outcome). HasDone stands_for (fill_by x.number y (next_of y) o) d after) (sym h.0)
      (record { answer = ap answer.Filled is; sent = refl; marks = h.1; state = stands_on stands_for x after y (with_log y l) r.0 s up number kind (same ∙ r.1) refl (on_log stands_for x.kind r.0 y l (s.running r.0 r.1)) log }))

  fill_stopped_by : (x after : Member E) (y : MemberState) (call : ℕ) (marks : List Mark) (counts : Bool) → RepresentsMember stands_for x y → after.number ≡ x.number → after.kind ≡ x.kind → after.running ≡ None
      → marks ≡ (if counts then checkpoint_marks (node.Member x.number) (next_of y) else [])
      → RepresentsLog (node.Member x.number) after.log (crashed_log (if counts then with_filled_spare y.log (member_spare x.number y (next_of y)) else y.log))
      → HasDone stands_for (stopped_fill x.number y (next_of y) call counts) (record { answer = answer.Stopped call; sent = None; marks = marks }) after
  fill_stopped_by x after y call marks true s number kind none told log =
      record { answer = refl; sent = refl; marks = told; state = stands_down stands_for x after y.engine.kind (with_filled_spare y.log (member_spare x.number y (next_of y))) number (kind ∙ sym (kind_is stands_for x y s)) none log }
  fill_stopped_by x after y call marks false s number kind none told log =
      record { answer = refl; sent = refl; marks = told; state = stands_down stands_for x after y.engine.kind y.log number (kind ∙ sym (kind_is stands_for x y s)) none log }

  pub filled_stopped : (x after : Member E) (y : MemberState) (items : List Record) (call : ℕ) (marks : List Mark) → RepresentsMember stands_for x y → after.number ≡ x.number → after.kind ≡ x.kind → after.running ≡ None → y.log.spare_closed ≡ true
      → items ≡ spare_items y → HasWritten (filling (node.Member x.number) y.log (reverse items)) (node.Member x.number) y.log after.log (Ok (Stopped call marks))
      → HasDone stands_for (member_checkpoint x.number y) (record { answer = answer.Stopped call; sent = None; marks = marks }) after
  filled_stopped x after y items call marks s number kind none closed are h =
      let d : MemberStep = record { answer = answer.Stopped call; sent = None; marks = marks } in
      let told : filled_with (node.Member x.number) y.log (reverse items) ≡ member_spare x.number y (next_of y) = ap (λ (rs : List Record). filled_with (node.Member x.number) y.log (reverse rs)) are ∙ spare_is x.number y (next_of y) in
      let log = subst (λ (rs : List Record). RepresentsLog (node.Member x.number) after.log (crashed_log (if batch_is_stable call h.0 then with_filled_spare y.log rs else y.log))) told h.3 in
      subst (λ (b : Bool). HasDone stands_for (checkpoint_by x.number y b) d after) (sym closed)
      (subst (λ (o : Outcome). HasDone stands_for (fill_by x.number y (next_of y) o) d after) (sym h.1) (fill_stopped_by x after y call marks (batch_is_stable call h.0) s number kind none h.2 log))
