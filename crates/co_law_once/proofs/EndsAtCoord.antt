-- What each event of a coordinator does with ends.
use Rattle.std.proofs.Common.{◌≡◌, ◌≢◌, ◌⊎◌, inl, inr, ℕ, Bool, true, false, not, ◌&&◌, ◌==◌, if◌then◌else◌, List, [], ◌∷◌, ◌++◌, Option, None, Some, refl, sym, ap, ◌∙◌, subst}
use Rattle.std.specs.List.{list_any}
use Rattle.std.proofs.lemmas.Bool.{eqb-true, false_from_ne_true, or_cases}
use Rattle.co_base.specs.declared.leaves.Leaves.{Leaves}
use Rattle.co_base.specs.declared.node.Node.TheVariants as node
use Rattle.co_base.specs.declared.part.Part.{Part}
use Rattle.co_message.specs.declared.answer.Answer.{Answer}
use Rattle.co_message.specs.declared.answer.Answer.TheVariants as answer
use Rattle.co_message.specs.declared.answer.Cause.TheVariants as cause
use Rattle.co_message.specs.declared.message.Message.{Message}
use Rattle.co_message.specs.declared.message.Message.TheVariants as message
use Rattle.co_record.specs.declared.record.Record.TheVariants as log
use Rattle.co_frame.specs.Gate.{batch_is_stable}
use Rattle.co_state.specs.Table.{look, put, without}
use Rattle.co_plain.specs.declared.coord_state.CoordState.{CoordState}
use Rattle.co_plain.specs.declared.coord_state.Entry.{Entry}
use Rattle.co_plain.specs.declared.coord_state.Entry.TheVariants as entry
use Rattle.co_plain.specs.declared.coord_step.CoordStep.{CoordStep}
use Rattle.co_plain.specs.declared.outcome.Outcome.{Outcome}
use Rattle.co_plain.specs.declared.outcome.Outcome.TheVariants.{Completes, StopsAt}
use Rattle.co_plain.specs.Numbers.{first_lacking, has_number, next_generation}
use Rattle.co_plain.specs.LogWrite.{outcome_of, generation_of, marks_of, checkpoint_marks}
use Rattle.co_plain.specs.CoordStep.{coord_says, with_table, has_part, members_of, stopped_coord, coord_forced_by}
use Rattle.co_plain.specs.CoordView.{recovered_commits, has_commit_of}
use Rattle.co_plain.specs.Coordinator.{waits, coord_begin, ask_commit, commit_entry, coord_commit, aborts, abort_entry, coord_abort, decided_by, yes_entry, no_entry, ask_entry, ended_by, ack_entry, timer_entry, coord_timer, resend_entry, coord_resend, coord_deliver, decisions_to}
use Rattle.co_plain.specs.CoordLog.{coord_spare, coord_stopped_fill, coord_fill_by, coord_close_by, coord_checkpoint_by, coord_checkpoint, coord_crash, coord_restart_by, coord_restart, coord_arm}
use Rattle.co_plain.specs.SoundLogs.{has_unended}
use Rattle.co_law_base.proofs.Lookups.{holds_found, found_holds}
use Rattle.co_law_base.proofs.Commits.{unended_seen}
use Rattle.co_law_base.proofs.CoordMoves.{filled_back}
use Rattle.co_law_base.proofs.Facts.{Rest, OpenEntry, CommittedEntry, CoordHas}
use Rattle.co_law_once.specs.Once.{AtMostOnce}
use Rattle.co_law_once.proofs.Waiting.{ends_it, marks_end, Waits, waits_none, ended_over, unended_under, other_commit, any_marks, once_marks}

clash : {A : Type 0} → false ≡ true → A
clash h = absurd (let z : false ≡ true = h in cc)

-- What an event leaves of ends: those that wait are of commits without end; no commit of a past transaction is without end again;
-- and whose end is told had a commit without end, and has none any more.
pub record CoordEnds (Past : ℕ → Type 0) (y : CoordState) (did : CoordStep) : Type 0 where
  pub waits : (t : ℕ) → Waits t did.state.log.waiting did.state.log.stable
  pub back : (t : ℕ) → Past t → has_unended did.state.log.stable t ≡ true → has_unended y.log.stable t ≡ true
  pub ends : (t : ℕ) → list_any (marks_end t) did.marks ≡ true → (has_unended y.log.stable t ≡ true) × (has_unended did.state.log.stable t ≡ false)
  pub once : (t : ℕ) → AtMostOnce (marks_end t) did.marks

module _ (r : Rest) (c : ℕ) (y : CoordState) (f : CoordHas r c y) (w : (t : ℕ) → Waits t y.log.waiting y.log.stable) (Past : ℕ → Type 0)
    (past : (t : ℕ) → OpenEntry r c y.log.stable t → Past t → ⊥) where
  abbrev Did : CoordStep → Type 0
  Did = CoordEnds Past y

  -- nothing becomes stable: what waits stays, or is lost
  silent : (did : CoordStep) → did.marks ≡ [] → did.state.log.stable ≡ y.log.stable → ((t : ℕ) → Waits t did.state.log.waiting did.state.log.stable) → Did did
  silent did none same still =
      record {
        waits = still;
        back = λ t p h. ap (λ rs. has_unended rs t) (sym same) ∙ h;
        ends = λ t h. clash (sym (ap (list_any (marks_end t)) none) ∙ h);
        once = λ t. subst (AtMostOnce (marks_end t)) (sym none) tt;
      }

  stays : (did : CoordStep) → did.marks ≡ [] → did.state.log.stable ≡ y.log.stable → did.state.log.waiting ≡ y.log.waiting → Did did
  stays did none same kept =
      silent did none same (λ t. subst (λ rs. Waits t rs did.state.log.stable) (sym kept) (subst (Waits t y.log.waiting) (sym same) (w t)))

  loses : (did : CoordStep) → did.marks ≡ [] → did.state.log.stable ≡ y.log.stable → did.state.log.waiting ≡ [] → Did did
  loses did none same lost = silent did none same (λ t. subst (λ rs. Waits t rs did.state.log.stable) (sym lost) (waits_none t did.state.log.stable))

  -- a commit becomes stable, and with it what waits
  forced : (did : CoordStep) (u : ℕ) (members : List ℕ) → OpenEntry r c y.log.stable u → did.marks ≡ marks_of (node.Coord c) (log.Commit u members ∷ y.log.waiting) →
      did.state.log.stable ≡ log.Commit u members ∷ (y.log.waiting ++ y.log.stable) → did.state.log.waiting ≡ [] → Did did
  forced did u members still told batch none =
      record {
        waits = λ t. subst (λ rs. Waits t rs did.state.log.stable) (sym none) (waits_none t did.state.log.stable);
        back = λ t p h. unended_under y.log.waiting y.log.stable t f.ends
            (sym (other_commit (y.log.waiting ++ y.log.stable) u members t (λ e. past u still (subst Past (sym e) p))) ∙ ap (λ rs. has_unended rs t) (sym batch) ∙ h);
        ends = λ t h. gone t (sym (any_marks (node.Coord c) t (log.Commit u members ∷ y.log.waiting)) ∙ ap (list_any (marks_end t)) (sym told) ∙ h);
        once = λ t. subst (AtMostOnce (marks_end t)) (sym told) (once_marks (node.Coord c) t (log.Commit u members ∷ y.log.waiting) ((λ h. clash h), (w t).once));
      }
    where
      apart : (t : ℕ) → has_unended y.log.stable t ≡ true → u ≢ t
      apart t h e =
          let p = holds_found (recovered_commits y.log.stable).unended t h in
          let z : true ≡ false = sym (unended_seen y.log.stable t p.0 p.1) ∙ ap (has_commit_of y.log.stable) (sym e) ∙ still.unrecorded in cc

      gone : (t : ℕ) → list_any (ends_it t) y.log.waiting ≡ true → (has_unended y.log.stable t ≡ true) × (has_unended did.state.log.stable t ≡ false)
      gone t h =
          let had = (w t).unended h in (
            had,
            ap (λ rs. has_unended rs t) batch ∙ other_commit (y.log.waiting ++ y.log.stable) u members t (apart t had) ∙ ended_over y.log.waiting y.log.stable t f.ends h,
          )

  forces : (next : CoordState) → next.log ≡ y.log → (u : ℕ) (members : List ℕ) → OpenEntry r c y.log.stable u → (a : Answer) (notes : List Message) (o : Outcome) →
      Did (coord_forced_by c next (log.Commit u members ∷ []) a notes o)
  forces next same u members still a notes Completes =
      forced (coord_forced_by c next (log.Commit u members ∷ []) a notes Completes) u members still (ap (λ l. marks_of (node.Coord c) (log.Commit u members ∷ l.waiting)) same)
      (ap (λ l. log.Commit u members ∷ (l.waiting ++ l.stable)) same) refl
  forces next same u members still a notes (StopsAt call leaves) = by (batch_is_stable call leaves)
    where
      by : (b : Bool) → Did (stopped_coord c next call b (log.Commit u members ∷ []))
      by true =
          forced (stopped_coord c next call true (log.Commit u members ∷ [])) u members still (ap (λ l. marks_of (node.Coord c) (log.Commit u members ∷ l.waiting)) same)
          (ap (λ l. log.Commit u members ∷ (l.waiting ++ l.stable)) same) refl
      by false = loses (stopped_coord c next call false (log.Commit u members ∷ [])) refl (ap (λ l. l.stable) same) refl

  same : (did : CoordStep) → did.marks ≡ [] → did.state.log ≡ y.log → Did did
  same did none kept = stays did none (ap (λ l. l.stable) kept) (ap (λ l. l.waiting) kept)

  pub begin_ends : (t : ℕ) → Did (coord_begin y t)
  begin_ends t = same (coord_begin y t) refl refl

  asks : (t : ℕ) → OpenEntry r c y.log.stable t → (parts : List Part) → Did (ask_commit c y t parts)
  asks t still [] = forces (with_table y (without y.table t)) refl t [] still answer.Committed [] (outcome_of y.log.armed 4)
  asks t still (p ∷ ps) = same (ask_commit c y t (p ∷ ps)) refl refl

  pub commit_ends : (t : ℕ) (parts : List Part) → Did (coord_commit c y t parts)
  commit_ends t parts = by (look y.table t) refl
    where
      by : (o : Option Entry) → look y.table t ≡ o → Did (commit_entry c y t parts o)
      by None e = same (commit_entry c y t parts None) refl refl
      by (Some entry.Idle) e = asks t (f.idle t e) parts
      by (Some (entry.Collecting ps yeses)) e = same (commit_entry c y t parts (Some (entry.Collecting ps yeses))) refl refl
      by (Some (entry.Committed ms acks)) e = same (commit_entry c y t parts (Some (entry.Committed ms acks))) refl refl

  pub abort_ends : (t : ℕ) (parts : List Part) → Did (coord_abort c y t parts)
  abort_ends t parts = by (look y.table t)
    where
      by : (o : Option Entry) → Did (abort_entry c y t parts o)
      by None = same (abort_entry c y t parts None) refl refl
      by (Some entry.Idle) = same (abort_entry c y t parts (Some entry.Idle)) refl refl
      by (Some (entry.Collecting ps yeses)) = same (abort_entry c y t parts (Some (entry.Collecting ps yeses))) refl refl
      by (Some (entry.Committed ms acks)) = same (abort_entry c y t parts (Some (entry.Committed ms acks))) refl refl

  yes_ends : (t m : ℕ) (o : Option Entry) → look y.table t ≡ o → Did (yes_entry c y t m o)
  yes_ends t m None e = same (yes_entry c y t m None) refl refl
  yes_ends t m (Some entry.Idle) e = same (yes_entry c y t m (Some entry.Idle)) refl refl
  yes_ends t m (Some (entry.Committed ms acks)) e = same (yes_entry c y t m (Some (entry.Committed ms acks))) refl refl
  yes_ends t m (Some (entry.Collecting parts yeses)) e = by (has_part parts m && not (has_number yeses m))
    where
      decides : (o : Option ℕ) → Did (decided_by c y t parts (m ∷ yeses) o)
      decides (Some k) = same (decided_by c y t parts (m ∷ yeses) (Some k)) refl refl
      decides None =
          forces (with_table y (put y.table t (entry.Committed (members_of parts) []))) refl t (members_of parts) (f.collecting t parts yeses e).still answer.Committed
          (decisions_to c t true (members_of parts)) (outcome_of y.log.armed 4)

      by : (b : Bool) → Did (if b then decided_by c y t parts (m ∷ yeses) (first_lacking (members_of parts) (m ∷ yeses)) else waits y parts yeses)
      by true = decides (first_lacking (members_of parts) (m ∷ yeses))
      by false = same (waits y parts yeses) refl refl

  no_ends : (t m : ℕ) (o : Option Entry) → Did (no_entry c y t m o)
  no_ends t m None = same (no_entry c y t m None) refl refl
  no_ends t m (Some entry.Idle) = same (no_entry c y t m (Some entry.Idle)) refl refl
  no_ends t m (Some (entry.Committed ms acks)) = same (no_entry c y t m (Some (entry.Committed ms acks))) refl refl
  no_ends t m (Some (entry.Collecting parts yeses)) = by (has_part parts m)
    where
      by : (b : Bool) → Did (if b then aborts c y t cause.Vote parts else waits y parts yeses)
      by true = same (aborts c y t cause.Vote parts) refl refl
      by false = same (waits y parts yeses) refl refl

  asked_ends : (t m : ℕ) (o : Option Entry) → Did (ask_entry c y t m o)
  asked_ends t m None = same (ask_entry c y t m None) refl refl
  asked_ends t m (Some entry.Idle) = same (ask_entry c y t m (Some entry.Idle)) refl refl
  asked_ends t m (Some (entry.Collecting parts yeses)) = same (ask_entry c y t m (Some (entry.Collecting parts yeses))) refl refl
  asked_ends t m (Some (entry.Committed ms acks)) = same (ask_entry c y t m (Some (entry.Committed ms acks))) refl refl

  -- the last acknowledgement: the end waits, of a commit that has none yet
  ack_ends : (t m : ℕ) (o : Option Entry) → look y.table t ≡ o → Did (ack_entry y t m o)
  ack_ends t m None e = same (ack_entry y t m None) refl refl
  ack_ends t m (Some entry.Idle) e = same (ack_entry y t m (Some entry.Idle)) refl refl
  ack_ends t m (Some (entry.Collecting parts yeses)) e = same (ack_entry y t m (Some (entry.Collecting parts yeses))) refl refl
  ack_ends t m (Some (entry.Committed ms acks)) e = by (has_number ms m && not (has_number acks m))
    where
      old : CommittedEntry r c y.log.stable y.log.waiting t ms acks
      old = f.committed t ms acks e

      none_waits : list_any (ends_it t) y.log.waiting ≡ false
      none_waits =
          false_from_ne_true _ (λ h.
          let z : true ≡ false = sym (found_holds (recovered_commits (y.log.waiting ++ y.log.stable)).unended t ms old.logged) ∙ ended_over y.log.waiting y.log.stable t f.ends h in cc)

      one_more : (v : ℕ) → Waits v (log.End t ∷ y.log.waiting) y.log.stable
      one_more v =
          record {
            once = ((λ h. subst (λ k. list_any (ends_it k) y.log.waiting ≡ false) (eqb-true t v h) none_waits), (w v).once);
            unended = λ h. now (or_cases (t == v) (list_any (ends_it v) y.log.waiting) h);
          }
        where
          now : ((t == v) ≡ true) ⊎ (list_any (ends_it v) y.log.waiting ≡ true) → has_unended y.log.stable v ≡ true
          now (inl h) = subst (λ k. has_unended y.log.stable k ≡ true) (eqb-true t v h) (found_holds (recovered_commits y.log.stable).unended t ms old.recorded)
          now (inr h) = (w v).unended h

      ended : (o : Option ℕ) → Did (ended_by y t ms (m ∷ acks) o)
      ended (Some k) = same (ended_by y t ms (m ∷ acks) (Some k)) refl refl
      ended None = silent (ended_by y t ms (m ∷ acks) None) refl refl one_more

      by : (b : Bool) → Did (if b then ended_by y t ms (m ∷ acks) (first_lacking ms (m ∷ acks)) else coord_says y answer.Decided)
      by true = ended (first_lacking ms (m ∷ acks))
      by false = same (coord_says y answer.Decided) refl refl

  pub timer_ends : (t : ℕ) → Did (coord_timer c y t)
  timer_ends t = by (look y.table t)
    where
      by : (o : Option Entry) → Did (timer_entry c y t o)
      by None = same (timer_entry c y t None) refl refl
      by (Some entry.Idle) = same (timer_entry c y t (Some entry.Idle)) refl refl
      by (Some (entry.Collecting ps yeses)) = same (timer_entry c y t (Some (entry.Collecting ps yeses))) refl refl
      by (Some (entry.Committed ms acks)) = same (timer_entry c y t (Some (entry.Committed ms acks))) refl refl

  pub resend_ends : (t : ℕ) → Did (coord_resend c y t)
  resend_ends t = by (look y.table t)
    where
      by : (o : Option Entry) → Did (resend_entry c y t o)
      by None = same (resend_entry c y t None) refl refl
      by (Some entry.Idle) = same (resend_entry c y t (Some entry.Idle)) refl refl
      by (Some (entry.Collecting ps yeses)) = same (resend_entry c y t (Some (entry.Collecting ps yeses))) refl refl
      by (Some (entry.Committed ms acks)) = same (resend_entry c y t (Some (entry.Committed ms acks))) refl refl

  pub deliver_ends : (note : Message) → Did (coord_deliver c y note)
  deliver_ends (message.Vote t m d true) = yes_ends t m (look y.table t) refl
  deliver_ends (message.Vote t m d false) = no_ends t m (look y.table t)
  deliver_ends (message.Ask t m d) = asked_ends t m (look y.table t)
  deliver_ends (message.Ack t m d) = ack_ends t m (look y.table t) refl
  deliver_ends (message.Prepare t d m n) = same (coord_deliver c y (message.Prepare t d m n)) refl refl
  deliver_ends (message.Decide t d m commit) = same (coord_deliver c y (message.Decide t d m commit)) refl refl

  -- a filled spare: it has the commits of the table, and no end
  filled : (did : CoordStep) → did.marks ≡ checkpoint_marks (node.Coord c) (next_generation (generation_of y.log.stable)) →
      did.state.log.stable ≡ coord_spare c y (next_generation (generation_of y.log.stable)) → did.state.log.waiting ≡ [] → Did did
  filled did told spare lost =
      record {
        waits = λ t. subst (λ rs. Waits t rs did.state.log.stable) (sym lost) (waits_none t did.state.log.stable);
        back = λ t p h. had t (ap (λ rs. has_unended rs t) (sym spare) ∙ h);
        ends = λ t h. clash (sym (ap (list_any (marks_end t)) told) ∙ h);
        once = λ t. subst (AtMostOnce (marks_end t)) (sym told) ((λ h. refl), tt);
      }
    where
      had : (t : ℕ) → has_unended (coord_spare c y (next_generation (generation_of y.log.stable))) t ≡ true → has_unended y.log.stable t ≡ true
      had t h =
          let p = holds_found (recovered_commits (coord_spare c y (next_generation (generation_of y.log.stable)))).unended t h in
          found_holds (recovered_commits y.log.stable).unended t p.0 (filled_back r c y f t p.0 p.1)

  fills : (o : Outcome) → Did (coord_fill_by c y (next_generation (generation_of y.log.stable)) o)
  fills Completes = filled (coord_fill_by c y (next_generation (generation_of y.log.stable)) Completes) refl refl refl
  fills (StopsAt call leaves) = by (batch_is_stable call leaves)
    where
      by : (b : Bool) → Did (coord_stopped_fill c y (next_generation (generation_of y.log.stable)) call b)
      by true = filled (coord_stopped_fill c y (next_generation (generation_of y.log.stable)) call true) refl refl refl
      by false = loses (coord_stopped_fill c y (next_generation (generation_of y.log.stable)) call false) refl refl refl

  closes : (o : Outcome) → Did (coord_close_by y o)
  closes Completes = stays (coord_close_by y Completes) refl refl refl
  closes (StopsAt call leaves) = loses (coord_close_by y (StopsAt call leaves)) refl refl refl

  pub checkpoint_ends : Did (coord_checkpoint c y)
  checkpoint_ends = by y.log.spare_closed
    where
      by : (closed : Bool) → Did (coord_checkpoint_by c y closed)
      by false = closes (outcome_of y.log.armed 2)
      by true = fills (outcome_of y.log.armed 4)

  pub crash_ends : Did (coord_crash y)
  crash_ends = loses (coord_crash y) refl refl refl

  pub restart_ends : Did (coord_restart y)
  restart_ends = by y.up
    where
      by : (up : Bool) → Did (coord_restart_by y up)
      by true = same (coord_restart_by y true) refl refl
      by false = same (coord_restart_by y false) refl refl

  pub arm_ends : (call : ℕ) (leaves : Leaves) → Did (coord_arm y call leaves)
  arm_ends call leaves = stays (coord_arm y call leaves) refl refl refl
