-- A coordinator decides exactly in the rows of its table, where its write leaves the commit record stable.
use Rattle.std.proofs.Common.{◌≡◌, ℕ, Bool, true, false, not, ◌&&◌, ◌==◌, if◌then◌else◌, List, [], ◌∷◌, ◌++◌, map, reverse, Option, None, Some, refl, sym, ap, ◌∙◌, subst}
use Rattle.std.proofs.lemmas.Bool.{or_left, or_right, and_from, and_parts, eq-eqb}
use Rattle.std.proofs.lemmas.List.{reverse-append}
use Rattle.co_base.specs.declared.node.Node.{Node}
use Rattle.co_base.specs.declared.node.Node.TheVariants as node
use Rattle.co_base.specs.declared.part.Part.{Part}
use Rattle.co_message.specs.declared.answer.Answer.{Answer}
use Rattle.co_message.specs.declared.answer.Answer.TheVariants as answer
use Rattle.co_message.specs.declared.message.Message.{Message}
use Rattle.co_record.specs.declared.record.Record.{Record}
use Rattle.co_record.specs.declared.record.Record.TheVariants as log
use Rattle.co_frame.specs.Gate.{batch_is_stable}
use Rattle.co_record.specs.Marks.{mark_of}
use Rattle.co_state.specs.Table.{look, put, without}
use Rattle.co_plain.specs.declared.coord_state.CoordState.{CoordState}
use Rattle.co_plain.specs.declared.coord_state.Entry.{Entry}
use Rattle.co_plain.specs.declared.coord_state.Entry.TheVariants as entry
use Rattle.co_plain.specs.declared.coord_step.CoordStep.{CoordStep}
use Rattle.co_plain.specs.declared.outcome.Outcome.{Outcome}
use Rattle.co_plain.specs.declared.outcome.Outcome.TheVariants.{Completes, StopsAt}
use Rattle.co_plain.specs.Numbers.{first_lacking, has_number}
use Rattle.co_plain.specs.LogWrite.{outcome_of, marks_of}
use Rattle.co_plain.specs.CoordStep.{with_table, has_part, members_of, stopped_coord, coord_forced_by, force_coord}
use Rattle.co_plain.specs.Coordinator.{commit_entry, coord_commit, waits, decisions_to, decided_by, yes_entry, coord_vote}
use Rattle.co_law_node.specs.Causes.{Exactly, is_completed, is_stable_after, marks_commit, IsAlone, IsLastYes, DecisionIsExact}

other : {A : Type 0} {a b : Answer} → (a ≡ b → ⊥) → a ≡ b → A
other n e = absurd (n e)

nothing : {A : Type 0} → false ≡ true → A
nothing h = absurd (let z : false ≡ true = h in cc)

-- the newest record is marked last
last_marked : (at : Node) (t : ℕ) (ms : List ℕ) (rs : List Record) → marks_commit (map (mark_of at) (rs ++ log.Commit t ms ∷ [])) t ≡ true
last_marked at t ms [] = or_left (t == t) false (eq-eqb t t refl)
last_marked at t ms (r ∷ rs) = or_right _ _ (last_marked at t ms rs)

newest_marked : (at : Node) (t : ℕ) (ms : List ℕ) (rs : List Record) → marks_commit (marks_of at (log.Commit t ms ∷ rs)) t ≡ true
newest_marked at t ms rs = ap (λ qs. marks_commit (map (mark_of at) qs) t) (reverse-append (log.Commit t ms ∷ []) rs) ∙ last_marked at t ms (reverse rs)

module _ (c : ℕ) where
  -- a commit record that is forced
  module _ (next : CoordState) (t : ℕ) (ms : List ℕ) (a : Answer) (notes : List Message) where
    forced_marked : Exactly (marks_commit (force_coord c next (log.Commit t ms ∷ []) a notes).marks t ≡ true) (is_stable_after (outcome_of next.log.armed 4) ≡ true)
    forced_marked = (to (outcome_of next.log.armed 4), from (outcome_of next.log.armed 4))
      where
        stopped : (call : ℕ) (b : Bool) → marks_commit (stopped_coord c next call b (log.Commit t ms ∷ [])).marks t ≡ true → b ≡ true
        stopped call true h = refl
        stopped call false h = nothing h

        marked : (call : ℕ) (b : Bool) → b ≡ true → marks_commit (stopped_coord c next call b (log.Commit t ms ∷ [])).marks t ≡ true
        marked call true h = newest_marked (node.Coord c) t ms next.log.waiting
        marked call false h = nothing h

        to : (o : Outcome) → marks_commit (coord_forced_by c next (log.Commit t ms ∷ []) a notes o).marks t ≡ true → is_stable_after o ≡ true
        to Completes h = refl
        to (StopsAt call leaves) h = stopped call (batch_is_stable call leaves) h

        from : (o : Outcome) → is_stable_after o ≡ true → marks_commit (coord_forced_by c next (log.Commit t ms ∷ []) a notes o).marks t ≡ true
        from Completes h = newest_marked (node.Coord c) t ms next.log.waiting
        from (StopsAt call leaves) h = marked call (batch_is_stable call leaves) h

    forced_answered : ((call : ℕ) → answer.Stopped call ≡ a → ⊥) → Exactly ((force_coord c next (log.Commit t ms ∷ []) a notes).answer ≡ a) (outcome_of next.log.armed 4 ≡ Completes)
    forced_answered apart = (to (outcome_of next.log.armed 4), λ e. ap (λ o. (coord_forced_by c next (log.Commit t ms ∷ []) a notes o).answer) e)
      where
        stopped : (call : ℕ) (b : Bool) {A : Type 0} → (stopped_coord c next call b (log.Commit t ms ∷ [])).answer ≡ a → A
        stopped call true h = absurd (apart call h)
        stopped call false h = absurd (apart call h)

        to : (o : Outcome) → (coord_forced_by c next (log.Commit t ms ∷ []) a notes o).answer ≡ a → o ≡ Completes
        to Completes h = refl
        to (StopsAt call leaves) h = stopped call (batch_is_stable call leaves) h

  module _ (y : CoordState) where
    -- what holds of the forced record holds of the row, and of no other
    alone_row : (t : ℕ) (parts : List Part) (P : Option Entry → List Part → Type 0) (W : Type 0) → Exactly (P (Some entry.Idle) []) W →
        ((o : Option Entry) (ps : List Part) → P o ps → (o ≡ Some entry.Idle) × (ps ≡ [])) → Exactly (P (look y.table t) parts) (IsAlone y t parts × W)
    alone_row t parts P W e only = (
      λ h. let p = only (look y.table t) parts h in (p, e.0 (subst (λ o. P o []) p.0 (subst (P (look y.table t)) p.1 h))),
      λ p. subst (P (look y.table t)) (sym p.0.1) (subst (λ o. P o []) (sym p.0.0) (e.1 p.1)),
    )

    asked_marked : (t : ℕ) (parts : List Part) → Exactly (marks_commit (coord_commit c y t parts).marks t ≡ true) (IsAlone y t parts × (is_stable_after (outcome_of y.log.armed 4) ≡ true))
    asked_marked t parts =
        alone_row t parts (λ o ps. marks_commit (commit_entry c y t ps o).marks t ≡ true) (is_stable_after (outcome_of y.log.armed 4) ≡ true)
        (forced_marked (with_table y (without y.table t)) t [] answer.Committed []) only
      where
        only : (o : Option Entry) (ps : List Part) → marks_commit (commit_entry c y t ps o).marks t ≡ true → (o ≡ Some entry.Idle) × (ps ≡ [])
        only None ps h = nothing h
        only (Some entry.Idle) [] h = (refl, refl)
        only (Some entry.Idle) (p ∷ ps) h = nothing h
        only (Some (entry.Collecting qs yeses)) ps h = nothing h
        only (Some (entry.Committed ms acks)) ps h = nothing h

    asked_answered : (t : ℕ) (parts : List Part) → Exactly ((coord_commit c y t parts).answer ≡ answer.Committed) (IsAlone y t parts × is_completed y.log)
    asked_answered t parts =
        alone_row t parts (λ o ps. (commit_entry c y t ps o).answer ≡ answer.Committed) (is_completed y.log)
        (forced_answered (with_table y (without y.table t)) t [] answer.Committed [] (λ call e. let z : answer.Stopped call ≡ answer.Committed = e in cc)) only
      where
        only : (o : Option Entry) (ps : List Part) → (commit_entry c y t ps o).answer ≡ answer.Committed → (o ≡ Some entry.Idle) × (ps ≡ [])
        only None ps h = other (λ e. cc) h
        only (Some entry.Idle) [] h = (refl, refl)
        only (Some entry.Idle) (p ∷ ps) h = other (λ e. cc) h
        only (Some (entry.Collecting qs yeses)) ps h = other (λ e. cc) h
        only (Some (entry.Committed ms acks)) ps h = other (λ e. cc) h

    -- the same of the last yes
    yes_row : (t m : ℕ) (P : Option Entry → Type 0) (W : Type 0) →
        ((parts : List Part) (yeses : List ℕ) → Exactly (P (Some (entry.Collecting parts yeses)))
        (((has_part parts m ≡ true) × (has_number yeses m ≡ false) × (first_lacking (members_of parts) (m ∷ yeses) ≡ None)) × W)) →
        ((o : Option Entry) → P o → (parts : List Part) × (yeses : List ℕ) × (o ≡ Some (entry.Collecting parts yeses))) → Exactly (P (look y.table t)) (IsLastYes y t m × W)
    yes_row t m P W e only = (
      λ h.
          let p = only (look y.table t) h in
          let q = (e p.0 p.1).0 (subst P p.2 h) in
          ((p.0, p.1, p.2, q.0.0, q.0.1, q.0.2), q.1),
      λ p. subst P (sym p.0.2) ((e p.0.0 p.0.1).1 ((p.0.3, p.0.4, p.0.5), p.1)),
    )

    -- a yes that is counted, and lacks none
    counted_row : (t m : ℕ) (parts : List Part) (yeses : List ℕ) (P : Bool → Option ℕ → Type 0) (W : Type 0) → Exactly (P true None) W → ((b : Bool) (o : Option ℕ) → P b o → (b ≡ true) × (o ≡ None)) →
        Exactly (P (has_part parts m && not (has_number yeses m)) (first_lacking (members_of parts) (m ∷ yeses)))
        (((has_part parts m ≡ true) × (has_number yeses m ≡ false) × (first_lacking (members_of parts) (m ∷ yeses) ≡ None)) × W)
    counted_row t m parts yeses P W e only = (
      λ h.
          let p = only (has_part parts m && not (has_number yeses m)) (first_lacking (members_of parts) (m ∷ yeses)) h in
          let q = and_parts (has_part parts m) (not (has_number yeses m)) p.0 in
          ((q.0, not_true (has_number yeses m) q.1, p.1), e.0 (subst (P true) p.1 (subst (λ b. P b (first_lacking (members_of parts) (m ∷ yeses))) p.0 h))),
      λ p.
          subst (λ b. P b (first_lacking (members_of parts) (m ∷ yeses))) (sym (and_from _ _ p.0.0 (ap not p.0.1)))
          (subst (P true) (sym p.0.2) (e.1 p.1)),
    )
      where
        not_true : (b : Bool) → not b ≡ true → b ≡ false
        not_true true h = nothing h
        not_true false h = refl

    abbrev counted_step : ℕ → ℕ → List Part → List ℕ → Bool → Option ℕ → CoordStep
    counted_step t m parts yeses b o = if b then decided_by c y t parts (m ∷ yeses) o else waits y parts yeses

    voted_marked : (t m : ℕ) → Exactly (marks_commit (coord_vote c y t m true).marks t ≡ true) (IsLastYes y t m × (is_stable_after (outcome_of y.log.armed 4) ≡ true))
    voted_marked t m =
        yes_row t m (λ o. marks_commit (yes_entry c y t m o).marks t ≡ true) (is_stable_after (outcome_of y.log.armed 4) ≡ true)
        (λ parts yeses.
        counted_row t m parts yeses (λ b o. marks_commit (counted_step t m parts yeses b o).marks t ≡ true) (is_stable_after (outcome_of y.log.armed 4) ≡ true)
        (forced_marked (with_table y (put y.table t (entry.Committed (members_of parts) []))) t (members_of parts) answer.Committed (decisions_to c t true (members_of parts))) (last parts yeses)) only
      where
        last : (parts : List Part) (yeses : List ℕ) (b : Bool) (o : Option ℕ) → marks_commit (counted_step t m parts yeses b o).marks t ≡ true → (b ≡ true) × (o ≡ None)
        last parts yeses true None h = (refl, refl)
        last parts yeses true (Some k) h = nothing h
        last parts yeses false o h = nothing h

        only : (o : Option Entry) → marks_commit (yes_entry c y t m o).marks t ≡ true → (parts : List Part) × (yeses : List ℕ) × (o ≡ Some (entry.Collecting parts yeses))
        only None h = nothing h
        only (Some entry.Idle) h = nothing h
        only (Some (entry.Collecting parts yeses)) h = (parts, yeses, refl)
        only (Some (entry.Committed ms acks)) h = nothing h

    voted_answered : (t m : ℕ) → Exactly ((coord_vote c y t m true).answer ≡ answer.Committed) (IsLastYes y t m × is_completed y.log)
    voted_answered t m =
        yes_row t m (λ o. (yes_entry c y t m o).answer ≡ answer.Committed) (is_completed y.log)
        (λ parts yeses.
        counted_row t m parts yeses (λ b o. (counted_step t m parts yeses b o).answer ≡ answer.Committed) (is_completed y.log)
        (forced_answered (with_table y (put y.table t (entry.Committed (members_of parts) []))) t (members_of parts) answer.Committed (decisions_to c t true (members_of parts))
        (λ call e. let z : answer.Stopped call ≡ answer.Committed = e in cc)) (last parts yeses)) only
      where
        last : (parts : List Part) (yeses : List ℕ) (b : Bool) (o : Option ℕ) → (counted_step t m parts yeses b o).answer ≡ answer.Committed → (b ≡ true) × (o ≡ None)
        last parts yeses true None h = (refl, refl)
        last parts yeses true (Some k) h = other (λ e. cc) h
        last parts yeses false o h = other (λ e. cc) h

        only : (o : Option Entry) → (yes_entry c y t m o).answer ≡ answer.Committed → (parts : List Part) × (yeses : List ℕ) × (o ≡ Some (entry.Collecting parts yeses))
        only None h = other (λ e. cc) h
        only (Some entry.Idle) h = other (λ e. cc) h
        only (Some (entry.Collecting parts yeses)) h = (parts, yeses, refl)
        only (Some (entry.Committed ms acks)) h = other (λ e. cc) h

    pub decision_exact : DecisionIsExact c y
    decision_exact = record { alone = asked_marked; alone_answered = asked_answered; last_yes = voted_marked; last_yes_answered = voted_answered }
