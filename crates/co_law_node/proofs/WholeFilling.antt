-- A filled spare is allowed, record by record.
use Rattle.std.proofs.Common.{◌≡◌, ◌≢◌, ◌⊎◌, inl, inr, ℕ, Bool, true, false, T, ◌≤◌, ◌<◌, List, [], ◌∷◌, length, None, Some, refl, sym, ap, ◌∙◌, arith}
use Rattle.std.specs.Option.{is_some}
use Rattle.std.specs.Ordering.{nat_cmp}
use Rattle.std.specs.FinMap.{entries, entries_sorted, get-entries, keys}
use Rattle.std.specs.FinMap.Entries.{find, is_sorted}
use Rattle.std.proofs.lemmas.Bool.{false_from_ne_true}
use Rattle.co_base.specs.declared.node.Node.TheVariants as node
use Rattle.co_record.specs.declared.record.Record.{Record}
use Rattle.co_record.specs.declared.record.Record.TheVariants as log
use Rattle.co_state.specs.declared.engine_state.Vote.{Vote}
use Rattle.co_state.specs.Table.{look, holds}
use Rattle.co_state.specs.Effects.{dumped_rows, dumped_undos}
use Rattle.co_plain.specs.declared.member_state.MemberState.{MemberState}
use Rattle.co_plain.specs.declared.member_view.MemberView.{MemberView}
use Rattle.co_plain.specs.declared.outcome.Outcome.{Outcome}
use Rattle.co_plain.specs.declared.outcome.Outcome.TheVariants.{Completes, StopsAt}
use Rattle.co_plain.specs.LogWrite.{outcome_of, with_filled_spare, with_spare, generation_of}
use Rattle.co_plain.specs.Numbers.{next_generation, IsAmong}
use Rattle.co_plain.specs.MemberView.{recovered_view, cast_in, sets_conflict}
use Rattle.co_plain.specs.Member.{prepare_record}
use Rattle.co_plain.specs.MemberLog.{prepares_onto, member_spare, stopped_fill, fill_by, close_by, checkpoint_by, member_checkpoint}
use Rattle.co_plain.specs.Invariants.{Memory, view}
use Rattle.co_frame.specs.Gate.{batch_is_stable, closes_spare}
use Rattle.co_law_base.proofs.Lookups.{is_nothing, look_none, put_cases, found_holds}
use Rattle.co_law_base.proofs.Commits.{both_T}
use Rattle.co_law_base.proofs.ImageRules.{EachEntry, each_entry, entry_has, below_found}
use Rattle.co_law_base.proofs.ViewMoves.{put_holds}
use Rattle.co_law_base.proofs.Filling.{spare_tells}
use Rattle.co_law_node.proofs.Allowed.{Allowed, Tells, may_vote}
use Rattle.co_law_node.proofs.WholeMoves.{Whole, whole_down, memory_tells, stable_allowed, alike, runs}

-- the votes may be cast one after another over a view
abbrev MayLay : ℕ → MemberView → List (ℕ × Vote) → Type 0
MayLay coords v [] = Unit {0}
MayLay coords v (e ∷ es) =
    (holds v.voted e.0 ≡ false) × (holds v.committed e.0 ≡ false) × IsAmong e.1.coord coords
    × ((u : ℕ) (other : Vote) → look v.voted u ≡ Some other → sets_conflict other.sets e.1.sets ≡ false) × MayLay coords (cast_in v e.0 e.1) es

allowed_onto : (coords : ℕ) (rs : List Record) (es : List (ℕ × Vote)) → 1 ≤ length rs → Allowed coords rs → MayLay coords (recovered_view rs) es → Allowed coords (prepares_onto rs es)
allowed_onto coords rs [] behind a l = a
allowed_onto coords rs (e ∷ es) behind a l =
    allowed_onto coords (prepare_record e.0 e.1.coord e.1.count e.1.sets ∷ rs) es (omega arith)
    (may_vote coords (length rs) (recovered_view rs) e.0 e.1.coord e.1.sets behind l.0 l.1 l.2 l.3, a) l.4

longer : (rs : List Record) (es : List (ℕ × Vote)) → length rs ≤ length (prepares_onto rs es)
longer rs [] = omega arith
longer rs (e ∷ es) = let p = longer (prepare_record e.0 e.1.coord e.1.count e.1.sets ∷ rs) es in omega (arith, p)

-- what stands in a table of votes that is free of conflicts, apart from the committed ones
module _ (coords : ℕ) (v : MemberView) (f : Tells coords v) where
  -- an entry of the table that is not yet laid
  abbrev IsLeft : MemberView → ℕ → Vote → Type 0
  IsLeft w u vote = (look v.voted u ≡ Some vote) × (holds w.voted u ≡ false)

  may_lay : (w : MemberView) (es : List (ℕ × Vote)) → T (is_sorted nat_cmp es) → EachEntry (IsLeft w) es →
      ((u : ℕ) (other : Vote) → look w.voted u ≡ Some other → look v.voted u ≡ Some other) →
      ((u : ℕ) (vote : Vote) → look v.voted u ≡ Some vote → holds w.committed u ≡ false) → MayLay coords w es
  may_lay w [] s h laid apart = tt
  may_lay w (e ∷ es) s h laid apart = (
    h.0.1,
    apart e.0 e.1 h.0.0,
    f.among e.0 e.1 h.0.0,
    λ u other g. f.free u e.0 other e.1 (λ same. not_laid u other g same) (laid u other g) h.0.0,
    may_lay (cast_in w e.0 e.1) es (both_T _ _ s).1
        (each_entry (IsLeft (cast_in w e.0 e.1)) es (both_T _ _ s).1 (λ u vote g. still_left u vote g))
        (λ u other g. now_laid u other (put_cases w.voted e.0 e.1 u other g)) apart,
  )
    where
      not_laid : (u : ℕ) (other : Vote) → look w.voted u ≡ Some other → u ≡ e.0 → ⊥
      not_laid u other g same = let z : true ≡ false = sym (found_holds w.voted u other g) ∙ ap (holds w.voted) same ∙ h.0.1 in cc

      now_laid : (u : ℕ) (other : Vote) → ((e.0 ≡ u) × (e.1 ≡ other)) ⊎ ((e.0 ≢ u) × (look w.voted u ≡ Some other)) → look v.voted u ≡ Some other
      now_laid u other (inl p) = ap (look v.voted) (sym p.0) ∙ h.0.0 ∙ ap Some p.1
      now_laid u other (inr p) = laid u other p.1

      still_left : (u : ℕ) (vote : Vote) → find nat_cmp u es ≡ Some vote → IsLeft (cast_in w e.0 e.1) u vote
      still_left u vote g =
          let old = entry_has (IsLeft w) es h.1 u vote g in
          let above : e.0 < u = below_found e.0 es u vote (both_T _ _ s).0 g in (
            old.0,
            false_from_ne_true _ (λ q. other (put_holds w.voted e.0 e.1 u q) above old.1),
          )
        where
          other : (e.0 ≡ u) ⊎ (holds w.voted u ≡ true) → e.0 < u → holds w.voted u ≡ false → ⊥
          other (inl same) above left = absurd (omega (arith, same, above))
          other (inr k) above left = let z : true ≡ false = sym k ∙ left in cc

committed_onto : (rs : List Record) (es : List (ℕ × Vote)) → (recovered_view (prepares_onto rs es)).committed ≡ (recovered_view rs).committed
committed_onto rs [] = refl
committed_onto rs (e ∷ es) = committed_onto (prepare_record e.0 e.1.coord e.1.count e.1.sets ∷ rs) es

module _ (coords m : ℕ) (x : MemberState) (w : Whole coords x) where
  f : Tells coords (view Memory x)
  f = memory_tells coords x w

  -- the header and the checkpoint of a filled spare
  abbrev first_two : ℕ → List Record
  first_two generation =
      log.Checkpoint (dumped_rows x.engine.kind x.engine) (dumped_undos x.engine.kind x.engine) (keys x.committed) ∷ log.Header (node.Member m) generation ∷ []

  spare_allowed : (generation : ℕ) → Allowed coords (member_spare m x generation)
  spare_allowed generation =
      allowed_onto coords (first_two generation) (entries x.engine.voted) (omega arith) (refl, (refl, tt))
      (may_lay coords (view Memory x) f (recovered_view (first_two generation)) (entries x.engine.voted) (entries_sorted x.engine.voted)
      (each_entry (IsLeft coords (view Memory x) f (recovered_view (first_two generation))) (entries x.engine.voted) (entries_sorted x.engine.voted)
      (λ u vote g. (get-entries x.engine.voted u ∙ g, ap is_some (look_none u))))
      (λ u other g. is_nothing (sym (look_none u) ∙ g))
      (λ u vote g. apart u vote g))
    where
      same : (recovered_view (first_two generation)).committed ≡ x.committed
      same = sym (committed_onto (first_two generation) (entries x.engine.voted)) ∙ ap (λ v. v.committed) (spare_tells m x generation)

      apart : (u : ℕ) (vote : Vote) → look x.engine.voted u ≡ Some vote → holds (recovered_view (first_two generation)).committed u ≡ false
      apart u vote g =
          ap (λ n. holds n u) same
          ∙ false_from_ne_true _ (λ q. let z : true ≡ false = sym (found_holds x.engine.voted u vote g) ∙ f.apart u q in cc)

  spare_headed : (generation : ℕ) → 1 ≤ length (member_spare m x generation)
  spare_headed generation = let p = longer (first_two generation) (entries x.engine.voted) in omega (arith, p)

  fills : (generation : ℕ) (o : Outcome) → x.up ≡ true → Whole coords (fill_by m x generation o).state
  fills generation Completes u =
      record {
        allowed = spare_allowed generation;
        headed = spare_headed generation;
        aborts = tt;
        logged = spare_tells m x generation;
        keeps = record { active = w.keeps.active; installed = w.keeps.installed; marked = w.keeps.marked };
        down = runs x u;
      }
  fills generation (StopsAt call leaves) u = by (batch_is_stable call leaves)
    where
      by : (b : Bool) → Whole coords (stopped_fill m x generation call b).state
      by true = whole_down coords x.engine.kind (with_filled_spare x.log (member_spare m x generation)) (spare_allowed generation) (spare_headed generation)
      by false = whole_down coords x.engine.kind x.log (stable_allowed coords x w) w.headed

  closes : (o : Outcome) → x.up ≡ true → Whole coords (close_by x o).state
  closes Completes u = alike coords x w x.up None true (runs x u)
  closes (StopsAt call leaves) u = whole_down coords x.engine.kind (with_spare x.log (closes_spare leaves)) (stable_allowed coords x w) w.headed

  pub checkpoints : x.up ≡ true → Whole coords (member_checkpoint m x).state
  checkpoints u = by x.log.spare_closed
    where
      by : (b : Bool) → Whole coords (checkpoint_by m x b).state
      by false = closes (outcome_of x.log.armed 2) u
      by true = fills (next_generation (generation_of x.log.stable)) (outcome_of x.log.armed 4) u
