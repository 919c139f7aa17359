-- A stop of the coordinator where the last yes arrives leaves a doubt that may go either way.
use Rattle.std.proofs.Common.{◌≡◌, ◌≢◌, ◌⊎◌, inl, inr, ℕ, Bool, true, false, not, ◌&&◌, ◌==◌, if◌then◌else◌, List, [], ◌∷◌, ◌++◌, Option, None, Some, refl, sym, ap, ◌∙◌, subst}
use Rattle.std.proofs.lemmas.Bool.{or_cases, eqb-true, false_from_ne_true}
use Rattle.std.specs.Option.{is_some}
use Rattle.std.specs.FinMap.{entries}
use Rattle.co_base.specs.declared.leaves.Leaves.{Leaves}
use Rattle.co_base.specs.declared.leaves.Leaves.TheVariants.{Old, New}
use Rattle.co_base.specs.declared.node.Node.TheVariants as node
use Rattle.co_base.specs.declared.part.Part.{Part}
use Rattle.co_message.specs.declared.answer.Answer.TheVariants as answer
use Rattle.co_message.specs.declared.event.Event.TheVariants as event
use Rattle.co_message.specs.declared.message.Message.{Message}
use Rattle.co_message.specs.declared.message.Message.TheVariants as message
use Rattle.co_record.specs.declared.record.Record.{Record}
use Rattle.co_record.specs.declared.record.Record.TheVariants as log
use Rattle.co_frame.specs.Gate.{batch_is_stable}
use Rattle.co_state.specs.Table.{look, put}
use Rattle.co_plain.specs.declared.coord_state.CoordState.{CoordState}
use Rattle.co_plain.specs.declared.coord_state.Entry.{Entry}
use Rattle.co_plain.specs.declared.coord_state.Entry.TheVariants as entry
use Rattle.co_plain.specs.declared.coord_step.CoordStep.{CoordStep}
use Rattle.co_plain.specs.declared.happening.Happening.TheVariants as happening
use Rattle.co_plain.specs.declared.session.Session.{Session}
use Rattle.co_plain.specs.AllInvariants.{AllInvariants}
use Rattle.co_plain.specs.CoordInvariants.{BegunAt, IsOpenEntry}
use Rattle.co_plain.specs.CoordLog.{coord_arm}
use Rattle.co_plain.specs.CoordStep.{members_of, with_table, with_coord_log, stopped_coord, table_from}
use Rattle.co_plain.specs.CoordView.{recovered_commits, has_commit_of}
use Rattle.co_plain.specs.Coordinator.{waits, coord_deliver, coord_vote, yes_entry, decided_by}
use Rattle.co_plain.specs.Decisions.{is_decided, BelongsTo, BegunThere, IsSettled, InThisRun, InOpenedFile, IsPresumedAborted, AtCoordinator, AtMember}
use Rattle.co_plain.specs.Federation.{Federation, with_coord, at_coord, answers}
use Rattle.co_plain.specs.LogWrite.{with_stop}
use Rattle.co_plain.specs.Numbers.{has_number, first_lacking}
use Rattle.co_plain.specs.Premises.{IsTrueVerdict}
use Rattle.co_plain.specs.Step.{step_line, up_coord, arrives}
use Rattle.co_law_base.proofs.Carrying.{at_here, settled_home}
use Rattle.co_law_base.proofs.Commits.{from_cases, unended_seen}
use Rattle.co_law_base.proofs.Facts.{rest_of, Before}
use Rattle.co_law_base.proofs.LogMoves.{as_belongs}
use Rattle.co_law_base.proofs.Lookups.{found_holds, put_here}
use Rattle.co_law.proofs.AllBack.{all_back}
use Rattle.co_law.proofs.EveryInvariant.{step_invariants}
use Rattle.co_law_coop.specs.Blocking.{AwaitsLastYes, stopped_with, GoesEitherWay}

-- ---- the state after the stop

module _ (s : Federation) (t c m : ℕ) (a : AwaitsLastYes s t c m) where
  abbrev parts : List Part
  parts = a.last.0

  abbrev yeses : List ℕ
  yeses = a.last.1

  abbrev note : Message
  note = message.Vote t m c true

  abbrev armed : Leaves → CoordState
  armed leaves = with_coord_log (s.coord c) (with_stop (s.coord c).log (Some (record { call = 4; leaves = leaves })))

  abbrev next : Leaves → CoordState
  next leaves = with_table (armed leaves) (put (s.coord c).table t (entry.Committed (members_of parts) []))

  abbrev batch : List Record
  batch = log.Commit t (members_of parts) ∷ []

  abbrev did : Leaves → CoordStep
  did leaves = stopped_coord c (next leaves) 4 (batch_is_stable 4 leaves) batch

  abbrev after_stop : Leaves → Federation
  after_stop leaves = (at_coord (with_coord s c (armed leaves)) c (did leaves)).state

  arming : (leaves : Leaves) → (step_line s (event.Arm (node.Coord c) 4 leaves)).state ≡ with_coord s c (armed leaves)
  arming leaves = ap (λ u. (up_coord s c u (coord_arm (s.coord c) 4 leaves)).state) a.up

  voting : (leaves : Leaves) → coord_vote c (armed leaves) t m true ≡ did leaves
  voting leaves =
      ap (yes_entry c (armed leaves) t m) a.last.2
      ∙ ap (λ b. if b && not (has_number yeses m) then decided_by c (armed leaves) t parts (m ∷ yeses) (first_lacking (members_of parts) (m ∷ yeses)) else waits (armed leaves) parts yeses) a.last.3
      ∙ ap (λ b. if true && not b then decided_by c (armed leaves) t parts (m ∷ yeses) (first_lacking (members_of parts) (m ∷ yeses)) else waits (armed leaves) parts yeses) a.last.4
      ∙ ap (decided_by c (armed leaves) t parts (m ∷ yeses)) a.last.5

  delivering : (leaves : Leaves) → (step_line (with_coord s c (armed leaves)) (event.Deliver note)).state ≡ after_stop leaves
  delivering leaves =
      let z = with_coord s c (armed leaves) in
      ap (λ b. (if b then arrives z note else answers z answer.Unsent).state) a.sent
      ∙ ap (λ y. (up_coord z c y.up (coord_deliver c y note)).state) (at_here s.coord c (armed leaves))
      ∙ ap (λ u. (up_coord z c u (coord_vote c (armed leaves) t m true)).state) a.up
      ∙ ap (λ d. (at_coord z c d).state) (voting leaves)

  stop_is : (leaves : Leaves) → stopped_with leaves s t c m ≡ after_stop leaves
  stop_is leaves = ap (λ z. (step_line z (event.Deliver note)).state) (arming leaves) ∙ delivering leaves

  here : (leaves : Leaves) → (after_stop leaves).coord c ≡ (did leaves).state
  here leaves = at_here (with_coord s c (armed leaves)).coord c (did leaves).state

  -- ---- what it is

  module _ (i : AllInvariants s) where
    still : IsOpenEntry s c t
    still = ((i.tables c).collecting t parts yeses a.last.2).still

    settled : IsSettled (after_stop New) t
    settled = by ((j.tables c).recorded t commits)
      where
        j : AllInvariants (after_stop New)
        j =
            subst AllInvariants (stop_is New)
            (step_invariants (step_line s (event.Arm (node.Coord c) 4 New)).state (happening.Line (event.Deliver note)) (step_invariants s (happening.Line (event.Arm (node.Coord c) 4 New)) i tt) tt)

        commits : has_commit_of ((after_stop New).coord c).log.stable t ≡ true
        commits = ap (λ y. has_commit_of y.log.stable t) (here New) ∙ ap is_some (put_here (recovered_commits ((s.coord c).log.waiting ++ (s.coord c).log.stable)).seen t tt)

        by : (BegunAt (look (after_stop New).sessions t) c × (is_decided (after_stop New).decided t ≡ true)) ⊎ (has_commit_of ((after_stop New).opened_coord c) t ≡ true) → IsSettled (after_stop New) t
        by (inl p) = InThisRun p.1
        by (inr h) = InOpenedFile c h

    belongs_there : BelongsTo (after_stop Old) t c
    belongs_there = by (look s.sessions t) refl still.begun_there
      where
        by : (o : Option Session) → look s.sessions t ≡ o → BegunAt o c → BelongsTo (after_stop Old) t c
        by None e h = absurd h
        by (Some session) e h = BegunThere session e h

    gone : look ((after_stop Old).coord c).table t ≡ None
    gone = ap (λ y. look y.table t) (here Old) ∙ by (look (table_from (entries (recovered_commits (s.coord c).log.stable).unended)) t) refl
      where
        by : (o : Option Entry) → look (table_from (entries (recovered_commits (s.coord c).log.stable).unended)) t ≡ o → look (table_from (entries (recovered_commits (s.coord c).log.stable).unended)) t ≡ None
        by None e = e
        by (Some x) e =
            let p = from_cases (recovered_commits (s.coord c).log.stable).unended t x e in
            absurd (let z : true ≡ false = sym (unended_seen (s.coord c).log.stable t p.0 p.1) ∙ still.unrecorded in cc)

    unopened : has_commit_of (s.opened_coord c) t ≡ true → ⊥
    unopened h = by (look s.sessions t) refl still.begun_there
      where
        by : (o : Option Session) → look s.sessions t ≡ o → BegunAt o c → ⊥
        by None e k = k
        by (Some session) e k = let z : true ≡ false = sym ((i.tables c).opened t h) ∙ i.asked.begun_is_new t (found_holds s.sessions t session e) in cc

    aborted : IsPresumedAborted (after_stop Old) t
    aborted = AtCoordinator c belongs_there gone still.undecided (false_from_ne_true _ unopened)

    elsewhere : (d : ℕ) → c ≢ d → (leaves : Leaves) → (after_stop leaves).coord d ≡ s.coord d
    elsewhere d apart leaves = by (c == d) refl
      where
        by : (b : Bool) → (c == d) ≡ b → (after_stop leaves).coord d ≡ s.coord d
        by true e = absurd (apart (eqb-true c d e))
        by false e = ap (λ b. if b then (did leaves).state else (if b then armed leaves else s.coord d)) e

    either : GoesEitherWay (after_stop New) (after_stop Old) t c
    either =
        record {
          alike =
              record {
                members = refl;
                sessions = refl;
                messages = refl;
                coords = λ d apart. elsewhere d apart New ∙ sym (elsewhere d apart Old);
              };
          down = ap (λ y. y.up) (here New);
          down_too = ap (λ y. y.up) (here Old);
          settled = settled;
          aborted = aborted;
        }

    pub goes_either_way : GoesEitherWay (stopped_with New s t c m) (stopped_with Old s t c m) t c
    goes_either_way =
        subst (λ z. GoesEitherWay z (stopped_with Old s t c m) t c) (sym (stop_is New)) (subst (λ z. GoesEitherWay (after_stop New) z t c) (sym (stop_is Old)) either)

-- ---- no verdict is true of both

pub not_both : (s : Federation) (t : ℕ) → AllInvariants s → IsSettled s t → IsPresumedAborted s t → ⊥
not_both s t i (InThisRun d) (AtCoordinator c b none undecided unopened) = let z : true ≡ false = sym d ∙ undecided in cc
not_both s t i (InThisRun d) (AtMember session m e by undecided over) = let z : true ≡ false = sym d ∙ undecided in cc
not_both s t i (InOpenedFile d h) (AtMember session m e by undecided over) =
    let z : true ≡ false = sym ((i.tables d).opened t h) ∙ i.asked.begun_is_new t (found_holds s.sessions t session e) in cc
not_both s t i (InOpenedFile d h) (AtCoordinator c b none undecided unopened) =
    by (or_cases (is_decided s.decided t) (has_commit_of (s.opened_coord c) t) (settled_home (rest_of s) (all_back s i).facts.numbers t c (as_belongs s t c b) (Before d h)))
  where
    by : (is_decided s.decided t ≡ true) ⊎ (has_commit_of (s.opened_coord c) t ≡ true) → ⊥
    by (inl p) = let z : true ≡ false = sym p ∙ undecided in cc
    by (inr p) = let z : true ≡ false = sym p ∙ unopened in cc

pub no_verdict : (s z : Federation) (t c m : ℕ) (verdict : Bool) → AllInvariants s → AllInvariants z → GoesEitherWay s z t c →
    IsTrueVerdict s (happening.Hand t m verdict) → IsTrueVerdict z (happening.Hand t m verdict) → ⊥
no_verdict s z t c m true i j g h k = not_both z t j k g.aborted
no_verdict s z t c m false i j g h k = not_both s t i g.settled h
