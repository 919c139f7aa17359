-- The law at the start, by each event and in every state of a run.
use Rattle.std.proofs.Common.{◌≡◌, ℕ, true, false, ◌&&◌, List, [], ◌∷◌, Some, refl, sym, ap, ◌∙◌, subst}
use Rattle.std.proofs.lemmas.Bool.{false_from_ne_true}
use Rattle.co_base.specs.declared.head.Kind.{Kind}
use Rattle.co_base.specs.declared.node.Node.TheVariants as node
use Rattle.co_state.specs.declared.engine_state.Vote.{Vote}
use Rattle.co_state.specs.Table.{look, holds}
use Rattle.co_plain.specs.AllInvariants.{AllInvariants}
use Rattle.co_plain.specs.CoordView.{has_commit_of}
use Rattle.co_plain.specs.declared.happening.Happening.{Happening}
use Rattle.co_plain.specs.declared.happening.Happening.TheVariants as happening
use Rattle.co_plain.specs.declared.member_view.MemberView.{MemberView}
use Rattle.co_plain.specs.Federation.{Federation}
use Rattle.co_plain.specs.Invariants.{Side, Memory, Stable, view}
use Rattle.co_plain.specs.MemberView.{recovered_view}
use Rattle.co_plain.specs.Moves.{Move, GuardsHold, effect, all_effects}
use Rattle.co_plain.specs.Opening.{Found, opened}
use Rattle.co_plain.specs.Premises.{AreOpenable, AreTrueVerdicts, IsTrueVerdict}
use Rattle.co_plain.specs.Runs.{run}
use Rattle.co_plain.specs.Step.{step, disarmed}
use Rattle.co_law_base.proofs.Facts.{serial_of}
use Rattle.co_law_base.proofs.ImageRules.{laid_serial}
use Rattle.co_law_base.proofs.Lookups.{found_holds}
use Rattle.co_law_moves.specs.EventMoves.{moves_of}
use Rattle.co_law_moves.proofs.Growing.{Grows, run_grows}
use Rattle.co_law_moves.proofs.Start.{made_view}
use Rattle.co_law_moves.proofs.StepsMade.{event_made}
use Rattle.co_law.proofs.AllBack.{all_back}
use Rattle.co_law.proofs.AllFacts.{AllFacts, all_start, all_move, all_step, all_run}
use Rattle.co_law_snapshot.specs.Snapshot.{AreSnapshotsOf, InstalledAreSnapshots, starting_among, serial_among, SnapshotFacts, SnapshotInvariants}
use Rattle.co_law_snapshot.proofs.LaterDecisions.{later_among}
use Rattle.co_law_snapshot.proofs.Moves.{move_keeps}
use Rattle.co_law_snapshot.proofs.Views.{facts_same}

module _ (kinds : List Kind) (coords : ℕ) (fm fc : ℕ → Found) (g : AreOpenable kinds coords fm fc) where
  -- no opened vote is committed yet
  start_view : (m : ℕ) → SnapshotFacts (opened kinds coords fm fc) m (recovered_view (fm m).records)
  start_view m =
      record {
        serial =
            sym (laid_serial v.records (λ t. ⊥) (λ t vote. holds v.committed t && has_commit_of (fc vote.coord).records t) v
            (record { untouched = λ key h. refl; written = λ t vote key f d w r. absurd d })
            (λ t vote h k. let z : true ≡ false = sym k ∙ ap (λ b. b && has_commit_of (fc vote.coord).records t) (uncommitted t vote h) in cc)
            (λ t vote h d. absurd d));
        later_leave = tt;
        opened_votes = λ t vote n h. h;
      }
    where
      v : MemberView
      v = recovered_view (fm m).records

      uncommitted : (t : ℕ) (vote : Vote) → look (recovered_view (fm m).records).voted t ≡ Some vote → holds (recovered_view (fm m).records).committed t ≡ false
      uncommitted t vote h =
          false_from_ne_true (holds (recovered_view (fm m).records).committed t)
          (λ k. let z : true ≡ false = sym (found_holds (recovered_view (fm m).records).voted t vote h) ∙ g.apart m t k in cc)

  pub snapshot_start : SnapshotInvariants (opened kinds coords fm fc)
  snapshot_start = record { views = views; opened_free = g.free }
    where
      views : (m : ℕ) (side : Side) → SnapshotFacts (opened kinds coords fm fc) m (view side ((opened kinds coords fm fc).member m))
      views m Memory = start_view m
      views m Stable = subst (SnapshotFacts (opened kinds coords fm fc) m) (sym (made_view (node.Member m) (fm m).records)) (start_view m)

moves_keep : (moves : List Move) (s : Federation) → AllFacts s → SnapshotInvariants s → GuardsHold moves s → SnapshotInvariants (all_effects moves s)
moves_keep [] s a i g = i
moves_keep (move ∷ moves) s a i g = moves_keep moves (effect s move) (all_move s a move g.0) (move_keeps s a.facts i a.working move g.0) g.1

step_facts : (s : Federation) → AllFacts s → SnapshotInvariants s → (h : Happening) → IsTrueVerdict s h → SnapshotInvariants (step s h).state
step_facts s a i (happening.Line e) v =
    let made = event_made s a.facts (happening.Line e) (λ q. let z : happening.Line e ≡ happening.Disarm = q in cc) v in
    subst SnapshotInvariants made.same (moves_keep (moves_of s (happening.Line e)) s a i made.guards)
step_facts s a i (happening.Hand t m commit) v =
    let made = event_made s a.facts (happening.Hand t m commit) (λ q. let z : happening.Hand t m commit ≡ happening.Disarm = q in cc) v in
    subst SnapshotInvariants made.same (moves_keep (moves_of s (happening.Hand t m commit)) s a i made.guards)
step_facts s a i happening.Disarm v = record { views = views; opened_free = i.opened_free }
  where
    on : (m : ℕ) (x : MemberView) → SnapshotFacts s m x → SnapshotFacts (disarmed s) m x
    on m x f = facts_same s (disarmed s) (record { members = refl; coords = refl; begun = λ t h. h }) refl m x f

    views : (m : ℕ) (side : Side) → SnapshotFacts (disarmed s) m (view side ((disarmed s).member m))
    views m Memory = on m (view Memory (s.member m)) (i.views m Memory)
    views m Stable = on m (view Stable (s.member m)) (i.views m Stable)

pub snapshot_step : (s : Federation) (h : Happening) → AllInvariants s → SnapshotInvariants s → IsTrueVerdict s h → SnapshotInvariants (step s h).state
snapshot_step s h a i v = step_facts s (all_back s a) i h v

run_facts : (hs : List Happening) (s : Federation) → AllFacts s → SnapshotInvariants s → AreTrueVerdicts hs s → SnapshotInvariants (run hs s)
run_facts [] s a i v = i
run_facts (h ∷ hs) s a i v = run_facts hs (step s h).state (all_step s a h v.0) (step_facts s a i h v.0) v.1

-- the law, from what is kept
pub snapshot_law : (s : Federation) → SnapshotInvariants s → InstalledAreSnapshots s
snapshot_law s i m = (i.views m Memory).serial

-- in every state of a run, and over the decisions of any later one
pub every_snapshot : (kinds : List Kind) (coords : ℕ) (fm fc : ℕ → Found) (hs : List Happening) → AreOpenable kinds coords fm fc → AreTrueVerdicts hs (opened kinds coords fm fc) →
    InstalledAreSnapshots (run hs (opened kinds coords fm fc))
every_snapshot kinds coords fm fc hs g v =
    snapshot_law (run hs (opened kinds coords fm fc))
    (run_facts hs (opened kinds coords fm fc) (all_start kinds coords fm fc g) (snapshot_start kinds coords fm fc g) v)

pub every_later : (kinds : List Kind) (coords : ℕ) (fm fc : ℕ → Found) (hs more : List Happening) → AreOpenable kinds coords fm fc → AreTrueVerdicts hs (opened kinds coords fm fc) →
    AreTrueVerdicts more (run hs (opened kinds coords fm fc)) → AreSnapshotsOf (run more (run hs (opened kinds coords fm fc))) (run hs (opened kinds coords fm fc))
every_later kinds coords fm fc hs more g v w m =
    every_snapshot kinds coords fm fc hs g v m
    ∙ ap (λ ds. serial_of (starting_among s.opened_member s.opened_coord (s.member m).committed) ds m) (sym (later_among s facts more w m))
    ∙ (λ i. serial_among (record z { opened_member = sym grown.members i; opened_coord = sym grown.coords i }) (s.member m).committed z.decided m)
  where
    s : Federation
    s = run hs (opened kinds coords fm fc)

    z : Federation
    z = run more s

    facts : AllFacts (run hs (opened kinds coords fm fc))
    facts = all_run hs (opened kinds coords fm fc) (all_start kinds coords fm fc g) v

    grown : Grows (run hs (opened kinds coords fm fc)) (run more (run hs (opened kinds coords fm fc)))
    grown = run_grows more (run hs (opened kinds coords fm fc))
