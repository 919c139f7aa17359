-- What members had installed behind a line are snapshots of the run to its end.
use Rattle.std.proofs.Common.{◌≡◌, inl, ℕ, zero, suc, List, [], ◌++◌, take, drop, refl, sym, ap, ◌∙◌, subst}
use Rattle.std.proofs.lemmas.List.{take-append-drop, map-append}
use Rattle.co_law.proofs.GoingOn.{lines_true}
use Rattle.co_law_runs.proofs.Agreement.{run_more}
use Rattle.co_law_snapshot.proofs.Runs.{every_later}
use Rattle.co_law_snapshot.specs.Snapshot.{AreSnapshotsOf}
use Rattle.co_message.specs.declared.event.Event.{Event}
use Rattle.co_plain.specs.Runs.{run, lines}
use Rattle.co_plain.specs.declared.happening.Happening.TheVariants as happening
use Rattle.co_top.proofs.Laws.{openable}
use Rattle.co_top.specs.Following.{RanFresh}
use Rattle.co_top.specs.Ran.{start_of, end_of}
use Rattle.co_top.specs.Sights.{state_behind}

module _ {input : List ℕ} (fresh : RanFresh input) where
  later : (done more : List Event) → done ++ more ≡ fresh.ran.events → AreSnapshotsOf (end_of fresh.ran) (run (lines done) (start_of fresh.ran))
  later done more all =
      let r = fresh.ran in
      subst (λ s. AreSnapshotsOf s (run (lines done) (start_of fresh.ran))) split
      (every_later r.head.kinds r.head.coords r.found_member r.found_coord (lines done) (lines more) (openable r (inl refl)) (lines_true done (start_of r)) (lines_true more (run (lines done) (start_of r))))
    where
      split : run (lines more) (run (lines done) (start_of fresh.ran)) ≡ run (lines fresh.ran.events) (start_of fresh.ran)
      split =
          sym (run_more (lines done) (lines more) (start_of fresh.ran))
          ∙ ap (λ hs. run hs (start_of fresh.ran)) (sym (map-append happening.Line done more))
          ∙ ap (λ es. run (lines es) (start_of fresh.ran)) all

  pub snapshots_behind : (line : ℕ) → AreSnapshotsOf (end_of fresh.ran) (state_behind (start_of fresh.ran) fresh.ran.events line)
  snapshots_behind zero = later [] fresh.ran.events refl
  snapshots_behind (suc done) = later (take done fresh.ran.events) (drop done fresh.ran.events) (take-append-drop done fresh.ran.events)
