-- A run that is done is the one over its input.
use Rattle.std.proofs.Common.{◌≡◌, inl, ℕ, Bool, List, [], ◌++◌, length, Option, Some, sym, ◌∙◌, subst}
use Rattle.co_cluster.specs.Left.{AreLeftAs}
use Rattle.co_durable.specs.Told.{AreTold}
use Rattle.co_outside.specs.Home.{File, HomeView}
use Rattle.co_outside.specs.declared.spot.Spot.{Spot}
use Rattle.co_plain.specs.Opening.{opened}
use Rattle.co_plain.specs.Runs.{run, lines}
use Rattle.co_replay.specs.Transcript.{items_text, run_items}
use Rattle.co_top.proofs.Laws.{promised}
use Rattle.co_top.proofs.Left.{left_by}
use Rattle.co_top.proofs.OneRun.{one_run}
use Rattle.co_top.proofs.Resuming.{found_soundly}
use Rattle.co_top.specs.Headline.{IsWholeRun}
use Rattle.co_top.specs.Ran.{Ran, end_of, text_of, IsSameRun, IsRunEnd, NoHead, Unopened, Stopped, CutOff, Failed, Wanted}
use Rattle.co_top.specs.declared.status.Status.TheVariants as status

-- the same run has the same text, and leaves the same
module _ {resume : Bool} {input : List ℕ} {old : Spot → Option File} (r s : Ran resume input old) (same : IsSameRun r s) where
  same_text : text_of s ≡ text_of r
  same_text = sym (λ i. items_text (run_items (same.head i) (λ m. same.members m i) (λ c. same.coordinators c i) (same.events i)))

  same_end : end_of s ≡ end_of r
  same_end = sym (λ i. run (lines (same.events i)) (opened (same.head i).kinds (same.head i).coords (λ m. same.members m i) (λ c. same.coordinators c i)))

pub whole_run : {H : Type 0} (seen : H → HomeView) (resume : Bool) (input : List ℕ) (left : Option (List ℕ)) (held : List ℕ) (told : Option (List ℕ)) (old new : H) → IsRunEnd seen resume input left held told old new status.Done →
    (r : Ran resume input (seen old).file) → AreTold (seen old).file (length r.head.kinds) r.head.coords → r.rest ≡ [] → IsWholeRun r held (seen new).file told
whole_run seen resume input left held told old new (NoHead untold same cause) r files whole = absurd cause
whole_run seen resume input left held told old new (Unopened untold for) r files whole = absurd for.cause
whole_run seen resume input left held told old new (Stopped done after cause) r files whole =
    let same = one_run r done.ran files whole cause in
    let text = same_text r done.ran same in
    let mine = left_by r (seen new).file (subst (AreLeftAs (seen new).file) (same_end r done.ran same) after.left) in
    record {
      transcript = done.transcript ∙ (λ i. Some (held ++ text i));
      together = λ sound.
          let kept = promised r sound in
          record {
            serial_reads = kept.serial_reads;
            acknowledged = kept.acknowledged;
            agreement = kept.agreement;
            ordered = kept.ordered;
            logs_alone = mine.logs_alone sound;
            goes_on = λ are more next kinds coords. found_soundly r next sound kinds coords are (inl mine);
          };
    }
whole_run seen resume input left held told old new (CutOff done after is) r files whole = let z : status.Done ≡ status.Write = is in absurd (cc)
whole_run seen resume input left held told old new (Failed done after cause) r files whole = absurd cause
whole_run seen resume input left held told old new (Wanted done after is) r files whole = let z : status.Done ≡ status.Memory = is in absurd (cc)
