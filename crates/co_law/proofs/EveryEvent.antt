-- Every event of a run is its list of moves.
use Rattle.std.proofs.Common.{◌≢◌, [], None, refl, sym, ap, ◌∙◌}
use Rattle.co_plain.specs.AllInvariants.{AllInvariants}
use Rattle.co_plain.specs.declared.happening.Happening.{Happening}
use Rattle.co_plain.specs.declared.happening.Happening.TheVariants as happening
use Rattle.co_plain.specs.CommitmentOrder.{trace_from}
use Rattle.co_plain.specs.CoordStep.{with_coord_log}
use Rattle.co_plain.specs.Federation.{Federation}
use Rattle.co_plain.specs.LogWrite.{with_stop}
use Rattle.co_plain.specs.MemberStep.{with_log}
use Rattle.co_plain.specs.Step.{step}
use Rattle.co_law_base.proofs.Carrying.{at_here}
use Rattle.co_law_base.proofs.Facts.{Facts}
use Rattle.co_plain.specs.Premises.{IsTrueVerdict}
use Rattle.co_law_moves.specs.EventMoves.{moves_of}
use Rattle.co_law_moves.specs.MoveTraces.{IsItsMoves, IsDisarmedEverywhere, told_with, moves_trace}
use Rattle.co_law_moves.proofs.ItemsTold.{no_rest}
use Rattle.co_law_moves.proofs.StepsMade.{event_made}
use Rattle.co_law_moves.proofs.StepsTold.{step_told, step_sends}
use Rattle.co_law.proofs.AllBack.{all_back}

event_is_made : (s : Federation) → Facts s → (h : Happening) → IsTrueVerdict s h → h ≢ happening.Disarm → IsItsMoves s h
event_is_made s f h v n =
    let m = event_made s f h n v in
    record {
      leaves = m.same;
      guarded = m.guards;
      tells = ap (trace_from None) (sym (no_rest (told_with h (step s h).items))) ∙ step_told s f h [] ∙ no_rest (moves_trace (moves_of s h) s);
      sends = step_sends s f h;
    }

pub every_event : (s : Federation) (h : Happening) → AllInvariants s → IsTrueVerdict s h → h ≢ happening.Disarm → IsItsMoves s h
every_event s h i v n = event_is_made s (all_back s i).facts h v n

pub every_disarming : (s : Federation) → IsDisarmedEverywhere s (step s happening.Disarm).state
every_disarming s =
    record {
      members = λ m. sym (at_here s.member m (with_log (s.member m) (with_stop (s.member m).log None)));
      coordinators = λ c. sym (at_here s.coord c (with_coord_log (s.coord c) (with_stop (s.coord c).log None)));
      rest = refl;
    }
