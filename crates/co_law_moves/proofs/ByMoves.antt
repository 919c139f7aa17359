-- What every move leaves is left by every step and by every run.
use Rattle.std.proofs.Common.{◌≡◌, ◌≢◌, List, [], ◌∷◌, subst}
use Rattle.co_plain.specs.declared.happening.Happening.{Happening}
use Rattle.co_plain.specs.declared.happening.Happening.TheVariants as happening
use Rattle.co_plain.specs.Federation.{Federation}
use Rattle.co_plain.specs.Step.{step, disarmed}
use Rattle.co_plain.specs.Runs.{run}
use Rattle.co_plain.specs.Moves.{Move, Guard, GuardsHold, effect, all_effects}
use Rattle.co_law_base.proofs.Facts.{Facts}
use Rattle.co_plain.specs.Premises.{IsTrueVerdict, AreTrueVerdicts}
use Rattle.co_law_moves.proofs.Steps.{step_keeps}
use Rattle.co_law_moves.specs.EventMoves.{moves_of}
use Rattle.co_law_moves.proofs.MoveByMove.{move_keeps}
use Rattle.co_law_moves.proofs.StepsMade.{event_made}

module _ (R : Federation → Federation → Type 0) (same : (s : Federation) → R s s) (on : (s z w : Federation) → R s z → R z w → R s w)
    (by_move : (s : Federation) → Facts s → (move : Move) → Guard s move → R s (effect s move)) (by_disarm : (s : Federation) → Facts s → R s (disarmed s)) where
  pub moves_leave : (moves : List Move) (s : Federation) → Facts s → GuardsHold moves s → R s (all_effects moves s)
  moves_leave [] s f g = same s
  moves_leave (move ∷ moves) s f g =
      on s (effect s move) (all_effects moves (effect s move)) (by_move s f move g.0) (moves_leave moves (effect s move) (move_keeps s f move g.0) g.1)

  event_leaves : (s : Federation) → Facts s → (h : Happening) → h ≢ happening.Disarm → IsTrueVerdict s h → R s (step s h).state
  event_leaves s f h n v = let m = event_made s f h n v in subst (R s) m.same (moves_leave (moves_of s h) s f m.guards)

  pub step_leaves : (s : Federation) → Facts s → (h : Happening) → IsTrueVerdict s h → R s (step s h).state
  step_leaves s f (happening.Line e) v = event_leaves s f (happening.Line e) (λ n. let z : happening.Line e ≡ happening.Disarm = n in cc) v
  step_leaves s f (happening.Hand t m commit) v = event_leaves s f (happening.Hand t m commit) (λ n. let z : happening.Hand t m commit ≡ happening.Disarm = n in cc) v
  step_leaves s f happening.Disarm v = by_disarm s f

  pub run_leaves : (hs : List Happening) (s : Federation) → Facts s → AreTrueVerdicts hs s → R s (run hs s)
  run_leaves [] s f v = same s
  run_leaves (h ∷ hs) s f v =
      on s (step s h).state (run hs (step s h).state) (step_leaves s f h v.0) (run_leaves hs (step s h).state (step_keeps s f h v.0) v.1)
