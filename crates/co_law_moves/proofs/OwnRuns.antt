-- What each node keeps by itself is kept by every event and by every run, over any opened logs and whatever verdicts are
-- handed.
use Rattle.std.proofs.Common.{◌≡◌, ◌≢◌, ℕ, List, [], ◌∷◌, None, subst}
use Rattle.co_plain.specs.declared.happening.Happening.{Happening}
use Rattle.co_plain.specs.declared.happening.Happening.TheVariants as happening
use Rattle.co_plain.specs.LogWrite.{with_stop}
use Rattle.co_plain.specs.CoordStep.{with_coord_log}
use Rattle.co_plain.specs.MemberStep.{with_log}
use Rattle.co_plain.specs.Federation.{Federation}
use Rattle.co_plain.specs.Step.{step, disarmed}
use Rattle.co_plain.specs.Runs.{run}
use Rattle.co_plain.specs.Invariants.{Side, Memory, Stable, view}
use Rattle.co_law_base.proofs.Facts.{rest_of}
use Rattle.co_law_base.proofs.Carrying.{clients_coord}
use Rattle.co_law_moves.specs.OwnGuards.{AnyLogs}
use Rattle.co_law_moves.proofs.Own.{OwnView, OwnMember, OwnFacts}
use Rattle.co_law_moves.proofs.OwnCoords.{clients_stay}
use Rattle.co_law_moves.proofs.OwnMoves.{own_moves}
use Rattle.co_law_moves.specs.EventMoves.{moves_of}
use Rattle.co_law_moves.proofs.StepsMade.{event_over}

-- all armed stops are taken away
own_disarmed : (s : Federation) → OwnFacts s → OwnFacts (disarmed s)
own_disarmed s f =
    record {
      numbers = f.numbers;
      members = alike;
      coords = λ c. clients_coord (rest_of s) (λ d. with_coord_log (s.coord d) (with_stop (s.coord d).log None)) s.sessions s.sent (clients_stay s) c (s.coord c).table (s.coord c).log.stable (s.coord c).log.waiting (f.coords c);
      ends = f.ends;
      sent = f.sent;
    }
  where
    views : (m : ℕ) (side : Side) → OwnView s.sessions s.used (view side (with_log (s.member m) (with_stop (s.member m).log None)))
    views m Memory = (f.members m).views Memory
    views m Stable = (f.members m).views Stable

    alike : (m : ℕ) → OwnMember s.sessions s.used s.sent m (with_log (s.member m) (with_stop (s.member m).log None))
    alike m =
        let x = f.members m in
        record {
          views = views m;
          active = λ t os h. let a = x.active t os h in record { kept = a.kept; stamps = a.stamps; begun = a.begun; apart = a.apart };
          marked = x.marked;
          logged = x.logged;
          waiting = x.waiting;
        }

own_event : (s : Federation) → OwnFacts s → (h : Happening) → h ≢ happening.Disarm → OwnFacts (step s h).state
own_event s f h n = let made = event_over AnyLogs s f h n tt in subst OwnFacts made.same (own_moves (moves_of s h) s f made.guards)

pub own_step : (s : Federation) → OwnFacts s → (h : Happening) → OwnFacts (step s h).state
own_step s f (happening.Line e) = own_event s f (happening.Line e) (λ n. let z : happening.Line e ≡ happening.Disarm = n in cc)
own_step s f (happening.Hand t m commit) = own_event s f (happening.Hand t m commit) (λ n. let z : happening.Hand t m commit ≡ happening.Disarm = n in cc)
own_step s f happening.Disarm = own_disarmed s f

pub own_run : (hs : List Happening) (s : Federation) → OwnFacts s → OwnFacts (run hs s)
own_run [] s f = f
own_run (h ∷ hs) s f = own_run hs (step s h).state (own_step s f h)
