-- Every step keeps the facts, where a verdict that is handed is true of the run: each move does, and an event is its moves; no fact is
-- of armed stops.
use Rattle.std.proofs.Common.{◌≡◌, ◌≢◌, subst, inl, ℕ, List, [], ◌∷◌, None, refl}
use Rattle.co_plain.specs.declared.happening.Happening.{Happening}
use Rattle.co_plain.specs.declared.happening.Happening.TheVariants as happening
use Rattle.co_plain.specs.LogWrite.{with_stop}
use Rattle.co_plain.specs.MemberStep.{with_log}
use Rattle.co_plain.specs.CoordStep.{with_coord_log}
use Rattle.co_plain.specs.Federation.{Federation}
use Rattle.co_plain.specs.Step.{step}
use Rattle.co_plain.specs.Runs.{run}
use Rattle.co_plain.specs.Invariants.{Side, Memory, Stable, view}
use Rattle.co_law_base.proofs.Facts.{Before, rest_of, MemberFacts, ViewFacts, Facts}
use Rattle.co_law_base.proofs.Carrying.{StandsOn, Later, later_member, later_coord, later_records, later_sent, numbers_same, sent_on, records_on}
use Rattle.co_law_base.proofs.TwoViews.{stands_alike}
use Rattle.co_law_base.proofs.MemberFrame.{unended_settled}
use Rattle.co_law_base.proofs.Commits.{unended_seen}
use Rattle.co_plain.specs.Premises.{IsTrueVerdict, AreTrueVerdicts}
use Rattle.co_plain.specs.Moves.{Move, GuardsHold, effect, all_effects}
use Rattle.co_law_moves.specs.EventMoves.{moves_of}
use Rattle.co_law_moves.proofs.MoveByMove.{move_keeps}
use Rattle.co_law_moves.proofs.StepsMade.{event_made}

module _ (s : Federation) (f : Facts s) where
  -- all armed stops are taken away
  disarm_later : Later (rest_of s) (λ c. with_coord_log (s.coord c) (with_stop (s.coord c).log None)) s.sessions s.sent s.member
  disarm_later =
      record {
        told_same = λ t o. refl;
        counts = λ t m h. h;
        begun_on = λ t h. h;
        begun_back = λ t o h. h;
        asked_on = λ t h. h;
        by_on = λ t c h. h;
        by_back = λ t c o h. h;
        alive_back = λ t c o h. h;
        part = λ t c m b a h. inl h;
        sent_on = λ note h. h;
      }

  disarm_coords : Facts (record s { coord = λ c. with_coord_log (s.coord c) (with_stop (s.coord c).log None) })
  disarm_coords =
      let coord = λ (c : ℕ). with_coord_log (s.coord c) (with_stop (s.coord c).log None) in
      record {
        numbers = numbers_same (rest_of s) coord s.sent f.numbers;
        members = λ m. later_member (rest_of s) f.numbers coord s.sessions s.sent s.member disarm_later m (λ t os h. refl) (f.members m);
        coords = λ d. later_coord (rest_of s) f.numbers coord s.sessions s.sent s.member disarm_later d (s.coord d).table (s.coord d).log.stable (s.coord d).log.waiting (f.coords d);
        sent = later_sent (rest_of s) f.numbers coord s.sessions s.member disarm_later f.sent;
        records = later_records (rest_of s) f.numbers coord s.sessions s.sent s.member disarm_later f.records (λ c t ms h. h);
        serially = f.serially;
      }

disarm_members : (s : Federation) → Facts s → Facts (record s { member = λ m. with_log (s.member m) (with_stop (s.member m).log None) })
disarm_members s f =
    let member = λ (m : ℕ). with_log (s.member m) (with_stop (s.member m).log None) in
    record {
      numbers = f.numbers;
      members = λ m. alike m;
      coords = f.coords;
      sent = sent_on (rest_of s) f.numbers s.member member on f.sent;
      records = records_on (rest_of s) f.numbers s.member member on (unended_settled s f) (λ c u ms h. Before c (unended_seen (s.opened_coord c) u ms h)) f.records;
      serially = f.serially;
    }
  where
    views : (m : ℕ) (side : Side) → ViewFacts (rest_of s) m (view side (with_log (s.member m) (with_stop (s.member m).log None)))
    views m Memory = (f.members m).views Memory
    views m Stable = (f.members m).views Stable

    alike : (m : ℕ) → MemberFacts (rest_of s) m (with_log (s.member m) (with_stop (s.member m).log None))
    alike m =
        let x = f.members m in
        record {
          views = views m;
          active = λ t os h. let a = x.active t os h in record { kept = a.kept; stamps = a.stamps; begun = a.begun; apart = a.apart };
          marked = x.marked;
          logged = x.logged;
          waiting = x.waiting;
        }

    on : (m : ℕ) → StandsOn (rest_of s) (s.member m) (with_log (s.member m) (with_stop (s.member m).log None))
    on m = stands_alike (rest_of s) (s.member m) (with_log (s.member m) (with_stop (s.member m).log None)) refl refl

-- every list of moves keeps them, and so every event
moves_keep : (moves : List Move) (s : Federation) → Facts s → GuardsHold moves s → Facts (all_effects moves s)
moves_keep [] s f g = f
moves_keep (move ∷ moves) s f g = moves_keep moves (effect s move) (move_keeps s f move g.0) g.1

event_keeps : (s : Federation) → Facts s → (h : Happening) → h ≢ happening.Disarm → IsTrueVerdict s h → Facts (step s h).state
event_keeps s f h n v = let m = event_made s f h n v in subst Facts m.same (moves_keep (moves_of s h) s f m.guards)

-- Every step keeps the facts.
pub step_keeps : (s : Federation) → Facts s → (h : Happening) → IsTrueVerdict s h → Facts (step s h).state
step_keeps s f (happening.Line e) v = event_keeps s f (happening.Line e) (λ n. let z : happening.Line e ≡ happening.Disarm = n in cc) v
step_keeps s f (happening.Hand t m commit) v = event_keeps s f (happening.Hand t m commit) (λ n. let z : happening.Hand t m commit ≡ happening.Disarm = n in cc) v
step_keeps s f happening.Disarm v = disarm_members (record s { coord = λ c. with_coord_log (s.coord c) (with_stop (s.coord c).log None) }) (disarm_coords s f)

-- and so does every run.
pub run_keeps : (hs : List Happening) (s : Federation) → Facts s → AreTrueVerdicts hs s → Facts (run hs s)
run_keeps [] s f v = f
run_keeps (h ∷ hs) s f v = run_keeps hs (step s h).state (step_keeps s f h v.0) v.1
