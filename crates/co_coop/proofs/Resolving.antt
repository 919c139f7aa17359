-- Every verdict that is handed in a turn is true, so what turns leave is a state of a run again.
use Rattle.std.proofs.Common.{◌≡◌, ℕ, Bool, true, false, if◌then◌else◌, List, [], ◌∷◌, ◌++◌, length, refl, sym, ap, ◌∙◌, subst}
use Rattle.co_plain.specs.Decisions.{BelongsTo}
use Rattle.co_plain.specs.Federation.{Federation}
use Rattle.co_plain.specs.Opening.{opened}
use Rattle.co_plain.specs.Premises.{AreTrueVerdicts, AreOwn}
use Rattle.co_plain.specs.Runs.{run}
use Rattle.co_plain.specs.Step.{step}
use Rattle.co_plain.specs.declared.happening.Happening.{Happening}
use Rattle.co_cluster.specs.declared.doubting.Doubt.{Doubt}
use Rattle.co_law_coop.proofs.Handing.{true_consultation}
use Rattle.co_law_coop.proofs.Keeping.{Keeps, keeps_all, consultation_keeps, consultation_own, still_belongs}
use Rattle.co_settle.specs.Reached.{IsReached}
use Rattle.co_settle.proofs.Reaching.{ready}
use Rattle.co_coop.specs.Consulted.{told_of_doubt, consultation_of}
use Rattle.co_coop.specs.Resolution.{resolution, NameHomes, AreDoubts}
use Rattle.co_coop.specs.Turn.{is_verdict, others_to, asked_in_turn, doubt_turn}
use Rattle.co_coop.proofs.Asked.{reached_invariants, doubt_home}

-- ---- happenings behind happenings

pub run_behind : (hs more : List Happening) (s : Federation) → run (hs ++ more) s ≡ run more (run hs s)
run_behind [] more s = refl
run_behind (h ∷ hs) more s = run_behind hs more (step s h).state

pub true_behind : (hs more : List Happening) (s : Federation) → AreTrueVerdicts hs s → AreTrueVerdicts more (run hs s) → AreTrueVerdicts (hs ++ more) s
true_behind [] more s v w = w
true_behind (h ∷ hs) more s v w = (v.0, true_behind hs more (step s h).state v.1 w)

own_behind : (n k : ℕ) (hs more : List Happening) → AreOwn n k hs → AreOwn n k more → AreOwn n k (hs ++ more)
own_behind n k [] more o p = p
own_behind n k (h ∷ hs) more o p = (o.0, own_behind n k hs more o.1 p)

pub reached_run : (hs : List Happening) (s : Federation) (r : IsReached s) → AreTrueVerdicts hs s → ((n k : ℕ) → AreOwn n k hs) → IsReached (run hs s)
reached_run hs s r v o =
    record {
      kinds = r.kinds;
      coords = r.coords;
      found_member = r.found_member;
      found_coord = r.found_coord;
      happened = r.happened ++ hs;
      few_members = r.few_members;
      some_coord = r.some_coord;
      few_coords = r.few_coords;
      openable = r.openable;
      may = r.may;
      true_verdicts = true_behind r.happened hs s0 r.true_verdicts (subst (AreTrueVerdicts hs) (sym r.is) v);
      own = own_behind (length r.kinds) r.coords r.happened hs r.own (o (length r.kinds) r.coords);
      is = run_behind r.happened hs s0 ∙ ap (run hs) r.is;
    }
  where
    s0 : Federation
    s0 = opened r.kinds r.coords r.found_member r.found_coord

-- ---- one turn

asked_true : (s : Federation) → IsReached s → (doubt : Doubt) → BelongsTo s doubt.txn doubt.coord → (others : List ℕ) → AreTrueVerdicts (asked_in_turn s doubt others) s
asked_true s r doubt b [] = tt
asked_true s r doubt b (other ∷ others) = by (asked_true s r doubt b others) (is_verdict (told_of_doubt s doubt other))
  where
    by : AreTrueVerdicts (asked_in_turn s doubt others) s → (v : Bool) → AreTrueVerdicts (if v then consultation_of s doubt other else asked_in_turn s doubt others) s
    by rest false = rest
    by rest true = true_consultation (length s.kinds) s.coordinators s doubt.txn doubt.member doubt.coord other (reached_invariants s r) (ready s r).whole b

asked_own : (n k : ℕ) (s : Federation) (doubt : Doubt) (others : List ℕ) → AreOwn n k (asked_in_turn s doubt others)
asked_own n k s doubt [] = tt
asked_own n k s doubt (other ∷ others) = by (asked_own n k s doubt others) (is_verdict (told_of_doubt s doubt other))
  where
    by : AreOwn n k (asked_in_turn s doubt others) → (v : Bool) → AreOwn n k (if v then consultation_of s doubt other else asked_in_turn s doubt others)
    by rest false = rest
    by rest true = consultation_own n k s doubt.txn doubt.member doubt.coord other

asked_keeps : (s : Federation) (doubt : Doubt) (others : List ℕ) → Keeps s (run (asked_in_turn s doubt others) s)
asked_keeps s doubt [] = keeps_all s
asked_keeps s doubt (other ∷ others) = by (asked_keeps s doubt others) (is_verdict (told_of_doubt s doubt other))
  where
    by : Keeps s (run (asked_in_turn s doubt others) s) → (v : Bool) → Keeps s (run (if v then consultation_of s doubt other else asked_in_turn s doubt others) s)
    by rest false = rest
    by rest true = consultation_keeps s doubt.txn doubt.member doubt.coord other

pub turn_keeps : (s : Federation) (doubt : Doubt) → Keeps s (run (doubt_turn s doubt) s)
turn_keeps s doubt = asked_keeps s doubt (others_to (length s.kinds) doubt.member)

pub turn_reached : (s : Federation) → IsReached s → (doubt : Doubt) → BelongsTo s doubt.txn doubt.coord → IsReached (run (doubt_turn s doubt) s)
turn_reached s r doubt b =
    reached_run (doubt_turn s doubt) s r (asked_true s r doubt b (others_to (length s.kinds) doubt.member)) (λ n k. asked_own n k s doubt (others_to (length s.kinds) doubt.member))

-- ---- all turns

pub homes_on : (s z : Federation) → Keeps s z → (doubts : List Doubt) → NameHomes s doubts → NameHomes z doubts
homes_on s z k [] h = tt
homes_on s z k (doubt ∷ doubts) h = (still_belongs s z k doubt.txn doubt.coord h.0, homes_on s z k doubts h.1)

pub all_true : (s : Federation) (doubts : List Doubt) → IsReached s → NameHomes s doubts → AreTrueVerdicts (resolution s doubts) s
all_true s [] r h = tt
all_true s (doubt ∷ doubts) r h =
    let z = run (doubt_turn s doubt) s in
    true_behind (doubt_turn s doubt) (resolution z doubts) s (asked_true s r doubt h.0 (others_to (length s.kinds) doubt.member))
    (all_true z doubts (turn_reached s r doubt h.0) (homes_on s z (turn_keeps s doubt) doubts h.1))

pub all_own : (n k : ℕ) (s : Federation) (doubts : List Doubt) → AreOwn n k (resolution s doubts)
all_own n k s [] = tt
all_own n k s (doubt ∷ doubts) =
    own_behind n k (doubt_turn s doubt) (resolution (run (doubt_turn s doubt) s) doubts) (asked_own n k s doubt (others_to (length s.kinds) doubt.member)) (all_own n k (run (doubt_turn s doubt) s) doubts)

pub all_reach : (s : Federation) (doubts : List Doubt) → IsReached s → NameHomes s doubts → IsReached (run (resolution s doubts) s)
all_reach s doubts r h = reached_run (resolution s doubts) s r (all_true s doubts r h) (λ n k. all_own n k s doubts)

pub listed_homes : (s : Federation) (doubts : List Doubt) → IsReached s → AreDoubts s doubts → NameHomes s doubts
listed_homes s [] r h = tt
listed_homes s (doubt ∷ doubts) r h = (doubt_home s (reached_invariants s r) doubt h.0, listed_homes s doubts r h.1)
