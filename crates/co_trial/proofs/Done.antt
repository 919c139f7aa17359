-- A trial at its end.
use Rattle.std.proofs.Common.{◌≡◌, ℕ, suc, ◌+◌, ◌≤◌, List, [], ◌∷◌, ◌++◌, length, refl, sym, ap, ◌∙◌, subst, arith}
use Rattle.std.specs.List.{AllByRecursion, Contains}
use Rattle.co_message.specs.declared.event.Event.{Event}
use Rattle.co_message.specs.declared.event.Event.TheVariants as event
use Rattle.co_plain.specs.DurableRecords.{durable_in}
use Rattle.co_plain.specs.Federation.{Federation}
use Rattle.co_plain.specs.Promises.{serial_records}
use Rattle.co_plain.specs.Quiet.{open_count}
use Rattle.co_plain.specs.Runs.{run, lines, transcript}
use Rattle.co_plain.specs.Step.{disarmed}
use Rattle.co_plain.specs.declared.happening.Happening.{Happening}
use Rattle.co_plain.specs.declared.happening.Happening.TheVariants as happening
use Rattle.co_replay.specs.Transcript.{items_text}
use Rattle.co_replay.proofs.Appended.{items_text-append}
use Rattle.co_schedule.specs.View.{IsEventFor}
use Rattle.co_law.proofs.EveryRun.{every_log}
use Rattle.co_law.proofs.FreshLogs.{empty_openable}
use Rattle.co_law.proofs.GoingOn.{lines_true}
use Rattle.co_plain.specs.Premises.{AreTrueVerdicts, AreOwn, NamesOwnNode}
use Rattle.co_law_runs.proofs.Agreement.{run_more}
use Rattle.co_law_settle.specs.SettlingTurns.{Settles}
use Rattle.co_settle.specs.Reached.{IsReached}
use Rattle.co_settle.proofs.Few.{fresh_few}
use Rattle.co_settle.proofs.Reaching.{kinds_are}
use Rattle.co_trial.specs.Making.{first_events}
use Rattle.co_trial.specs.Trials.{Opened, start_of, opening_told, played_to, settled_to, trial_items}
use Rattle.co_trial.proofs.Going.{reached, all_own}
use Rattle.co_trial.proofs.KeptSessions.{IsSettlingEvent, AreSettlingEvents, of_settling}

names_none : (n k : ℕ) (e : Event) → IsSettlingEvent e → NamesOwnNode n k e
names_none n k (event.Deliver note) h = tt
names_none n k (event.Vote t m) h = tt
names_none n k (event.Timer t at) h = tt
names_none n k (event.Ask t m) h = tt
names_none n k (event.Resend t c) h = tt
names_none n k (event.Restart at) h = tt
names_none n k (event.Begin t c) h = absurd h
names_none n k (event.Local t m) h = absurd h
names_none n k (event.Read t m key) h = absurd h
names_none n k (event.Write t m key value) h = absurd h
names_none n k (event.Erase t m key) h = absurd h
names_none n k (event.Scan t m span) h = absurd h
names_none n k (event.Commit t) h = absurd h
names_none n k (event.Abort t) h = absurd h
names_none n k (event.Crash at) h = absurd h
names_none n k (event.Arm at call leaves) h = absurd h
names_none n k (event.Checkpoint at) h = absurd h

settling_own : (n k : ℕ) (es : List Event) → AreSettlingEvents es → AreOwn n k (lines es)
settling_own n k [] h = tt
settling_own n k (e ∷ es) h = (names_none n k e h.0, settling_own n k es h.1)

both_own : (n k : ℕ) (hs gs : List Happening) → AreOwn n k hs → AreOwn n k gs → AreOwn n k (hs ++ gs)
both_own n k [] gs h g = g
both_own n k (x ∷ hs) gs h g = (h.0, both_own n k hs gs h.1 g)

both_true : (hs gs : List Happening) (s : Federation) → AreTrueVerdicts hs s → AreTrueVerdicts gs (run hs s) → AreTrueVerdicts (hs ++ gs) s
both_true [] gs s h g = g
both_true (x ∷ hs) gs s h g = (h.0, both_true hs gs _ h.1 g)

-- lists in which nothing is
pub nothing_in : (xs : List ℕ) → ((t : ℕ) → Contains xs t → ⊥) → length xs ≡ 0
nothing_in [] h = refl
nothing_in (x ∷ xs) h = absurd (h x (0, omega arith, refl))

module _ (o : Opened) (number count : ℕ) (valid : AllByRecursion (IsEventFor (length o.head.kinds) o.head.coords) (first_events (start_of o) number count)) where
  pub at_end : IsReached (played_to o number count)
  at_end = reached o (first_events (start_of o) number count) valid

  pub few_open : length (first_events (start_of o) number count) ≡ count → count ≤ 60000 → open_count (played_to o number count) ≤ 65536
  few_open long few =
      let most = fresh_few o.head.kinds o.head.coords o.found_member o.found_coord o.unused (first_events (start_of o) number count) at_end in
      omega (arith, most, long, few)

  module _ (settling : List Event) (settles : Settles (played_to o number count) settling) where
    abbrev happened : List Happening
    happened = lines (first_events (start_of o) number count) ++ happening.Disarm ∷ lines settling

    same : run happened (start_of o) ≡ settled_to o number count settling
    same = run_more (lines (first_events (start_of o) number count)) (happening.Disarm ∷ lines settling) (start_of o)

    verdicts : AreTrueVerdicts happened (start_of o)
    verdicts = both_true (lines (first_events (start_of o) number count)) (happening.Disarm ∷ lines settling) (start_of o) (lines_true (first_events (start_of o) number count) (start_of o)) (tt, lines_true settling (disarmed (played_to o number count)))

    pub reached_settled : IsReached (settled_to o number count settling)
    reached_settled =
        record {
          kinds = o.head.kinds;
          coords = o.head.coords;
          found_member = o.found_member;
          found_coord = o.found_coord;
          happened = happened;
          few_members = o.head.members;
          some_coord = o.head.some_coord;
          few_coords = o.head.coordinators;
          openable = empty_openable o.head.kinds o.head.coords o.found_member o.found_coord o.unused.members o.unused.coords;
          may = o.may;
          true_verdicts = verdicts;
          own = both_own (length o.head.kinds) o.head.coords (lines (first_events (start_of o) number count)) (happening.Disarm ∷ lines settling)
              (all_own (length o.head.kinds) o.head.coords (first_events (start_of o) number count) valid)
              (tt, settling_own (length o.head.kinds) o.head.coords settling (of_settling (played_to o number count) settling settles.settling));
          is = same;
        }

    pub kinds_settled : (settled_to o number count settling).kinds ≡ o.head.kinds
    unfolding reached_settled
    kinds_settled = kinds_are (settled_to o number count settling) reached_settled

    -- the logs alone give what the decided transactions leave
    pub alone : durable_in (settled_to o number count settling) ≡ serial_records (start_of o) (settled_to o number count settling).decided
    alone = λ i m. subst (λ z. durable_in z m ≡ serial_records (start_of o) z.decided m) same
        (every_log o.head.kinds o.head.coords o.found_member o.found_coord happened (empty_openable o.head.kinds o.head.coords o.found_member o.found_coord o.unused.members o.unused.coords) verdicts m) i

-- the text of the whole transcript
pub whole_text : (o : Opened) (number count : ℕ) (settling : List Event) →
    (items_text (opening_told o) ++ items_text (transcript 2 (first_events (start_of o) number count) (start_of o))) ++ items_text (transcript (suc (count + 1)) settling (disarmed (played_to o number count)))
    ≡ items_text (trial_items o number count settling)
whole_text o number count settling =
    let a = opening_told o in
    let b = transcript 2 (first_events (start_of o) number count) (start_of o) in
    let c = transcript (suc (count + 1)) settling (disarmed (played_to o number count)) in
    ap (λ t. t ++ items_text c) (sym (items_text-append a b)) ∙ sym (items_text-append (a ++ b) c)
