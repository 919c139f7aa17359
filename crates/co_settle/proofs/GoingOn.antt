-- How settling goes on, turn by turn, and how it ends.
use Rattle.std.proofs.Common.{◌≡◌, ℕ, suc, ◌≤◌, Bool, true, false, List, [], ◌∷◌, ◌++◌, length, Option, None, Some, Result, Ok, Err, refl, sym, subst, append-nil, arith}
use Rattle.std.specs.Result.{IsErr, IsErrAnd}
use Rattle.std.proofs.lemmas.List.{length-append}
use Rattle.co_base.specs.declared.head.Kind.{Kind}
use Rattle.co_durable.specs.declared.fault.WorldFault.{WorldFault}
use Rattle.co_durable.specs.declared.fault.WorldFault.TheVariants as world
use Rattle.co_message.specs.declared.event.Event.{Event}
use Rattle.co_message.specs.declared.event.Event.TheVariants as event
use Rattle.co_message.specs.declared.item.Item.{Item}
use Rattle.co_message.specs.declared.message.Message.{Message}
use Rattle.co_outside.specs.Home.{File, HomeView}
use Rattle.co_outside.specs.declared.spot.Spot.{Spot}
use Rattle.co_plain.specs.Federation.{Federation, Stepped}
use Rattle.co_plain.specs.MemberView.{Numbers}
use Rattle.co_plain.specs.Quiet.{Exchange, Prepares, Votes, Commits, Asks, open_count, settling_bound, IsBusy}
use Rattle.co_plain.specs.Runs.{run, lines}
use Rattle.co_plain.specs.Step.{step_line, disarmed}
use Rattle.co_state.specs.declared.engine_state.EngineState.{EngineState}
use Rattle.co_law_settle.proofs.Settled.{goes_on, bounded, settling_wakes}
use Rattle.co_law_settle.specs.SettlingTurns.{Turn, Restarts, Exchanges, Fires, turn_events, first_event, wanted, deliveries, delivers, note_in, after_turn, IsNext, IsSettling, SomethingOpen, NothingOpen}
use Rattle.co_world.proofs.Nodes.{held_left}
use Rattle.co_world.specs.Standing.{AreServed, RepresentsWorld, AreHeld}
use Rattle.co_world.specs.declared.world.World.{World}
use Rattle.co_settle.specs.Busy.{AreKnown}
use Rattle.co_settle.specs.Progress.{HasDone, IsCutIn, HasEnded, EndsAs}
use Rattle.co_settle.specs.Reached.{IsReached}
use Rattle.co_settle.specs.Settled.{HasSettled, IsCutShort, SettlesAs}
use Rattle.co_settle.specs.Turning.{TakesTurn}
use Rattle.co_settle.specs.declared.counting.Steps.{Steps}
use Rattle.co_settle.specs.declared.telling.Told.{Told}
use Rattle.co_settle.proofs.Bounded.{few_settling}
use Rattle.co_settle.proofs.Composing.{cut_later, done_none, done_more, run_on}
use Rattle.co_settle.proofs.Reaching.{NamesNoNode, reached_next, reached_disarmed, own_logs}

-- ---- the events of a turn name no node anew

abbrev AllNameNone : List Event → Type 0
AllNameNone [] = Unit {0}
AllNameNone (e ∷ es) = NamesNoNode e × AllNameNone es

reached_all : (es : List Event) (s : Federation) → AllNameNone es → IsReached s → IsReached (run (lines es) s)
reached_all [] s none r = r
reached_all (e ∷ es) s none r = reached_all es (step_line s e).state none.1 (reached_next s e r none.0)

delivered_none : (tests : List (Message → Bool)) (z : Stepped) → AllNameNone (deliveries tests z)
delivered_none [] z = tt
delivered_none (test ∷ tests) z = by (λ note. delivered_none tests (step_line z.state (event.Deliver note))) (note_in test z.items)
  where
    by : ((note : Message) → AllNameNone (deliveries tests (step_line z.state (event.Deliver note)))) → (o : Option Message) → AllNameNone (delivers o (λ note. deliveries tests (step_line z.state (event.Deliver note))))
    by rest None = tt
    by rest (Some note) = (λ n k. tt, rest note)

first_none : (e : Exchange) → NamesNoNode (first_event e)
first_none (Prepares t m c) n k = tt
first_none (Votes t m) n k = tt
first_none (Commits t m c) n k = tt
first_none (Asks t m c) n k = tt

turn_none : (s : Federation) (turn : Turn) → AllNameNone (turn_events s turn)
turn_none s (Restarts at) = (λ n k. tt, tt)
turn_none s (Exchanges e) = (first_none e, delivered_none (wanted e) (step_line s (first_event e)))
turn_none s (Fires t at) = (λ n k. tt, tt)

turn_some : (s : Federation) (turn : Turn) → 1 ≤ length (turn_events s turn)
turn_some s (Restarts at) = omega arith
turn_some s (Exchanges e) = omega arith
turn_some s (Fires t at) = omega arith

-- ---- the candidates have what is busy, as long as no other one becomes busy

known_on : (s z : Federation) (candidates : Option Numbers) → ((t : ℕ) → IsBusy z t → IsBusy s t) → AreKnown s candidates → AreKnown z candidates
known_on s z None wakes known = tt
known_on s z (Some numbers) wakes known = λ t busy. known t (wakes t busy)

-- ---- how far settling came

abbrev pub told_first : ℕ → Told
told_first number = record { number = number; items = [] }

pub record IsGoing {E : Type 0} (takes : Kind → Type 0) (stands_for : E → EngineState → Type 0) (s : Federation) (number : ℕ) (told : Told) (before steps : Steps) (w : World E) (candidates : Option Numbers) (turns : ℕ) : Type 0 where
  pub events : List Event
  pub settling : IsSettling s events
  pub done : HasDone takes stands_for (disarmed s) events (told_first number) told before steps w
  pub reached : IsReached (run (lines events) (disarmed s))
  pub busy : AreKnown (run (lines events) (disarmed s)) candidates
  pub counted : turns ≤ length events

module _ {E : Type 0} (takes : Kind → Type 0) (stands_for : E → EngineState → Type 0) (s : Federation) (r : IsReached s) (few : open_count s ≤ 65536) where
  pub starts : (number : ℕ) (steps : Steps) (w : World E) → RepresentsWorld takes stands_for w (disarmed s) → IsGoing takes stands_for s number (told_first number) steps steps w None 0
  starts number steps w stands =
      record {
        events = [];
        settling = record { turns = []; goes = tt; same = refl };
        done = done_none takes stands_for (disarmed s) (told_first number) steps w stands;
        reached = reached_disarmed s r;
        busy = tt;
        counted = omega arith;
      }

  -- its events are no more than their bound
  pub most : (events : List Event) → IsSettling s events → length events ≤ settling_bound s
  most events settling =
      subst (λ z. length events ≤ settling_bound z) r.is
      (bounded r.kinds r.coords r.found_member r.found_coord r.happened r.openable (own_logs s r) r.true_verdicts r.own r.few_members r.few_coords events (subst (λ z. IsSettling z events) (sym r.is) settling))

  pub short : {candidates : Option Numbers} (number : ℕ) (told : Told) (before steps : Steps) (w : World E) (turns : ℕ) (going : IsGoing takes stands_for s number told before steps w candidates turns) → length going.events ≤ 13172760
  short number told before steps w turns going = let a = most going.events going.settling in let b = few_settling s r few in omega (arith, a, b)

  -- no turn makes a transaction busy
  wakes_none : (events : List Event) → IsSettling s events → (turn : Turn) → IsNext (run (lines events) (disarmed s)) turn → (t : ℕ) → IsBusy (run (lines (events ++ turn_events (run (lines events) (disarmed s)) turn)) (disarmed s)) t →
      IsBusy (run (lines events) (disarmed s)) t
  wakes_none events settling turn next t busy =
      subst (λ z. IsNext (run (lines events) (disarmed z)) turn → IsBusy (after_turn (run (lines events) (disarmed z)) turn) t → IsBusy (run (lines events) (disarmed z)) t) r.is
      (λ n. settling_wakes r.kinds r.coords r.found_member r.found_coord r.happened r.openable (own_logs s r) r.true_verdicts r.own events (subst (λ z. IsSettling z events) (sym r.is) settling) turn n t) next
      (subst (λ z. IsBusy z t) (run_on events (turn_events (run (lines events) (disarmed s)) turn) (disarmed s)) busy)

  -- a turn that was taken
  pub turned : {old : Option Numbers} (candidates : Option Numbers) (number : ℕ) (told next : Told) (before steps after : Steps) (w x : World E) (turns : ℕ) (going : IsGoing takes stands_for s number told before steps w old turns) (file : Spot → Option File) →
      SomethingOpen (run (lines going.events) (disarmed s)) → TakesTurn takes stands_for (run (lines going.events) (disarmed s)) told next steps after x file (Ok tt) →
      AreKnown (run (lines going.events) (disarmed s)) candidates → IsGoing takes stands_for s number next before after x candidates (suc turns)
  turned candidates number told next before steps after w x turns going file some taken known =
      let z = run (lines going.events) (disarmed s) in
      let es = turn_events z taken.0 in
      record {
        events = going.events ++ es;
        settling = goes_on s going.events taken.0 going.settling some taken.1;
        done = done_more takes stands_for (disarmed s) going.events es (told_first number) told next before steps after w x going.done taken.2.0;
        reached = subst IsReached (sym (run_on going.events es (disarmed s))) (reached_all es z (turn_none z taken.0) going.reached);
        busy = known_on (run (lines going.events) (disarmed s)) (run (lines (going.events ++ es)) (disarmed s)) candidates (wakes_none going.events going.settling taken.0 taken.1) known;
        counted = let a = going.counted in let b = turn_some z taken.0 in let l = length-append going.events es in omega (arith, a, b, l);
      }

  -- a turn that a fault cut short
  pub cut_turn : {candidates : Option Numbers} (number : ℕ) (told next : Told) (before steps after : Steps) (w x : World E) (turns : ℕ) (going : IsGoing takes stands_for s number told before steps w candidates turns) (file : Spot → Option File) (fault : WorldFault) →
      SomethingOpen (run (lines going.events) (disarmed s)) → TakesTurn takes stands_for (run (lines going.events) (disarmed s)) told next steps after x file (Err fault) → IsCutShort s file fault
  cut_turn number told next before steps after w x turns going file fault some taken =
      let z = run (lines going.events) (disarmed s) in
      let es = turn_events z taken.0 in
      record {
        events = going.events ++ es;
        settling = goes_on s going.events taken.0 going.settling some taken.1;
        cut = cut_later going.events es (disarmed s) file fault taken.2;
      }

  -- a fault between two turns
  pub cut_between : {candidates : Option Numbers} (number : ℕ) (told : Told) (before steps : Steps) (w : World E) (turns : ℕ) (going : IsGoing takes stands_for s number told before steps w candidates turns) (home : HomeView) → AreHeld home w → IsCutShort s home.file world.Memory
  cut_between number told before steps w turns going home held =
      record {
        events = going.events;
        settling = going.settling;
        cut = subst (λ es. IsCutIn es (disarmed s) home.file world.Memory) (append-nil going.events)
            (cut_later going.events [] (disarmed s) home.file world.Memory (held_left takes stands_for w (run (lines going.events) (disarmed s)) home going.done.stands held, refl));
      }

  -- nothing is open any more
  pub settles : {candidates : Option Numbers} (number : ℕ) (told : Told) (before steps : Steps) (w : World E) (turns : ℕ) (going : IsGoing takes stands_for s number told before steps w candidates turns) → NothingOpen (run (lines going.events) (disarmed s)) →
      HasSettled takes stands_for s number before.count told.items w steps.count
  settles number told before steps w turns going none =
      record {
        events = going.events;
        settles = record { settling = going.settling; done = none };
        bounded = most going.events going.settling;
        told = going.done.items;
        counted = going.done.counted;
        stands = going.done.stands;
      }

  pub cut_as : (number before : ℕ) (w : World E) (after : ℕ) (file : Spot → Option File) (result : Result (List Item) WorldFault) → (fault : WorldFault) → IsErr result × IsErrAnd result (λ f. f ≡ fault) → IsCutShort s file fault → SettlesAs takes stands_for s number before w after file result
  cut_as number before w after file (Ok items) fault is h = absurd (let z : false ≡ true = is.0 in cc)
  cut_as number before w after file (Err f) fault is h = subst (IsCutShort s file) (sym is.1) h

-- ---- the directory

pub wants_memory : {A E : Type 0} (w x : World E) (old mid : HomeView) (result : Result A WorldFault) → IsErr result × IsErrAnd result (λ f. f ≡ world.Memory) → AreServed x old mid → EndsAs w old mid result
wants_memory w x old mid (Ok a) h served = absurd (let z : false ≡ true = h.0 in cc)
wants_memory w x old mid (Err fault) h served = subst (λ f. HasEnded f old mid) (sym h.1) served.quiet
