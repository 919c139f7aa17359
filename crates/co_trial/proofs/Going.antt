-- How far a trial went: the events that were made, done and told.
use Rattle.std.proofs.Common.{◌≡◌, ℕ, suc, ◌+◌, ◌<◌, List, [], ◌∷◌, ◌++◌, length, Bool, true, false, ◌||◌, refl, sym, ap, ◌∙◌, subst, append_assoc, append-nil, arith}
use Rattle.std.specs.List.{AllByRecursion}
use Rattle.std.proofs.lemmas.Bool.{or_left, or_right}
use Rattle.std.proofs.lemmas.List.{length_push}
use Rattle.sha2.specs.Hashers.{Holds256}
use Rattle.co_base.specs.declared.head.Kind.{Kind}
use Rattle.co_make.specs.Making.{Making, making_of, next_event}
use Rattle.co_message.specs.declared.event.Event.{Event}
use Rattle.co_message.specs.declared.event.Event.TheVariants as event
use Rattle.co_message.specs.declared.item.Item.{Item}
use Rattle.co_message.specs.declared.item.ItemKind.TheVariants as item
use Rattle.co_message.specs.declared.message.Message.{Message}
use Rattle.co_message.specs.declared.message.Message.TheVariants as message
use Rattle.co_plain.specs.Federation.{Federation}
use Rattle.co_plain.specs.Runs.{run, lines, numbered, transcript}
use Rattle.co_plain.specs.Step.{step_line}
use Rattle.co_message.specs.Sent.{same_message}
use Rattle.co_plain.specs.Wire.{was_sent}
use Rattle.co_plain.specs.declared.happening.Happening.{Happening}
use Rattle.co_plain.specs.declared.happening.Happening.TheVariants as happening
use Rattle.co_replay.specs.Transcript.{items_text}
use Rattle.co_replay.proofs.Appended.{items_text-append}
use Rattle.co_schedule.specs.View.{IsEventFor}
use Rattle.co_state.specs.declared.engine_state.EngineState.{EngineState}
use Rattle.co_law.proofs.FreshLogs.{empty_openable}
use Rattle.co_law.proofs.GoingOn.{transcript_more, lines_true}
use Rattle.co_law_base.proofs.Lookups.{is_nothing, look_none}
use Rattle.co_plain.specs.Premises.{AreOwn, NamesOwnNode}
use Rattle.co_plain.specs.Numbers.{IsAmong}
use Rattle.co_law_runs.proofs.Agreement.{run_more}
use Rattle.co_law_runs.proofs.Fitting.{Fit, run_fits}
use Rattle.co_settle.specs.Reached.{IsReached}
use Rattle.co_settle.proofs.Reaching.{ready, sent_names, NamesCoord}
use Rattle.co_cluster.specs.Conditions.{IsReady}
use Rattle.co_world.specs.Standing.{RepresentsWorld}
use Rattle.co_world.specs.declared.world.World.{World}
use Rattle.co_law_node.specs.WholeCoords.{IsWholeCoord}
use Rattle.co_trial.specs.Decisions.{AreRun}
use Rattle.co_trial.specs.Making.{first_made, first_events}
use Rattle.co_trial.specs.Playing.{HasPlayed, HasGone}
use Rattle.co_trial.specs.Trials.{Opened, start_of}
use Rattle.co_trial.specs.declared.deciding.Decisions.{Decisions}
use Rattle.co_trial.specs.declared.tally.Told.{Told}
use Rattle.co_settle.specs.Notes.{IsForHead}
use Rattle.co_law_settle.proofs.Reaching.{sent_now}
use Rattle.co_trial.specs.Making.{HasFields, IsShort}
use Rattle.co_trial.proofs.Headed.{AreInHead, IsHeaded, line}
use Rattle.co_trial.proofs.InHead.{InHead}
use Rattle.co_trial.proofs.MakerFits.{Fits, next_fits, event_fits}
use Rattle.co_trial.proofs.ShortEvents.{next_short}

-- ---- lists of events

map_lines : (es : List Event) (e : Event) → lines (es ++ e ∷ []) ≡ lines es ++ lines (e ∷ [])
map_lines [] e = refl
map_lines (x ∷ xs) e = ap (λ (hs : List Happening). happening.Line x ∷ hs) (map_lines xs e)

run_one : (es : List Event) (e : Event) (s : Federation) → run (lines (es ++ e ∷ [])) s ≡ (step_line (run (lines es) s) e).state
run_one es e s = ap (λ hs. run hs s) (map_lines es e) ∙ run_more (lines es) (lines (e ∷ [])) s

text_one : (es : List Event) (e : Event) (s : Federation) → items_text (transcript 2 (es ++ e ∷ []) s) ≡ items_text (transcript 2 es s) ++ items_text (numbered (2 + length es) (item.Event e ∷ (step_line (run (lines es) s) e).items))
text_one es e s =
    let z = run (lines es) s in
    ap items_text (transcript_more 2 es (e ∷ []) s)
    ∙ items_text-append (transcript 2 es s) (transcript (2 + length es) (e ∷ []) z)
    ∙ ap (λ (is : List Item). items_text (transcript 2 es s) ++ items_text is) {y = numbered (2 + length es) (item.Event e ∷ (step_line z e).items)} (append-nil _)

one_more_has : (P : Event → Type 0) (es : List Event) (e : Event) → AllByRecursion P es → P e → AllByRecursion P (es ++ e ∷ [])
one_more_has P [] e all one = (one, tt)
one_more_has P (x ∷ xs) e all one = (all.0, one_more_has P xs e all.1 one)

names_own : (n k : ℕ) (e : Event) → IsEventFor n k e → NamesOwnNode n k e
names_own n k (event.Begin t c) h = h.1
names_own n k (event.Local t m) h = h.1
names_own n k (event.Read t m key) h = h.1
names_own n k (event.Write t m key value) h = h.1
names_own n k (event.Erase t m key) h = h.1
names_own n k (event.Scan t m span) h = h.1
names_own n k (event.Commit t) h = tt
names_own n k (event.Abort t) h = tt
names_own n k (event.Deliver note) h = tt
names_own n k (event.Vote t m) h = tt
names_own n k (event.Timer t at) h = tt
names_own n k (event.Ask t m) h = tt
names_own n k (event.Resend t c) h = tt
names_own n k (event.Crash at) h = tt
names_own n k (event.Restart at) h = tt
names_own n k (event.Arm at call leaves) h = tt
names_own n k (event.Checkpoint at) h = tt

pub all_own : (n k : ℕ) (es : List Event) → AllByRecursion (IsEventFor n k) es → AreOwn n k (lines es)
all_own n k [] h = tt
all_own n k (e ∷ es) h = (names_own n k e h.0, all_own n k es h.1)

-- each message that was sent
all_sent : (P : Message → Type 0) (sent : List Message) → ((note : Message) → was_sent sent note ≡ true → P note) → AllByRecursion P sent
all_sent P [] h = tt
all_sent P (n ∷ ns) h = (h n (first n), all_sent P ns (λ note q. h note (or_right (same_message n note) (was_sent ns note) q)))
  where
    only : (b : Bool) → (b || false) ≡ true → b ≡ true
    only true e = refl
    only false e = e

    first : (note : Message) → was_sent (note ∷ ns) note ≡ true
    first note = or_left (same_message note note) (was_sent ns note) (only (same_message note note) (sent_now [] note))

-- ---- every state of the run

module _ (o : Opened) where
  abbrev pub members : ℕ
  members = length o.head.kinds

  abbrev pub coords : ℕ
  coords = o.head.coords

  module _ (es : List Event) (valid : AllByRecursion (IsEventFor members coords) es) where
    abbrev pub z : Federation
    z = run (lines es) (start_of o)

    pub reached : IsReached z
    reached =
        record {
          kinds = o.head.kinds;
          coords = o.head.coords;
          found_member = o.found_member;
          found_coord = o.found_coord;
          happened = lines es;
          few_members = o.head.members;
          some_coord = o.head.some_coord;
          few_coords = o.head.coordinators;
          openable = empty_openable o.head.kinds o.head.coords o.found_member o.found_coord o.unused.members o.unused.coords;
          may = o.may;
          true_verdicts = lines_true es (start_of o);
          own = all_own members coords es valid;
          is = refl;
        }

    fit : Fit members coords (start_of o) z
    fit = run_fits members coords (lines es) (start_of o) (λ u other h. is_nothing (sym (look_none u) ∙ h)) (all_own members coords es valid)

    pub kinds_same : z.kinds ≡ o.head.kinds
    kinds_same = fit.kinds

    pub coords_same : z.coordinators ≡ o.head.coords
    coords_same = fit.coordinators

    named : (note : Message) → was_sent z.sent note ≡ true → NamesCoord z reached note
    named note h = sent_names z reached note h

    headed : AreInHead members coords z → IsHeaded members coords z
    headed sent =
        record {
          sent = sent;
          decisions = λ t c m commit h. subst (IsAmong c) coords_same (named (message.Decide t c m commit) h);
          sessions = fit.sessions;
          coord = λ c. subst (λ ks. IsWholeCoord (length ks) (z.coord c)) kinds_same ((ready z reached).whole.coord c);
        }

    pub next_in_head : (e : Event) → AreInHead members coords z → IsEventFor members coords e → AreInHead members coords (run (lines (es ++ e ∷ [])) (start_of o))
    next_in_head e sent h = subst (AreInHead members coords) (sym (run_one es e (start_of o))) (line members coords z (headed sent) e h)

  -- ---- one more event

  -- these events were made, done and told
  pub record IsGoing {E : Type 0} (takes : Kind → Type 0) (stands_for : E → EngineState → Type 0) (es : List Event) (making : Making) (place : ℕ) (before after : Told) (d : Decisions) (maker : Making) (w : World E) : Type 0 where
    pub making_is : maker ≡ making
    pub stands : RepresentsWorld takes stands_for w (run (lines es) (start_of o))
    pub told : (text : List ℕ) → Holds256 before.hasher text → Holds256 after.hasher (text ++ items_text (transcript 2 es (start_of o)))
    pub decided : AreRun (start_of o) d (run (lines es) (start_of o)).decided
    pub valid : AllByRecursion (IsEventFor members coords) es
    pub short : AllByRecursion IsShort es
    pub headed : AreInHead members coords (run (lines es) (start_of o))
    pub made : maker.made ≡ place
    pub long : length es ≡ place

  abbrev pub GoesTo : {E : Type 0} → (Kind → Type 0) → (E → EngineState → Type 0) → ℕ → ℕ → Told → Told → Decisions → Making → World E → Type 0
  GoesTo takes stands_for number place before after d maker w =
      IsGoing takes stands_for (first_events (start_of o) number place) (first_made (start_of o) number place).making place before after d maker w

  module _ {E : Type 0} (takes : Kind → Type 0) (stands_for : E → EngineState → Type 0) (number : ℕ) where
    pub going_none : (told : Told) (d : Decisions) (maker : Making) (w : World E) → maker ≡ making_of number → RepresentsWorld takes stands_for w (start_of o) → AreRun (start_of o) d (start_of o).decided →
        GoesTo takes stands_for number 0 told told d maker w
    going_none told d maker w is stands run =
        record {
          making_is = is;
          stands = stands;
          told = λ text h. subst (Holds256 told.hasher) (sym (append-nil text)) h;
          decided = run;
          valid = tt;
          short = tt;
          headed = λ note h. absurd (let q : false ≡ true = h in cc);
          made = ap (λ m. m.made) is;
          long = refl;
        }

    pub goes : (place : ℕ) (before after : Told) (d : Decisions) (maker : Making) (w : World E) → GoesTo takes stands_for number place before after d maker w → HasGone takes stands_for o number place before after d w
    goes place before after d maker w g = record { stands = g.stands; told = g.told; decided = g.decided; valid = g.valid; short = g.short; long = g.long }

    module _ (place : ℕ) (before after : Told) (d : Decisions) (maker : Making) (w : World E) (g : GoesTo takes stands_for number place before after d maker w) where
      abbrev pub es : List Event
      es = first_events (start_of o) number place

      abbrev pub here : Federation
      here = run (lines es) (start_of o)

      pub is_ready : IsReady here
      is_ready = ready here (reached es g.valid)

      -- messages are for nodes of the head
      for_head : (note : Message) → was_sent here.sent note ≡ true → IsForHead 3 2 note
      for_head note h = by note (g.headed note h) (named es g.valid note h)
        where
          three : members ≡ 3
          three = ap length o.kinds

          m_of : (m : ℕ) → IsAmong m members → IsAmong m 3
          m_of m h = subst (IsAmong m) three h

          c_of : (c : ℕ) → IsAmong c here.coordinators → IsAmong c 2
          c_of c h = subst (IsAmong c) (coords_same es g.valid ∙ o.coords) h

          by : (note : Message) → InHead members coords note → NamesCoord here (reached es g.valid) note → IsForHead 3 2 note
          by (message.Prepare t c m count) h k = (m_of m h, c_of c k)
          by (message.Vote t m c granted) h k = (m_of m h, c_of c k)
          by (message.Decide t c m commit) h k = (m_of m h, c_of c k)
          by (message.Ask t m c) h k = (m_of m h, c_of c k)
          by (message.Ack t m c) h k = (m_of m h.0, subst (IsAmong c) o.coords h.1)

      module _ (e : Event) (next : Making) (is : (e, next) ≡ next_event w.wire maker) (fields : HasFields e) where
        step_is : (e, next) ≡ next_event here.sent (first_made (start_of o) number place).making
        step_is = is ∙ ap (λ sent. next_event sent maker) g.stands.wire ∙ ap (next_event here.sent) g.making_is

        fits : Fits (maker.made + 1) (e, next)
        fits = subst (Fits (maker.made + 1)) (sym (is ∙ ap (λ sent. next_event sent maker) g.stands.wire)) (next_fits here.sent maker (all_sent (IsForHead 3 2) here.sent for_head))

        event_for : IsEventFor members coords e
        event_for = subst (λ n. IsEventFor n coords e) (sym (ap length o.kinds)) (subst (λ k. IsEventFor 3 k e) (sym o.coords) (event_fits e fields fits.0))

        pub may_play : IsEventFor (length w.cluster.members.items) (length w.cluster.coords.items) e
        may_play =
            subst (λ n. IsEventFor n (length w.cluster.coords.items) e) (sym (g.stands.cluster.kinds ∙ ap length (kinds_same es g.valid)))
            (subst (λ k. IsEventFor members k e) (sym (g.stands.cluster.coordinators ∙ coords_same es g.valid)) event_for)

        pub short_next : place < 60000 → IsShort e
        short_next few = subst IsShort (sym (ap (λ p. p.0) is)) (next_short w.wire maker (omega (arith, few, g.made)))

        pub goes_on : (now : Told) (new : Decisions) (x : World E) → place < 60000 → HasPlayed takes stands_for here (place + 2) e after now d new x → GoesTo takes stands_for number (place + 1) before now new next x
        goes_on now new x few p =
            subst (λ n. GoesTo takes stands_for number n before now new next x) (let q : suc place ≡ place + 1 = omega arith in q)
            (subst (λ q. IsGoing takes stands_for (es ++ q.0 ∷ []) q.1 (suc place) before now new next x) step_is one)
          where
            one : IsGoing takes stands_for (es ++ e ∷ []) next (suc place) before now new next x
            one =
                record {
                  making_is = refl;
                  stands = subst (RepresentsWorld takes stands_for x) (sym (run_one es e (start_of o))) p.stands;
                  told = λ text h. subst (Holds256 now.hasher) (append_assoc text (items_text (transcript 2 es (start_of o))) _ ∙ ap (λ t. text ++ t) (ap (λ n. items_text (transcript 2 es (start_of o)) ++ items_text (numbered n (item.Event e ∷ (step_line here e).items))) count ∙ sym (text_one es e (start_of o)))) (p.told (text ++ items_text (transcript 2 es (start_of o))) (g.told text h));
                  decided = subst (λ z. AreRun (start_of o) new z.decided) (sym (run_one es e (start_of o))) (p.decided (start_of o) g.decided);
                  valid = one_more_has (IsEventFor members coords) es e g.valid event_for;
                  short = one_more_has IsShort es e g.short (short_next few);
                  headed = next_in_head es g.valid e g.headed event_for;
                  made = fits.1 ∙ (let q : maker.made + 1 ≡ suc place = omega (arith, g.made) in q);
                  long = length_push es e ∙ (let q : length es + 1 ≡ suc place = omega (arith, g.long) in q);
                }
              where
                count : place + 2 ≡ 2 + length es
                count = omega (arith, g.long)
