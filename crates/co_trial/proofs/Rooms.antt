-- Every event of a trial has room: of those that the maker makes, and of those that settle it.
use Rattle.std.proofs.Common.{◌≡◌, inl, inr, ℕ, ◌+◌, ◌≤◌, ◌<◌, List, [], ◌∷◌, ◌++◌, length, Option, refl, sym, ap, ◌∙◌, subst, arith}
use Rattle.std.proofs.lemmas.List.{length_push}
use Rattle.std.specs.List.{AllByRecursion}
use Rattle.co_base.specs.declared.head.Kind.{Kind}
use Rattle.co_durable.specs.declared.fault.WorldFault.TheVariants as world
use Rattle.co_log.specs.Sizes.{log_bytes}
use Rattle.co_message.specs.declared.event.Event.{Event}
use Rattle.co_message.specs.declared.event.Event.TheVariants as event
use Rattle.co_node.specs.Sizes.{IsOverlong}
use Rattle.co_outside.specs.Home.{File}
use Rattle.co_outside.specs.declared.spot.Spot.{Spot}
use Rattle.co_plain.specs.Federation.{Federation}
use Rattle.co_plain.specs.LogWrite.{generation_of}
use Rattle.co_plain.specs.Runs.{run, lines}
use Rattle.co_plain.specs.Step.{step_line, disarmed}
use Rattle.co_plain.specs.declared.happening.Happening.{Happening}
use Rattle.co_plain.specs.declared.happening.Happening.TheVariants.{Line, Disarm}
use Rattle.co_record.specs.declared.record.Record.{Record}
use Rattle.co_state.specs.declared.engine_state.EngineState.{EngineState}
use Rattle.co_law_runs.proofs.Agreement.{run_more}
use Rattle.co_law_settle.specs.SettlingTurns.{IsSettling}
use Rattle.co_law_sizes.specs.LogRoom.{happening_bytes, room, most_generation, AreWithin}
use Rattle.co_law_sizes.proofs.Runs.{next_within, room_most, generation_most}
use Rattle.co_settle.specs.Progress.{IsCutIn}
use Rattle.co_settle.specs.Settled.{IsCutShort}
use Rattle.co_settle.proofs.Bounded.{most_settling}
use Rattle.co_settle.proofs.GoingOn.{most}
use Rattle.co_cluster.specs.Left.{HasOverlong, OverlongMember, OverlongCoord}
use Rattle.co_world.specs.declared.world.World.{World}
use Rattle.co_trial.specs.Making.{IsShort, first_events}
use Rattle.co_trial.specs.Playing.{HasRoom, HasGone}
use Rattle.co_trial.specs.Trials.{Opened, most_trial_events, start_of, played_to}
use Rattle.co_trial.specs.declared.deciding.Decisions.{Decisions}
use Rattle.co_trial.specs.declared.tally.Told.{Told}
use Rattle.co_trial.proofs.Done.{at_end, few_open}
use Rattle.co_trial.proofs.Going.{kinds_same}
use Rattle.co_trial.proofs.KeptSessions.{IsSettlingEvent, AreSettlingEvents, of_settling}

-- ---- short happenings

abbrev IsBrief : Happening → Type 0
IsBrief h = happening_bytes h ≤ 13

abbrev AreBrief : List Happening → Type 0
AreBrief = AllByRecursion IsBrief

both_brief : (hs more : List Happening) → AreBrief hs → AreBrief more → AreBrief (hs ++ more)
both_brief [] more a b = b
both_brief (h ∷ hs) more a b = (a.0, both_brief hs more a.1 b)

brief_lines : (es : List Event) → AllByRecursion IsShort es → AreBrief (lines es)
brief_lines [] a = tt
brief_lines (e ∷ es) a = (a.0, brief_lines es a.1)

as_long : (es : List Event) → length (lines es) ≡ length es
as_long [] = refl
as_long (x ∷ xs) = omega (arith, as_long xs)

settling_short : (e : Event) → IsSettlingEvent e → IsShort e
settling_short (event.Deliver note) h = omega arith
settling_short (event.Vote t m) h = omega arith
settling_short (event.Timer t at) h = omega arith
settling_short (event.Ask t m) h = omega arith
settling_short (event.Resend t c) h = omega arith
settling_short (event.Restart at) h = omega arith
settling_short (event.Begin t c) h = absurd h
settling_short (event.Local t m) h = absurd h
settling_short (event.Read t m key) h = absurd h
settling_short (event.Write t m key value) h = absurd h
settling_short (event.Erase t m key) h = absurd h
settling_short (event.Scan t m span) h = absurd h
settling_short (event.Commit t) h = absurd h
settling_short (event.Abort t) h = absurd h
settling_short (event.Crash at) h = absurd h
settling_short (event.Arm at call leaves) h = absurd h
settling_short (event.Checkpoint at) h = absurd h

-- ---- logs within their room

not_overlong : (records : List Record) (bytes generation : ℕ) → log_bytes records ≤ bytes → generation_of records ≤ generation → bytes ≤ 268435456 → generation < 4294967295 → IsOverlong records → ⊥
not_overlong records bytes generation b g few low (inl long) = omega (arith, b, few, long)
not_overlong records bytes generation b g few low (inr last) = omega (arith, g, low, last)

none_overlong : (bytes generation : ℕ) (s : Federation) → AreWithin bytes generation s → bytes ≤ 268435456 → generation < 4294967295 → (spot : Spot) → HasOverlong s spot → ⊥
none_overlong bytes generation s w few low spot (OverlongMember m from to long own) = not_overlong (s.member m).log.stable bytes generation (w.member_bytes m) (w.member_generations m) few low long
none_overlong bytes generation s w few low spot (OverlongCoord c from to long own) = not_overlong (s.coord c).log.stable bytes generation (w.coord_bytes c) (w.coord_generations c) few low long

module _ (o : Opened) where
  -- behind few short happenings one more event has room
  next_has_room : (hs : List Happening) (e : Event) → AreBrief hs → IsShort e → length hs ≤ 3100000 → HasRoom (run hs (start_of o)) e
  next_has_room hs e brief short few =
      let all : List Happening = Disarm ∷ Line e ∷ hs in
      let bytes = room_most 13 all (omega arith, (short, brief)) in
      let generations = generation_most all in
      none_overlong (room all) (most_generation all) (step_line (disarmed (run hs (start_of o))) e).state
      (next_within o.head.kinds o.head.coords o.found_member o.found_coord hs e o.unused.members o.unused.coords)
      (omega (arith, bytes, few)) (omega (arith, generations, few))

  pub line_has_room : (es : List Event) (e : Event) → AllByRecursion IsShort es → IsShort e → length es ≤ most_trial_events → HasRoom (run (lines es) (start_of o)) e
  line_has_room es e all short few = next_has_room (lines es) e (brief_lines es all) short (omega (arith, few, as_long es))

  -- so has each event of settling
  never_full : (hs : List Happening) (es : List Event) (file : Spot → Option File) (spot : Spot) → AreBrief hs → AreSettlingEvents es → length hs + length es ≤ 3100000 →
      IsCutIn es (run hs (start_of o)) file (world.Full spot) → ⊥
  never_full hs [] file spot brief all few cut = let z : world.Full spot ≡ world.Memory = cut.1 in cc
  never_full hs (e ∷ es) file spot brief all few (inl left) = next_has_room hs e brief (settling_short e all.0) (omega (arith, few)) spot left.1
  never_full hs (e ∷ es) file spot brief all few (inr later) =
      never_full (hs ++ Line e ∷ []) es file spot (both_brief hs (Line e ∷ []) brief (settling_short e all.0, tt)) all.1 (omega (arith, few, length_push hs (Line e)))
      (subst (λ s. IsCutIn es s file (world.Full spot)) (sym (run_more hs (Line e ∷ []) (start_of o))) later)

  module _ {E : Type 0} (takes : Kind → Type 0) (stands_for : E → EngineState → Type 0) (number count : ℕ) (before after : Told) (d : Decisions) (w : World E) (p : HasGone takes stands_for o number count before after d w) (few : count ≤ most_trial_events) where
    settling_few : (settling : List Event) → IsSettling (played_to o number count) settling → length settling ≤ 2949144
    settling_few settling i =
        let s = played_to o number count in
        let reached = at_end o number count p.valid in
        let opened = few_open o number count p.valid p.long few in
        let three : length s.kinds ≡ 3 = ap length (kinds_same o (first_events (start_of o) number count) p.valid ∙ o.kinds) in
        let bound = most takes stands_for s reached opened settling i in
        let short = most_settling s 3 65536 (omega (arith, three)) opened in
        omega (arith, bound, short)

    pub settling_never_full : (file : Spot → Option File) (spot : Spot) → IsCutShort (played_to o number count) file (world.Full spot) → ⊥
    settling_never_full file spot c =
        let es = first_events (start_of o) number count in
        never_full (lines es ++ Disarm ∷ []) c.events file spot (both_brief (lines es) (Disarm ∷ []) (brief_lines es p.short) (omega arith, tt)) (of_settling (played_to o number count) c.events c.settling)
        (omega (arith, few, p.long, settling_few c.events c.settling, length_push (lines es) Disarm, as_long es))
        (subst (λ s. IsCutIn c.events s file (world.Full spot)) (sym (run_more (lines es) (Disarm ∷ []) (start_of o))) c.cut)
