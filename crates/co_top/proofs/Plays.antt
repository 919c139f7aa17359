-- One more line is played, or none is.
use Rattle.std.proofs.Common.{◌≡◌, inl, inr, ℕ, suc, ◌+◌, ◌-◌, Bool, true, false, List, [], ◌∷◌, ◌++◌, length, take, Option, None, Some, Result, Ok, Err, refl, sym, ap, ◌∙◌, subst, append-nil, append_assoc, arith, ◌≤◌}
use Rattle.std.proofs.lemmas.List.{length-drop}
use Rattle.std.proofs.Math.Seq.{take-length}
use Rattle.std.specs.Result.{IsErr, IsErrAnd}
use Rattle.std.specs.List.{AllByRecursion}
use Rattle.co_base.specs.declared.head.Head.{Head}
use Rattle.co_base.specs.declared.head.Kind.{Kind}
use Rattle.co_message.specs.declared.event.Event.{Event}
use Rattle.co_message.specs.declared.item.Item.{Item}
use Rattle.co_message.specs.declared.item.ItemKind.TheVariants as item
use Rattle.co_outside.specs.declared.spot.Spot.{Spot}
use Rattle.co_outside.specs.Faults.{HasRisen}
use Rattle.co_outside.specs.Home.{File, HomeView, IsClean}
use Rattle.co_durable.proofs.Pairs.{all_append}
use Rattle.co_durable.specs.declared.fault.WorldFault.{WorldFault}
use Rattle.co_durable.specs.declared.fault.WorldFault.TheVariants as world
use Rattle.co_opening.specs.Opened.{IsUnopened, IsOfFound}
use Rattle.co_opening.specs.Rest.{OnlyOwnFilesChange}
use Rattle.co_cluster.specs.Served.{HasEndedAs}
use Rattle.co_law.proofs.GoingOn.{transcript_more}
use Rattle.co_law_runs.proofs.Agreement.{run_more}
use Rattle.co_plain.specs.Federation.{Federation}
use Rattle.co_plain.specs.Runs.{run, lines, numbered, transcript}
use Rattle.co_plain.specs.Step.{disarmed, step_line}
use Rattle.co_plain.specs.declared.happening.Happening.TheVariants as happening
use Rattle.co_replay.specs.Schedule.{HasLine}
use Rattle.co_replay.specs.Transcript.{items_text}
use Rattle.co_replay.proofs.Appended.{items_text-append}
use Rattle.co_schedule.specs.declared.lines.Lines.{Lines}
use Rattle.co_state.specs.declared.engine_state.EngineState.{EngineState}
use Rattle.co_world.specs.Counting.{MeetsPlainLimit}
use Rattle.co_cluster.specs.Left.{AreLeftAs, AreLeftBy, AreLeftNear}
use Rattle.co_world.specs.Standing.{RepresentsWorld}
use Rattle.co_world.proofs.Nodes.{held_left}
use Rattle.co_world.specs.declared.world.World.{World}
use Rattle.co_top.proofs.Lists.{map_more, count_more, take_behind}
use Rattle.co_top.specs.Front.{HasRead, StandsBehind, OneMore, IsNext, IsStreamed}
use Rattle.co_schedule.specs.LineText.{behind_line, is_newline}
use Rattle.std.specs.List.{position_or_len}
use Rattle.co_top.specs.Heads.{IsEventRead, IsReadStatus}
use Rattle.co_top.specs.Played.{IsTold, IsToldInPart, StandsFor, IsStreamedBehind, IsLeftNear, HasFailed, HasFailedInPart, HasOutgrown, HasStopped, IsOver, HasMetLimit, IsReadyFor}
use Rattle.co_top.specs.Ends.{of_world}
use Rattle.co_top.specs.Replayed.{status_of, given_back, opening_text, IsUnopenedAs, IsOfFiles, IsOpeningTold}
use Rattle.co_top.specs.Running.{IsBetween}
use Rattle.co_top.specs.Telling.{Outgrows, event_text, IsPut, IsPutInPart, IsTextPut, HasStepped, HasFaulted, HasEnded, IsToldOf}
use Rattle.co_top.specs.declared.status.LimitKind.TheVariants as limit
use Rattle.co_top.specs.declared.status.Status.{Status}
use Rattle.co_top.specs.declared.status.Status.TheVariants as status

-- the run and the text of one more event
pub run_one : (es : List Event) (e : Event) (s : Federation) → run (lines (es ++ e ∷ [])) s ≡ (step_line (run (lines es) s) e).state
run_one es e s = ap (λ hs. run hs s) (map_more happening.Line es e) ∙ run_more (lines es) (happening.Line e ∷ []) s

pub text_one : (es : List Event) (e : Event) (s : Federation) → items_text (transcript 2 (es ++ e ∷ []) s) ≡ items_text (transcript 2 es s) ++ event_text (length es + 2) e (run (lines es) s)
text_one es e s =
    let z = run (lines es) s in
    let more : List Item = transcript (2 + length es) (e ∷ []) z in
    ap items_text (transcript_more 2 es (e ∷ []) s)
    ∙ items_text-append (transcript 2 es s) more
    ∙ ap (λ (is : List Item). items_text (transcript 2 es s) ++ items_text is) {y = numbered (2 + length es) (item.Event e ∷ (step_line z e).items)} (append-nil _)
    ∙ ap (λ n. items_text (transcript 2 es s) ++ event_text n e z) (let q : 2 + length es ≡ length es + 2 = omega arith in q)

-- ---- what was read

-- what is left behind one more event
pub left_one : (head : Head) (text : List ℕ) (es : List Event) (e : Event) → HasLine head e → (left : (rest : List ℕ) × StandsBehind head text es rest) → (rest : List ℕ) → IsNext head (length es) left.0 rest (Some e) →
    StandsBehind head text (es ++ e ∷ []) rest
left_one head text es e line left rest next = subst (StandsBehind head text (es ++ e ∷ [])) (sym next.1) (OneMore text left.0 es e left.1 line next.0)

-- an event was read behind those of the told lines, where the source tells its text, and this is ahead then
abbrev pub IsReadBehind : (head : Head) (text : Option (List ℕ)) (es : List Event) → ((t : List ℕ) → text ≡ Some t → (rest : List ℕ) × StandsBehind head t es rest) → Option (List ℕ) → Event → Type 0
IsReadBehind head text es left ahead e = (t : List ℕ) (q : text ≡ Some t) → (rest : List ℕ) × IsNext head (length es) (left t q).0 rest (Some e) × (ahead ≡ Some rest)

-- what was told whole was told in part
abbrev pub whole_part : (head : Head) (s0 : Federation) (text held told : Option (List ℕ)) → IsTold head s0 text held told → IsToldInPart head s0 text held told
whole_part head s0 text held told p =
    record {
      events = p.events;
      valid = p.valid;
      left = p.left;
      part = λ h q. let all = items_text (transcript 2 p.events s0) in (length all, p.whole h q ∙ ap (λ t. Some (h ++ t)) (sym (take-length all)));
    }

in_part : (head : Head) (s0 : Federation) (text now held told : Option (List ℕ)) (home : HomeView) → HasFailed head s0 text now held told home → HasFailedInPart head s0 text now held told home
in_part head s0 text now held told home f = record { done = whole_part head s0 text held told f.done; streamed = f.streamed; files = f.files }

-- what lies behind a line is no longer than what it begins
pub behind_short : (text rest : List ℕ) → rest ≡ behind_line text → length rest ≤ length text
behind_short text rest e = omega (arith, ap length e, length-drop (position_or_len is_newline text + 1) text)

-- so no more was taken of it
pub streamed_behind : (text rest : List ℕ) (now : Option (List ℕ)) → rest ≡ behind_line text → IsStreamed text now → IsStreamed rest now
streamed_behind text rest now e streamed after told = omega (arith, behind_short text rest e, streamed after told)

module _ (head : Head) (s0 : Federation) (text held told : Option (List ℕ)) (p : IsTold head s0 text held told) (e : Event) (line : HasLine head e) (ahead : Option (List ℕ)) (read : IsReadBehind head text p.events p.left ahead e) where
  abbrev pub es : List Event
  es = p.events ++ e ∷ []

  abbrev pub z : Federation
  z = run (lines p.events) s0

  abbrev pub valid : AllByRecursion (HasLine head) es
  valid = all_append (HasLine head) p.events (e ∷ []) p.valid (line, tt)

  abbrev pub left : (t : List ℕ) → text ≡ Some t → (rest : List ℕ) × StandsBehind head t es rest
  left t q = let r = read t q in (r.0, left_one head t p.events e line (p.left t q) r.0 r.1)

  abbrev pub told_one : (after : Option (List ℕ)) → IsPut (event_text (length p.events + 2) e z) told after → IsTold head s0 text held after
  told_one after put =
      record {
        events = es;
        valid = valid;
        left = left;
        whole = λ h q.
            put (h ++ items_text (transcript 2 p.events s0)) (p.whole h q)
            ∙ ap Some (append_assoc h (items_text (transcript 2 p.events s0)) (event_text (length p.events + 2) e z) ∙ ap (λ t. h ++ t) (sym (text_one p.events e s0)));
      }

  abbrev pub told_in_part : (after : Option (List ℕ)) → IsPutInPart (event_text (length p.events + 2) e z) told after → IsToldInPart head s0 text held after
  told_in_part after put =
      record {
        events = es;
        valid = valid;
        left = left;
        part = λ h q.
            let done = items_text (transcript 2 p.events s0) in
            let cut = put (h ++ done) (p.whole h q) in (
              length done + cut.0,
              cut.1 ∙ ap Some (
                  append_assoc h done (take cut.0 (event_text (length p.events + 2) e z))
                  ∙ ap (λ t. h ++ t) (sym (take_behind done (event_text (length p.events + 2) e z) cut.0) ∙ ap (take (length done + cut.0)) (sym (text_one p.events e s0)))),
            );
      }

  module _ {E : Type 0} (takes : Kind → Type 0) (stands_for : E → EngineState → Type 0) (home : HomeView) (w : World E) (now : Option (List ℕ)) (streamed : IsStreamedBehind head text now p.events p.left) where
    streamed_one : IsStreamedBehind head text now es left
    streamed_one t q = streamed_behind (p.left t q).0 (read t q).0 now (read t q).1.1 (streamed t q)

    pub stands_one : HasStepped takes stands_for z e home w → StandsFor takes stands_for s0 home w es
    stands_one st = record { stands = subst (RepresentsWorld takes stands_for w) (sym (run_one p.events e s0)) st.stands; held = st.held }

    files_one : HasStepped takes stands_for z e home w → AreLeftAs home.file (run (lines es) s0)
    files_one st = let f = stands_one st in held_left takes stands_for w (run (lines es) s0) home f.stands f.held

    near : AreLeftNear home.file z (step_line z e).state (step_line (disarmed z) e).state → IsLeftNear head s0 text p.events p.left home.file
    near (inl before) = inl before
    near (inr began) = inr (e, line, λ t q. let r = read t q in (r.0, r.1), began)

    failed : (after : Option (List ℕ)) → HasFaulted z e told after home → HasFailed head s0 text now held after home
    failed after o = subst (λ (t : Option (List ℕ)). HasFailed head s0 text now held t home) (sym o.0) (record { done = p; streamed = streamed; files = near o.1 })

    met : (after : Option (List ℕ)) → (after ≡ told) × AreLeftAs home.file z × MeetsPlainLimit z e → HasMetLimit head s0 text now held after home
    met after o =
        subst (λ (t : Option (List ℕ)). HasMetLimit head s0 text now held t home) (sym o.0)
        (record { done = p; streamed = streamed; files = o.1; event = e; next = λ t q. let r = read t q in (r.0, r.1); limit = o.2 })

    outgrown : (spot : Spot) (after : Option (List ℕ)) → (after ≡ told) × AreLeftAs home.file z × Outgrows z e spot → HasOutgrown head s0 text now held after home spot
    outgrown spot after o =
        subst (λ (t : Option (List ℕ)). HasOutgrown head s0 text now held t home spot) (sym o.0)
        (record { done = p; streamed = streamed; files = o.1; event = e; next = λ t q. let r = read t q in (r.0, r.1); outgrows = o.2 })

    -- a line that could not be told, or not be done, ends it
    pub told_over : (why : Status) (after : Option (List ℕ)) → IsToldOf takes stands_for z (length p.events + 2) e told after home w (Err why) → IsOver takes stands_for head s0 text now held after home w (Err why)
    told_over status.Write after o = (told_in_part after o.1, streamed_one, stands_one o.0)
    told_over (status.Device spot) after o = failed after o
    told_over (status.Differs spot place kept got) after o = failed after o
    told_over (status.Limit limit.Transactions) after o = met after o
    told_over (status.Limit (limit.Log spot)) after o = outgrown spot after o
    told_over status.Memory after (inl o) = in_part head s0 text now held after home (failed after o)
    told_over status.Memory after (inr o) = record { done = told_in_part after o.1; streamed = streamed_one; files = inl (files_one o.0) }
    told_over _ after o = absurd o

-- what holds before each line: the lines that were told, for what the federation stands, and how many lines were read
pub record IsPlaying {E : Type 0} (takes : Kind → Type 0) (stands_for : E → EngineState → Type 0) (head : Head) (s0 : Federation) (text held told : Option (List ℕ)) (home : HomeView) (w : World E) (number : ℕ) (reader : Lines) (ahead : Option (List ℕ)) : Type 0 where
  pub done : IsTold head s0 text held told
  pub stands : StandsFor takes stands_for s0 home w done.events
  pub counted : number ≡ length done.events + 2
  pub read : HasRead (suc (length done.events)) reader
  pub is_left : (t : List ℕ) (e : text ≡ Some t) → ahead ≡ Some (done.left t e).0

module _ {E : Type 0} (takes : Kind → Type 0) (stands_for : E → EngineState → Type 0) (head : Head) (s0 : Federation) (text held told : Option (List ℕ)) (home : HomeView) (w : World E) (number : ℕ) (reader : Lines) (ahead : Option (List ℕ))
    (p : IsPlaying takes stands_for head s0 text held told home w number reader ahead) where
  -- an event was read
  pub read_behind : (e : Event) (after : Option (List ℕ)) → ((t : List ℕ) → ahead ≡ Some t → IsEventRead head (length p.done.events) t after (Ok (Some e))) → IsReadBehind head text p.done.events p.done.left after e
  read_behind e after f = λ t q. let r = f (p.done.left t q).0 (p.is_left t q) in (r.0, r.1, r.2)

  -- one more line was played
  unfoldable pub plays_on : (e : Event) (line : HasLine head e) (left_after told_after : Option (List ℕ)) (home_after : HomeView) (w_after : World E) (reader_after : Lines) → IsReadBehind head text p.done.events p.done.left left_after e →
      HasRead (suc (suc (length p.done.events))) reader_after → IsToldOf takes stands_for (run (lines p.done.events) s0) (length p.done.events + 2) e told told_after home_after w_after (Ok tt) →
      IsPlaying takes stands_for head s0 text held told_after home_after w_after (number + 1) reader_after left_after
  plays_on e line left_after told_after home_after w_after reader_after read has o =
      record {
        done = told_one head s0 text held told p.done e line left_after read told_after o.1;
        stands = stands_one head s0 text held told p.done e line left_after read takes stands_for home_after w_after None (λ u q after none. absurd (let z : None ≡ Some after = none in cc)) o.0;
        counted = ap (λ n. n + 1) p.counted ∙ (let q : (length p.done.events + 2) + 1 ≡ suc (length p.done.events) + 2 = omega arith in q) ∙ ap (λ n. n + 2) (sym (count_more p.done.events e));
        read = subst (λ n. HasRead (suc n) reader_after) (sym (count_more p.done.events e)) has;
        is_left = λ t q. (read t q).2;
      }

  -- there is no further line
  unfoldable pub plays_out : (now : Option (List ℕ)) → IsStreamedBehind head text now p.done.events p.done.left → (after : Option (List ℕ)) → ((t : List ℕ) → ahead ≡ Some t → IsEventRead head (length p.done.events) t after (Ok None)) → IsOver takes stands_for head s0 text now held told home w (Ok (number - 1))
  plays_out now streamed after f = (p.done, streamed, p.stands, λ t q. (f (p.done.left t q).0 (p.is_left t q)).1.0, let c = p.counted in omega (arith, c))

  stops : (now : Option (List ℕ)) → IsStreamedBehind head text now p.done.events p.done.left → (why : Status) (after : Option (List ℕ)) → ((t : List ℕ) → ahead ≡ Some t → IsEventRead head (length p.done.events) t after (Err why)) → HasStopped takes stands_for head s0 text now held told home w why
  stops now streamed why after f = record { done = p.done; streamed = streamed; stands = p.stands; cause = λ t q. f (p.done.left t q).0 (p.is_left t q) }

  -- the next line gave no event
  pub reads_over : (now : Option (List ℕ)) → IsStreamedBehind head text now p.done.events p.done.left → (why : Status) (after : Option (List ℕ)) → IsReadStatus why → ((t : List ℕ) → ahead ≡ Some t → IsEventRead head (length p.done.events) t after (Err why)) →
      IsOver takes stands_for head s0 text now held told home w (Err why)
  reads_over now streamed (status.Schedule at what) after own f = stops now streamed (status.Schedule at what) after f
  reads_over now streamed status.Read after own f = stops now streamed status.Read after f
  reads_over now streamed (status.Limit (limit.Line at)) after own f = stops now streamed (status.Limit (limit.Line at)) after f
  reads_over now streamed (status.Limit limit.Lines) after own f = stops now streamed (status.Limit limit.Lines) after f
  reads_over now streamed status.Memory after own f =
      record { done = whole_part head s0 text held told p.done; streamed = streamed; files = inl (held_left takes stands_for w (run (lines p.done.events) s0) home p.stands.stands p.stands.held) }
  reads_over now streamed _ after own f = absurd own

-- ---- one event is told

-- what was done is told so
pub told_as : {E : Type 0} (takes : Kind → Type 0) (stands_for : E → EngineState → Type 0) (s : Federation) (number : ℕ) (e : Event) (held told : Option (List ℕ)) (home : HomeView) (w : World E) (items : List Item) (o : Result (Unit {0}) Status) →
    items ≡ numbered number (step_line s e).items → HasStepped takes stands_for s e home w → IsTextPut (items_text (numbered number (item.Event e ∷ []) ++ items)) held told o → IsToldOf takes stands_for s number e held told home w o
told_as takes stands_for s number e held told home w items (Ok u) is st p = (st, subst (λ (xs : List Item). IsPut (items_text (numbered number (item.Event e ∷ []) ++ xs)) held told) is p)
told_as takes stands_for s number e held told home w items (Err status.Write) is st p = (st, subst (λ (xs : List Item). IsPutInPart (items_text (numbered number (item.Event e ∷ []) ++ xs)) held told) is p)
told_as takes stands_for s number e held told home w items (Err status.Memory) is st p = inr (st, subst (λ (xs : List Item). IsPutInPart (items_text (numbered number (item.Event e ∷ []) ++ xs)) held told) is p)
told_as takes stands_for s number e held told home w items (Err _) is st p = absurd p

-- what was not done is not told
pub untold : {E : Type 0} (takes : Kind → Type 0) (stands_for : E → EngineState → Type 0) (s : Federation) (number : ℕ) (e : Event) (held : Option (List ℕ)) (old new : HomeView) (w : World E) (fault : WorldFault) → HasEndedAs fault old new →
    AreLeftBy new.file s (step_line s e).state (step_line (disarmed s) e).state fault → AreLeftAs old.file s → (fault ≡ world.Count → MeetsPlainLimit s e) → IsToldOf takes stands_for s number e held held new w (Err (of_world fault))
untold takes stands_for s number e held old new w (world.Device spot) h left before met = (refl, left.0)
untold takes stands_for s number e held old new w (world.Differs spot place kept got) h left before met = (refl, left.0)
untold takes stands_for s number e held old new w (world.InUse spot) h left before met = absurd h
untold takes stands_for s number e held old new w (world.Bad spot place) h left before met = absurd h
untold takes stands_for s number e held old new w (world.Full spot) h left before met = (refl, subst (λ (v : HomeView). AreLeftAs v.file s) (sym h) before, left.1)
untold takes stands_for s number e held old new w world.Count h left before met = (refl, subst (λ (v : HomeView). AreLeftAs v.file s) (sym h) before, met refl)
untold takes stands_for s number e held old new w (world.Old spot) h left before met = absurd h
untold takes stands_for s number e held old new w world.Memory h left before met = inl (refl, left.0)

-- how the directory ended
pub ended_as : (old new : HomeView) (fault : WorldFault) → HasEndedAs fault old new → HasEnded old new (of_world fault)
ended_as old new (world.Device spot) h = h
ended_as old new (world.Differs spot place kept got) h = h
ended_as old new (world.InUse spot) h = absurd h
ended_as old new (world.Bad spot place) h = absurd h
ended_as old new (world.Full spot) h = ap (λ (v : HomeView). v.faults) h
ended_as old new world.Count h = ap (λ (v : HomeView). v.faults) h
ended_as old new (world.Old spot) h = absurd h
ended_as old new world.Memory h = h

-- no fault of the federation is one of the sink
pub not_write : (fault : WorldFault) → of_world fault ≡ status.Write → ⊥
not_write (world.Device spot) e = let z : status.Device spot ≡ status.Write = e in cc
not_write (world.Differs spot place kept got) e = let z : status.Differs spot place kept got ≡ status.Write = e in cc
not_write (world.InUse spot) e = let z : status.InUse spot ≡ status.Write = e in cc
not_write (world.Bad spot place) e = let z : status.BadLog spot place ≡ status.Write = e in cc
not_write (world.Full spot) e = let z : status.Limit (limit.Log spot) ≡ status.Write = e in cc
not_write world.Count e = let z : status.Limit limit.Transactions ≡ status.Write = e in cc
not_write (world.Old spot) e = let z : status.OldLog spot ≡ status.Write = e in cc
not_write world.Memory e = let z : status.Memory ≡ status.Write = e in cc

-- a text that was put met no fault of the directory
pub put_ended : (text : List ℕ) (held told : Option (List ℕ)) (old new : HomeView) (o : Result (Unit {0}) Status) → new.faults ≡ old.faults → IsTextPut text held told o → HasEnded old new (status_of o)
put_ended text held told old new (Ok u) q p = q
put_ended text held told old new (Err (status.Device spot)) q p = absurd p
put_ended text held told old new (Err (status.Differs spot place kept got)) q p = absurd p
put_ended text held told old new (Err _) q p = q

-- how the text of the first line was put
pub opening_put : (head : Head) (items : List Item) (held told : Option (List ℕ)) (o : Result (Unit {0}) Status) → IsTextPut (opening_text head items) held told o → IsOpeningTold head items held told (given_back head o)
opening_put head items held told (Ok u) p = (refl, p)
opening_put head items held told (Err status.Write) p = p
opening_put head items held told (Err status.Memory) p = p
opening_put head items held told (Err _) p = absurd p

-- why a federation was not opened, as a status
pub unopened_as : (file : Spot → Option File) (head : Head) (resume : Bool) (fault : WorldFault) → IsUnopened file head resume fault → IsUnopenedAs file head resume (of_world fault)
unopened_as file head resume (world.Device spot) u = tt
unopened_as file head resume (world.Differs spot place kept got) u = absurd u
unopened_as file head resume (world.InUse spot) u = u
unopened_as file head resume (world.Bad spot place) u = u
unopened_as file head resume (world.Full spot) u = u
unopened_as file head resume world.Count u = u
unopened_as file head resume (world.Old spot) u = u
unopened_as file head resume world.Memory u = tt

-- a refusal of what was found, as a status
pub of_found : (fault : WorldFault) → IsOfFiles (of_world fault) → IsOfFound fault
of_found (world.Device spot) f = absurd f
of_found (world.Differs spot place kept got) f = absurd f
of_found (world.InUse spot) f = tt
of_found (world.Bad spot place) f = tt
of_found (world.Full spot) f = tt
of_found world.Count f = tt
of_found (world.Old spot) f = tt
of_found world.Memory f = absurd f

-- what a question mark passes on is the fault that was met
pub err_is : {A E : Type 0} (o : Result A E) (why : E) → IsErr o × IsErrAnd o (λ e. e ≡ why) → o ≡ Err why
err_is (Ok x) why h = absurd (let z : false ≡ true = h.0 in cc)
err_is (Err e) why h = ap Err h.1

-- what was done is no fault
pub not_err : {A E : Type 0} (x : A) (e : E) → Ok x ≡ Err e → ⊥
not_err x e q = let z : Ok x ≡ Err e = q in cc

-- ---- the directory

-- the nodes of a federation are those of its head
pub head_changes : {E : Type 0} (takes : Kind → Type 0) (stands_for : E → EngineState → Type 0) (w : World E) (head : Head) (z : Federation) (old new : HomeView) → RepresentsWorld takes stands_for w z → IsReadyFor head z →
    OnlyOwnFilesChange (length w.cluster.members.items) (length w.cluster.coords.items) old new → OnlyOwnFilesChange (length head.kinds) head.coords old new
head_changes takes stands_for w head z old new r ready rest =
    subst (λ c. OnlyOwnFilesChange (length head.kinds) c old new) (r.cluster.coordinators ∙ ready.coordinators)
    (subst (λ m. OnlyOwnFilesChange m (length w.cluster.coords.items) old new) (r.cluster.kinds ∙ ap length ready.kinds) rest)

-- a fault behind calls that met none
pub ended_behind : (old mid new : HomeView) (ended : Status) → mid.faults ≡ old.faults → ((s : Spot) → mid.file s ≡ None → old.file s ≡ None) → HasEnded mid new ended → HasEnded old new ended
ended_behind old mid new (status.Device spot) same told h = (subst (λ n. HasRisen n new.faults) same h.0, h.1)
ended_behind old mid new (status.Differs spot place kept got) same told h = (h.0 ∙ same, told spot h.1, h.2)
ended_behind old mid new _ same told h = h ∙ same

-- a line that gave no event
pub read_ended : (old new : HomeView) (why : Status) → IsReadStatus why → new.faults ≡ old.faults → HasEnded old new why
read_ended old new (status.Device spot) own same = absurd own
read_ended old new (status.Differs spot place kept got) own same = absurd own
read_ended old new _ own same = same

-- where no event was begun, every file is as it was
pub fault_clean : (old new : HomeView) (fault : WorldFault) → HasEndedAs fault old new → IsBetween (of_world fault) → (s : Spot) → IsClean old s → IsClean new s
fault_clean old new (world.Device spot) h between s was = absurd between
fault_clean old new (world.Differs spot place kept got) h between s was = absurd between
fault_clean old new (world.InUse spot) h between s was = absurd h
fault_clean old new (world.Bad spot place) h between s was = absurd h
fault_clean old new (world.Full spot) h between s was = subst (λ (v : HomeView). IsClean v s) (sym h) was
fault_clean old new world.Count h between s was = subst (λ (v : HomeView). IsClean v s) (sym h) was
fault_clean old new (world.Old spot) h between s was = absurd h
fault_clean old new world.Memory h between s was = absurd between

-- a federation that was not opened left no file, but where the directory failed or there was no memory
pub refused_between : (file : Spot → Option File) (head : Head) (resume : Bool) (why : Status) → IsUnopenedAs file head resume why → IsBetween why → IsOfFiles why
refused_between file head resume (status.Device spot) u between = absurd between
refused_between file head resume status.Memory u between = absurd between
refused_between file head resume (status.InUse spot) u between = tt
refused_between file head resume (status.BadLog spot place) u between = tt
refused_between file head resume (status.OldLog spot) u between = tt
refused_between file head resume (status.Limit what) u between = tt
refused_between file head resume _ u between = absurd u
