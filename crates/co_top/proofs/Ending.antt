-- How a replay ends, from how its lines were played behind the text of its head.
use Rattle.std.proofs.Common.{◌≡◌, inl, inr, ℕ, ◌+◌, ◌≤◌, Bool, List, [], ◌∷◌, ◌++◌, length, take, Option, None, Some, Result, Ok, Err, refl, sym, ap, ◌∙◌, subst, append-nil, append_assoc}
use Rattle.std.specs.List.{AllByRecursion}
use Rattle.co_base.specs.declared.head.Head.{Head}
use Rattle.co_base.specs.declared.head.Kind.{Kind}
use Rattle.co_message.specs.declared.event.Event.{Event}
use Rattle.co_message.specs.declared.item.Item.{Item}
use Rattle.co_message.specs.declared.item.ItemKind.TheVariants as item
use Rattle.co_outside.specs.declared.spot.Spot.{Spot}
use Rattle.co_outside.specs.Home.{File, HomeView}
use Rattle.co_plain.specs.Federation.{Federation}
use Rattle.co_plain.specs.Opening.{opened, opening_items}
use Rattle.co_plain.specs.Runs.{run, lines, numbered, transcript}
use Rattle.co_state.specs.declared.engine_state.EngineState.{EngineState}
use Rattle.co_replay.specs.Schedule.{HasLine}
use Rattle.co_replay.specs.Transcript.{items_text, run_items}
use Rattle.co_replay.proofs.Appended.{items_text-append}
use Rattle.co_world.specs.Attached.{IsAttachedOver}
use Rattle.co_cluster.specs.Left.{AreLeftAs}
use Rattle.co_world.proofs.Nodes.{held_left}
use Rattle.co_world.specs.Standing.{RepresentsWorld, AreHeld}
use Rattle.co_world.specs.declared.world.World.{World}
use Rattle.co_top.specs.Front.{IsHeaded, StandsBehind, AtStart, IsStreamed}
use Rattle.co_top.specs.Played.{IsTold, IsToldInPart, StandsFor, IsStreamedBehind, IsLeftNear, HasFailed, HasStopped, IsOver}
use Rattle.co_top.specs.PlayedOut.{HasPlayedOut}
use Rattle.co_top.specs.declared.replay.Ended.{Ended}
use Rattle.co_top.specs.Ran.{Ran, AreLeftBy, AreLeftByFault, HasRun, HasRunInPart, IsStop, IsEventFault, IsRunEnd, Stopped, CutOff, Failed, Wanted}
use Rattle.co_outside.specs.Faults.{HasRisen}
use Rattle.std.specs.Prelude.{OnOk, IfErr}
use Rattle.co_top.specs.Heads.{IsEnding}
use Rattle.co_top.specs.Replayed.{status_of, opening_text, IsOpeningTold}
use Rattle.co_top.specs.Telling.{IsPutInPart, HasEnded}
use Rattle.co_top.specs.declared.status.LimitKind.TheVariants as limit
use Rattle.co_top.specs.declared.status.Status.{Status}
use Rattle.co_top.specs.declared.status.Status.TheVariants as status
use Rattle.co_law.proofs.FreshLogs.{empty_openable}
use Rattle.co_law.proofs.GoingOn.{lines_true}
use Rattle.co_top.proofs.Laws.{all_own, promised, ready}
use Rattle.co_top.proofs.Lists.{take_behind}
use Rattle.co_top.proofs.Left.{left_by, left_by_fault}
use Rattle.co_top.proofs.Plays.{streamed_behind}

module _ {E H : Type 0} (takes : Kind → Type 0) (stands_for : E → EngineState → Type 0) (seen : H → HomeView) (resume : Bool) (input held : List ℕ) (start : H) (head : Head) (text : List ℕ) (headed : IsHeaded input head text)
    (before : World E) (items : List Item) (at : IsAttachedOver takes stands_for (seen start).file head resume before items) where
  abbrev pub old : Spot → Option File
  old = (seen start).file

  abbrev pub s0 : Federation
  s0 = opened head.kinds head.coords at.found_member at.found_coord

  -- a run of these events
  abbrev pub ran : (events : List Event) → AllByRecursion (HasLine head) events → (left : (rest : List ℕ) × StandsBehind head text events rest) → Ran resume input old
  ran events valid left =
      record {
        head = head;
        text = text;
        headed = headed;
        events = events;
        valid = valid;
        rest = left.0;
        front = left.1;
        found_member = at.found_member;
        found_coord = at.found_coord;
        found = at.found;
        may = at.may;
        unused = at.unused;
        fit = at.fit;
        few = at.few;
      }

  -- its text is that of the first line, and then that of the events
  pub all_text : (events : List Event) → items_text (run_items head at.found_member at.found_coord events) ≡ opening_text head items ++ items_text (transcript 2 events s0)
  all_text events =
      items_text-append (numbered 1 (item.Head head ∷ opening_items head.kinds head.coords at.found_member at.found_coord)) (transcript 2 events s0)
      ∙ ap (λ (more : List Item). items_text (numbered 1 (item.Head head ∷ []) ++ more) ++ items_text (transcript 2 events s0)) (sym at.told)

  pub whole_text : (events : List Event) (told : Option (List ℕ)) → told ≡ Some ((held ++ opening_text head items) ++ items_text (transcript 2 events s0)) →
      told ≡ Some (held ++ items_text (run_items head at.found_member at.found_coord events))
  whole_text events told e =
      e ∙ ap Some (append_assoc held (opening_text head items) (items_text (transcript 2 events s0)) ∙ ap (λ t. held ++ t) (sym (all_text events)))

  pub part_text : (events : List Event) (told : Option (List ℕ)) → (count : ℕ) × (told ≡ Some ((held ++ opening_text head items) ++ take count (items_text (transcript 2 events s0)))) →
      (count : ℕ) × (told ≡ Some (held ++ take count (items_text (run_items head at.found_member at.found_coord events))))
  part_text events told p = (
    length (opening_text head items) + p.0,
    p.1 ∙ ap Some (
        append_assoc held (opening_text head items) (take p.0 (items_text (transcript 2 events s0)))
        ∙ ap (λ t. held ++ t) (
        sym (take_behind (opening_text head items) (items_text (transcript 2 events s0)) p.0)
        ∙ ap (take (length (opening_text head items) + p.0)) (sym (all_text events)))),
  )

  module _ (now told : Option (List ℕ)) where
    abbrev pub mid : Option (List ℕ)
    mid = Some (held ++ opening_text head items)

    abbrev pub has_run : (p : IsTold head s0 (Some text) mid told) → IsStreamedBehind head (Some text) now p.events p.left → HasRun resume input now held old told
    has_run p streamed =
        let r = ran p.events p.valid (p.left text refl) in
        record { ran = r; streamed = streamed text refl; promises = promised r; transcript = whole_text p.events told (p.whole (held ++ opening_text head items) refl) }

    abbrev pub has_run_in_part : (p : IsToldInPart head s0 (Some text) mid told) → IsStreamedBehind head (Some text) now p.events p.left → HasRunInPart resume input now held old told
    has_run_in_part p streamed =
        let r = ran p.events p.valid (p.left text refl) in
        let t = part_text p.events told (p.part (held ++ opening_text head items) refl) in
        record { ran = r; streamed = streamed text refl; promises = promised r; count = t.0; transcript = t.1 }

    module _ (end : H) (w : World E) where
      abbrev pub home : HomeView
      home = seen end

      files_of : (events : List Event) → StandsFor takes stands_for s0 home w events → AreLeftAs home.file (run (lines events) s0)
      files_of events f = held_left takes stands_for w (run (lines events) s0) home f.stands f.held

      near_left : (events : List Event) (valid : AllByRecursion (HasLine head) events) (left : (t : List ℕ) → Some text ≡ Some t → (rest : List ℕ) × StandsBehind head t events rest) →
          IsLeftNear head s0 (Some text) events left home.file → AreLeftByFault (ran events valid (left text refl)) home.file
      near_left events valid left (inl before) = left_by_fault (ran events valid (left text refl)) home.file (inl before)
      near_left events valid left (inr (event, line, next, either)) = left_by_fault (ran events valid (left text refl)) home.file (inr (event, line, next text refl, either))

      -- the lines that were done, and why there was no further one
      stopped : (p : IsTold head s0 (Some text) mid told) (streamed : IsStreamedBehind head (Some text) now p.events p.left) → AreLeftAs home.file (run (lines p.events) s0) → (ended : Status) → IsStop (has_run p streamed).ran ended →
          IsRunEnd seen resume input now held told start end ended
      stopped p streamed files ended cause = let r = has_run p streamed in Stopped r (left_by r.ran home.file files) cause

      -- the next line gave no event
      at_line : (ended : Status) (p : HasStopped takes stands_for head s0 (Some text) now mid told home w ended) → IsStop (has_run p.done p.streamed).ran ended → IsRunEnd seen resume input now held told start end ended
      at_line ended p cause = stopped p.done p.streamed (files_of p.done.events p.stands) ended cause

      -- a fault within an event
      failed : (ended : Status) → IsEventFault old ended → HasFailed head s0 (Some text) now mid told home → IsRunEnd seen resume input now held told start end ended
      failed ended cause p = Failed (has_run p.done p.streamed) (near_left p.done.events p.done.valid p.done.left p.files) cause

      pub over : (result : Result ℕ Status) → ((spot : Spot) (place : ℕ) (kept read : Option ℕ) → result ≡ Err (status.Differs spot place kept read) → IsEventFault old (status.Differs spot place kept read)) →
          IsOver takes stands_for head s0 (Some text) now mid told home w result → IsRunEnd seen resume input now held told start end (status_of result)
      over (Ok number) differs p = stopped p.0 p.1 (files_of p.0.events p.2) status.Done (p.3 text refl)
      over (Err (status.Schedule line what)) differs p = at_line (status.Schedule line what) p (p.cause text refl)
      over (Err status.Read) differs p = at_line status.Read p (p.cause text refl)
      over (Err status.Write) differs p = let r = has_run_in_part p.0 p.1 in CutOff r (left_by r.ran home.file (files_of p.0.events p.2)) refl
      over (Err (status.Device spot)) differs p = failed (status.Device spot) tt p
      over (Err (status.Differs spot place kept read)) differs p = failed (status.Differs spot place kept read) (differs spot place kept read refl) p
      over (Err (status.Limit (limit.Line line))) differs p = at_line (status.Limit (limit.Line line)) p (p.cause text refl)
      over (Err (status.Limit limit.Lines)) differs p = at_line (status.Limit limit.Lines) p (p.cause text refl)
      over (Err (status.Limit limit.Transactions)) differs p = let next = p.next text refl in stopped p.done p.streamed p.files (status.Limit limit.Transactions) (p.event, next.0, next.1, p.limit)
      over (Err (status.Limit (limit.Log spot))) differs p = let next = p.next text refl in stopped p.done p.streamed p.files (status.Limit (limit.Log spot)) (p.event, next.0, next.1, p.outgrows)
      over (Err status.Memory) differs p = Wanted (has_run_in_part p.done p.streamed) (near_left p.done.events p.done.valid p.done.left p.files) refl
      over (Err _) differs p = absurd p

      -- no line was played: a front of the text of the head was put
      pub first : IsStreamed text now → RepresentsWorld takes stands_for w s0 → AreHeld home w → (count : ℕ) × (told ≡ Some (held ++ take count (opening_text head items))) →
          (done : HasRunInPart resume input now held old told) × AreLeftBy done.ran home.file
      first streamed stands kept p =
          let r = ran [] tt (text, AtStart text) in (
            record {
              ran = r;
              streamed = streamed;
              promises = promised r;
              count = p.0;
              transcript = p.1 ∙ ap (λ t. Some (held ++ take p.0 t)) (sym (append-nil (opening_text head items)) ∙ sym (all_text []));
            },
            left_by r home.file (files_of [] (record { stands = stands; held = kept })),
          )

-- what a schedule leaves that was done to its end
module _ {E H : Type 0} (takes : Kind → Type 0) (stands_for : E → EngineState → Type 0) (seen : H → HomeView) (resume : Bool) (start : H) (head : Head) (before : World E) (items : List Item)
    (at : IsAttachedOver takes stands_for (seen start).file head resume before items) where
  abbrev first_state : Federation
  first_state = opened head.kinds head.coords at.found_member at.found_coord

  pub played_out : (source text left held mid told : Option (List ℕ)) (home : HomeView) (ended : Ended E) →
      ((input : List ℕ) → source ≡ Some input → (rest : List ℕ) × IsHeaded input head rest × (text ≡ Some rest)) → ((h : List ℕ) → held ≡ Some h → mid ≡ Some (h ++ opening_text head items)) →
      ((spot : Spot) → home.file spot ≡ None → (seen start).file spot ≡ None) → ended.members ≡ length head.kinds → ended.number ≤ 262144 → IsOver takes stands_for head first_state text left mid told home ended.world (Ok ended.number) →
      HasPlayedOut takes stands_for resume source left held told (seen start).file home ended
  played_out source text left held mid told home ended headed put still members few p =
      let nodes = ready head at.found_member at.found_coord at.may p.0.events p.0.valid in
      record {
        state = run (lines p.0.events) first_state;
        stands = p.2.stands;
        kept = p.2.held;
        members = members ∙ sym (ap length nodes.kinds);
        few = few;
        reached = λ fresh.
            let unused = at.unused fresh in
            record {
              kinds = head.kinds;
              coords = head.coords;
              found_member = at.found_member;
              found_coord = at.found_coord;
              happened = lines p.0.events;
              few_members = head.members;
              some_coord = head.some_coord;
              few_coords = head.coordinators;
              openable = empty_openable head.kinds head.coords at.found_member at.found_coord unused.members unused.coords;
              may = at.may;
              true_verdicts = lines_true p.0.events first_state;
              own = all_own head p.0.events p.0.valid;
              is = refl;
            };
        told_still = still;
        nodes = λ input l. let read = headed input l in record { head = head; text = read.0; headed = read.1; members = nodes.kinds; coordinators = nodes.coordinators };
        run = λ input h l t.
            let read = headed input l in
            let r = ran takes stands_for seen resume input h start head read.0 read.1 before items at p.0.events p.0.valid (p.0.left read.0 read.2) in
            record {
              done = record {
                ran = r;
                streamed = p.1 read.0 read.2;
                promises = promised r;
                transcript = whole_text takes stands_for seen resume input h start head read.0 read.1 before items at p.0.events told (p.0.whole (h ++ opening_text head items) (put h t));
              };
              whole = p.3 read.0 read.2;
              leaves = refl;
              last = p.4;
            };
      }

-- the text of the first line was not put whole
module _ {E H : Type 0} (takes : Kind → Type 0) (stands_for : E → EngineState → Type 0) (seen : H → HomeView) (resume : Bool) (input : List ℕ) (now : Option (List ℕ)) (streamed : IsStreamed input now) (held : List ℕ) (start : H) (head : Head) (text : List ℕ) (headed : IsHeaded input head text)
    (w : World E) (items : List Item) (at : IsAttachedOver takes stands_for (seen start).file head resume w items) (end : H) (kept : AreHeld (seen end) w) (told : Option (List ℕ)) where
  cut_text : IsPutInPart (opening_text head items) (Some held) told → (done : HasRunInPart resume input now held (seen start).file told) × AreLeftBy done.ran (seen end).file
  cut_text p = first takes stands_for seen resume input held start head text headed w items at now told end w (streamed_behind input text now headed.behind streamed) at.stands kept (p held refl)

  pub opening_over : (why : Status) → IsOpeningTold head items (Some held) told (Err why) → IsRunEnd seen resume input now held told start end why
  opening_over status.Write p = let c = cut_text p in CutOff c.0 c.1 refl
  opening_over status.Memory p = let c = cut_text p in Wanted c.0 (record { happened = lines c.0.ran.events; up_to = inl refl; files = c.1 }) refl
  opening_over _ p = absurd p

-- ---- what a status is not

pub opening_ends : (head : Head) (items : List Item) (held told : Option (List ℕ)) (why : Status) → IsOpeningTold head items held told (Err why) → IsEnding why
opening_ends head items held told status.Write p = tt
opening_ends head items held told status.Memory p = tt
opening_ends head items held told _ p = absurd p

pub over_ends : {E : Type 0} (takes : Kind → Type 0) (stands_for : E → EngineState → Type 0) (head : Head) (s0 : Federation) (text now held told : Option (List ℕ)) (home : HomeView) (w : World E) (o : Result ℕ Status) →
    IsOver takes stands_for head s0 text now held told home w o → IfErr o IsEnding
over_ends takes stands_for head s text now held told home w (Ok number) p = tt
over_ends takes stands_for head s text now held told home w (Err status.Done) p = absurd p
over_ends takes stands_for head s text now held told home w (Err status.Usage) p = absurd p
over_ends takes stands_for head s text now held told home w (Err (status.NotSerial txn number)) p = absurd p
over_ends takes stands_for head s text now held told home w (Err (status.Transcript number)) p = absurd p
over_ends takes stands_for head s text now held told home w (Err _) p = tt

-- what is so whatever the answer is
pub on_any : {A E : Type 0} (P : Type 0) (o : Result A E) → P → OnOk o P
on_any P (Ok x) p = p
on_any P (Err e) p = tt

-- what follows from what is so where the answer is no error
pub on_kept : {A E : Type 0} (P Q : Type 0) (o : Result A E) → (P → Q) → OnOk o P → OnOk o Q
on_kept P Q (Ok x) leads p = leads p
on_kept P Q (Err e) leads p = tt

-- the error of an answer, and the same error of another one
error_or : {A E : Type 0} → E → Result A E → E
error_or none (Ok x) = none
error_or none (Err e) = e

pub err_inner : {A E : Type 0} (x y : E) (o : Result A E) → o ≡ Err x → o ≡ Err y → x ≡ y
unfolding error_or
err_inner x y o is was = ap (error_or x) (sym is ∙ was)

pub same_error : {A B E : Type 0} (x y : E) (one : Result A E) (other : Result B E) → one ≡ Err y → one ≡ Err x → other ≡ Err x → other ≡ Err y
unfolding error_or
same_error x y one other is was also = also ∙ ap Err (ap (error_or x) (sym was ∙ is))

-- where the status names no file at which the directory failed, it met no fault
pub ended_quiet : (old new : HomeView) (ended : Status) → HasEnded old new ended → ((spot : Spot) → ended ≡ status.Device spot → ⊥) → new.faults ≡ old.faults
ended_quiet old new (status.Device spot) h other = absurd (other spot refl)
ended_quiet old new (status.Differs spot at kept read) h other = h.0
ended_quiet old new _ h other = h

-- the directory failed in this call, where it met no fault before
pub failed_as : (old new : HomeView) (before : ℕ) (ended : Status) (spot : Spot) → old.faults ≡ before → HasEnded old new ended → ended ≡ status.Device spot → HasRisen before new.faults × (new.last_failed ≡ spot)
failed_as old new before ended spot same h is =
    let k : HasEnded old new (status.Device spot) = subst (HasEnded old new) is h in
    (subst (λ n. HasRisen n new.faults) same k.0, k.1)
