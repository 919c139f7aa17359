-- Calls one behind the other.
use Rattle.std.proofs.Common.{◌≡◌, inl, inr, ℕ, suc, Bool, true, false, map, ◌+◌, List, [], ◌∷◌, ◌++◌, length, Option, Result, Ok, Err, refl, sym, ap, ◌∙◌, subst, append_assoc, append-nil, arith}
use Rattle.std.specs.Result.{IsErr, IsErrAnd, IsOk}
use Rattle.std.proofs.lemmas.List.{length-append}
use Rattle.co_base.specs.declared.head.Kind.{Kind}
use Rattle.co_durable.specs.declared.fault.WorldFault.{WorldFault}
use Rattle.co_durable.specs.declared.fault.WorldFault.TheVariants as world
use Rattle.co_message.specs.declared.event.Event.{Event}
use Rattle.co_message.specs.declared.item.Item.{Item}
use Rattle.co_message.specs.declared.item.ItemKind.{ItemKind}
use Rattle.co_message.specs.declared.item.ItemKind.TheVariants as item
use Rattle.co_message.specs.declared.message.Message.{Message}
use Rattle.co_outside.specs.Home.{File, HomeView}
use Rattle.co_outside.specs.Faults.{HasRisen}
use Rattle.co_outside.specs.declared.spot.Spot.{Spot}
use Rattle.co_plain.specs.Federation.{Federation}
use Rattle.co_plain.specs.Runs.{run, numbered, transcript, lines}
use Rattle.co_plain.specs.Step.{disarmed, step_line}
use Rattle.co_state.specs.declared.engine_state.EngineState.{EngineState}
use Rattle.co_law_settle.specs.SettlingTurns.{note_in}
use Rattle.co_law.proofs.GoingOn.{transcript_more}
use Rattle.co_cluster.specs.Left.{IsFullIn}
use Rattle.co_world.specs.Standing.{AreServed, RepresentsWorld}
use Rattle.co_cluster.specs.Served.{HasEndedAs}
use Rattle.co_world.specs.declared.world.World.{World}
use Rattle.co_settle.specs.Progress.{HasDone, IsCutIn, DoesAll, HasEnded, IsUntoldFor}
use Rattle.co_settle.specs.declared.counting.Steps.{Steps}
use Rattle.co_settle.specs.declared.telling.Told.{Told}

pub run_on : (es more : List Event) (s : Federation) → run (lines (es ++ more)) s ≡ run (lines more) (run (lines es) s)
run_on [] more s = refl
run_on (e ∷ es) more s = run_on es more (step_line s e).state

-- ---- a fault behind events that were done

pub cut_later : (es more : List Event) (s : Federation) (file : Spot → Option File) (fault : WorldFault) → IsCutIn more (run (lines es) s) file fault → IsCutIn (es ++ more) s file fault
cut_later [] more s file fault h = h
cut_later (e ∷ es) more s file fault h = inr (cut_later es more (step_line s e).state file fault h)

-- and before others
pub cut_before : (es more : List Event) (s : Federation) (file : Spot → Option File) (fault : WorldFault) → IsCutIn es s file fault → IsCutIn (es ++ more) s file fault
cut_before [] [] s file fault h = h
cut_before [] (x ∷ xs) s file fault h = inl (inl h.0, subst (IsFullIn (step_line (disarmed s) x).state) (sym h.1) tt)
cut_before (e ∷ es) more s file fault (inl h) = inl h
cut_before (e ∷ es) more s file fault (inr h) = inr (cut_before es more (step_line s e).state file fault h)

-- ---- events behind events

module _ {E : Type 0} (takes : Kind → Type 0) (stands_for : E → EngineState → Type 0) where
  pub done_none : (s : Federation) (told : Told) (steps : Steps) (w : World E) → RepresentsWorld takes stands_for w s → HasDone takes stands_for s [] told told steps steps w
  done_none s told steps w r = record { number = let e : told.number ≡ told.number + 0 = omega arith in e; items = sym (append-nil told.items); counted = let e : steps.count ≡ steps.count + 0 = omega arith in e; stands = r }

  pub done_more : (s : Federation) (es more : List Event) (a b c : Told) (i j k : Steps) (w x : World E) → HasDone takes stands_for s es a b i j w → HasDone takes stands_for (run (lines es) s) more b c j k x →
      HasDone takes stands_for s (es ++ more) a c i k x
  done_more s es more a b c i j k w x d e =
      record {
        number = let p = d.number in let q = e.number in let l = length-append es more in omega (arith, p, q, l);
        items = e.items ∙ ap (λ xs. xs ++ transcript (suc b.number) more (run (lines es) s)) d.items ∙ append_assoc a.items (transcript (suc a.number) es s) (transcript (suc b.number) more (run (lines es) s))
            ∙ ap (λ n. a.items ++ (transcript (suc a.number) es s ++ transcript n more (run (lines es) s))) place ∙ ap (λ xs. a.items ++ xs) (sym (transcript_more (suc a.number) es more s));
        counted = let p = d.counted in let q = e.counted in let l = length-append es more in omega (arith, p, q, l);
        stands = subst (RepresentsWorld takes stands_for x) (sym (run_on es more s)) e.stands;
      }
    where
      place : suc b.number ≡ suc a.number + length es
      place = let p = d.number in omega (arith, p)

  pub does_more : {B : Type 0} (s : Federation) (es more : List Event) (a b c : Told) (i j k : Steps) (w x : World E) (file : Spot → Option File) (P : B → Type 0) (result : Result B WorldFault) →
      HasDone takes stands_for s es a b i j w → DoesAll takes stands_for (run (lines es) s) more b c j k x file P result → DoesAll takes stands_for s (es ++ more) a c i k x file P result
  does_more s es more a b c i j k w x file P (Ok v) d e = (done_more s es more a b c i j k w x d e.0, e.1)
  does_more s es more a b c i j k w x file P (Err fault) d e = cut_later es more s file fault e

-- ---- the directory

pub ended_later : (fault : WorldFault) (old mid new : HomeView) → mid.faults ≡ old.faults → HasEnded fault mid new → HasEnded fault old new
ended_later (world.Device spot) old mid new same h = (subst (λ n. HasRisen n new.faults) same h.0, h.1)
ended_later (world.Differs spot at kept read) old mid new same h = h ∙ same
ended_later (world.InUse spot) old mid new same h = absurd h
ended_later (world.Bad spot at) old mid new same h = absurd h
ended_later (world.Full spot) old mid new same h = h ∙ same
ended_later world.Count old mid new same h = absurd h
ended_later (world.Old spot) old mid new same h = absurd h
ended_later world.Memory old mid new same h = h ∙ same

pub served_later : {E : Type 0} (w x : World E) (old mid new : HomeView) → AreServed w old mid → AreServed x mid new → AreServed x old new
served_later w x old mid new a b = record { kept = b.kept; clean = λ s c. b.clean s (a.clean s c); quiet = b.quiet ∙ a.quiet }

-- the fault of an event ends settling
pub ended_as : (fault : WorldFault) (old new : HomeView) → (fault ≡ world.Count → ⊥) → HasEndedAs fault old new → HasEnded fault old new
ended_as (world.Device spot) old new other h = h
ended_as (world.Differs spot at kept read) old new other h = h.0
ended_as (world.InUse spot) old new other h = h
ended_as (world.Bad spot at) old new other h = h
ended_as (world.Full spot) old new other h = ap (λ (v : HomeView). v.faults) h
ended_as world.Count old new other h = other refl
ended_as (world.Old spot) old new other h = h
ended_as world.Memory old new other h = h

-- so what differs was not told
pub untold_for : {H : Type 0} (seen : H → HomeView) (fault : WorldFault) (old : H) (new : HomeView) → HasEndedAs fault (seen old) new → IsUntoldFor seen fault
untold_for seen (world.Device spot) old new h = tt
untold_for seen (world.Differs spot at kept read) old new h = (old, h.1, h.2)
untold_for seen (world.InUse spot) old new h = tt
untold_for seen (world.Bad spot at) old new h = tt
untold_for seen (world.Full spot) old new h = tt
untold_for seen world.Count old new h = tt
untold_for seen (world.Old spot) old new h = tt
untold_for seen world.Memory old new h = tt

-- ---- one event

what_of : (number : ℕ) (items : List ItemKind) → map (λ i. i.what) (numbered number items) ≡ items
what_of number [] = refl
what_of number (item ∷ items) = ap (λ xs. item ∷ xs) (what_of number items)

pub one_told : (number next : ℕ) (e : Event) (s : Federation) → next ≡ suc number → numbered next (item.Event e ∷ []) ++ numbered next (step_line s e).items ≡ transcript (suc number) (e ∷ []) s
one_told number next e s same = ap (λ n. numbered n (item.Event e ∷ []) ++ numbered n (step_line s e).items) same ∙ sym (append-nil (numbered (suc number) (item.Event e ∷ (step_line s e).items)))

pub told_notes : (test : Message → Bool) (number : ℕ) (items : List Item) (told : List ItemKind) → items ≡ numbered number told → note_in test (map (λ i. i.what) items) ≡ note_in test told
told_notes test number items told same = ap (note_in test) (ap (map (λ i. i.what)) same ∙ what_of number told)

module _ {E : Type 0} (takes : Kind → Type 0) (stands_for : E → EngineState → Type 0) where
  -- a call that failed
  pub cut_as : {A : Type 0} (s : Federation) (events : List Event) (a b : Told) (i j : Steps) (w : World E) (file : Spot → Option File) (P : A → Type 0) (result : Result A WorldFault) → (fault : WorldFault) → IsErr result × IsErrAnd result (λ e. e ≡ fault) → IsCutIn events s file fault →
      DoesAll takes stands_for s events a b i j w file P result
  cut_as s events a b i j w file P (Ok v) fault is h = absurd (let z : false ≡ true = is.0 in cc)
  cut_as s events a b i j w file P (Err e) fault is h = subst (IsCutIn events s file) (sym is.1) h

  -- what was given does not count
  pub does_any : {A B : Type 0} (s : Federation) (events : List Event) (a b : Told) (i j : Steps) (w : World E) (file : Spot → Option File) (P : A → Type 0) (result : Result A WorldFault) (v : B) →
      IsOk result → DoesAll takes stands_for s events a b i j w file P result → DoesAll takes stands_for s events a b i j w file (λ (u : B). Unit {0}) (Ok v)
  does_any s events a b i j w file P (Ok x) v ok h = (h.0, tt)
  does_any s events a b i j w file P (Err fault) v ok h = absurd (let z : false ≡ true = ok in cc)
