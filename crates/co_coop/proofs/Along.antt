-- Happenings one behind another: how they are told, and what a fault leaves of them.
use Rattle.std.proofs.Common.{◌≡◌, inl, inr, ℕ, suc, true, false, ◌+◌, List, [], ◌∷◌, ◌++◌, Option, Some, Result, Ok, Err, refl, sym, ap, ◌∙◌, subst, append_assoc, append-nil}
use Rattle.std.specs.Result.{IsErr, IsErrAnd}
use Rattle.co_base.specs.declared.head.Kind.{Kind}
use Rattle.co_durable.specs.declared.fault.WorldFault.{WorldFault}
use Rattle.co_durable.specs.declared.fault.WorldFault.TheVariants as world
use Rattle.co_message.specs.declared.event.Event.{Event}
use Rattle.co_message.specs.declared.item.Item.{Item}
use Rattle.co_message.specs.declared.item.ItemKind.TheVariants as item
use Rattle.co_outside.specs.Home.{File, HomeView}
use Rattle.co_outside.specs.declared.spot.Spot.{Spot}
use Rattle.co_plain.specs.Federation.{Federation}
use Rattle.co_plain.specs.Runs.{run, numbered}
use Rattle.co_plain.specs.Step.{step, disarmed}
use Rattle.co_plain.specs.declared.happening.Happening.{Happening}
use Rattle.co_state.specs.declared.engine_state.EngineState.{EngineState}
use Rattle.co_cluster.specs.Left.{IsFullIn}
use Rattle.co_world.specs.Answered.{IsEventDone}
use Rattle.co_world.specs.Standing.{RepresentsWorld}
use Rattle.co_world.specs.declared.world.World.{World}
use Rattle.co_world.proofs.Nodes.{held_left}
use Rattle.co_law_coop.specs.Consulting.{told_event, items_told, number_after, transcript_along}
use Rattle.co_coop.specs.Consulted.{IsCutAlong, DoesAlong}

-- ---- a fault

pub cut_behind : (hs more : List Happening) (s : Federation) (file : Spot → Option File) (fault : WorldFault) → IsCutAlong more (run hs s) file fault → IsCutAlong (hs ++ more) s file fault
cut_behind [] more s file fault h = h
cut_behind (x ∷ xs) more s file fault h = inr (cut_behind xs more (step s x).state file fault h)

pub cut_ahead : (hs more : List Happening) (s : Federation) (file : Spot → Option File) (fault : WorldFault) → IsCutAlong hs s file fault → IsCutAlong (hs ++ more) s file fault
cut_ahead [] [] s file fault h = h
cut_ahead [] (x ∷ xs) s file fault h = inl (inl h.0, subst (IsFullIn (step (disarmed s) x).state) (sym h.1) tt)
cut_ahead (x ∷ xs) more s file fault (inl h) = inl h
cut_ahead (x ∷ xs) more s file fault (inr h) = inr (cut_ahead xs more (step s x).state file fault h)

-- ---- one happening that is told as an event

pub one_item : (number : ℕ) (h : Happening) (e : Event) (s : Federation) → told_event s h ≡ Some e →
    numbered number (item.Event e ∷ []) ++ numbered number (step s h).items ≡ transcript_along number (h ∷ []) s
one_item number h e s is = sym (append-nil (items_told number (Some e) (step s h))) ∙ ap (λ o. items_told number o (step s h) ++ []) (sym is)

-- and another behind it
pub two_items : (number next : ℕ) (h g : Happening) (e : Event) (s : Federation) (old mid new : List Item) → told_event s h ≡ Some e → next ≡ suc number →
    mid ≡ old ++ transcript_along number (h ∷ []) s → new ≡ mid ++ transcript_along next (g ∷ []) (step s h).state → new ≡ old ++ transcript_along number (h ∷ g ∷ []) s
two_items number next h g e s old mid new is follows p q =
    q ∙ ap (λ xs. xs ++ transcript_along next (g ∷ []) (step s h).state) p
    ∙ append_assoc old (transcript_along number (h ∷ []) s) (transcript_along next (g ∷ []) (step s h).state)
    ∙ ap (λ xs. old ++ xs) (ap (λ xs. xs ++ transcript_along next (g ∷ []) (step s h).state) (append-nil (items_told number (told_event s h) (step s h)))
    ∙ ap (λ n. items_told number (told_event s h) (step s h) ++ transcript_along n (g ∷ []) (step s h).state) (follows ∙ sym (ap (number_after number) is)))

module _ {E : Type 0} (takes : Kind → Type 0) (stands_for : E → EngineState → Type 0) where
  -- it was done, and then told
  pub done_along : (s : Federation) (number : ℕ) (h : Happening) (e : Event) (old new told : List Item) (w : World E) (before after : HomeView) → told_event s h ≡ Some e →
      IsEventDone takes stands_for number (step s h) w before after told → new ≡ old ++ numbered number (item.Event e ∷ []) ++ told →
      (new ≡ old ++ transcript_along number (h ∷ []) s) × RepresentsWorld takes stands_for w (run (h ∷ []) s)
  done_along s number h e old new told w before after is done put = (
    put ∙ append_assoc old (numbered number (item.Event e ∷ [])) told
        ∙ ap (λ xs. old ++ xs) (ap (λ xs. numbered number (item.Event e ∷ []) ++ xs) done.told ∙ one_item number h e s is),
    done.stands,
  )

  -- it was done, and there was no memory to tell it
  pub untold_along : (s : Federation) (number : ℕ) (h : Happening) (told : List Item) (w : World E) (before after : HomeView) →
      IsEventDone takes stands_for number (step s h) w before after told → IsCutAlong (h ∷ []) s after.file world.Memory
  untold_along s number h told w before after done = inr (held_left takes stands_for w (step s h).state after done.stands done.served.kept, refl)

  -- a call that failed
  pub fails_along : {A : Type 0} (s : Federation) (number : ℕ) (hs : List Happening) (old new : List Item) (w : World E) (file : Spot → Option File) (result : Result A WorldFault) (fault : WorldFault) →
      IsErr result × IsErrAnd result (λ f. f ≡ fault) → IsCutAlong hs s file fault → DoesAlong takes stands_for s number hs old new w file result
  fails_along s number hs old new w file (Ok a) fault is h = absurd (let z : false ≡ true = is.0 in cc)
  fails_along s number hs old new w file (Err f) fault is h = subst (IsCutAlong hs s file) (sym is.1) h
