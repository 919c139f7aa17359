-- A run whose files are refused ends with that refusal.
use Rattle.std.proofs.Common.{◌≡◌, ◌⊎◌, inl, inr, ℕ, Bool, List, length, Option, ap, subst}
use Rattle.co_base.specs.declared.head.Head.{Head}
use Rattle.co_outside.specs.Home.{HomeView}
use Rattle.co_durable.specs.Told.{AreTold}
use Rattle.co_durable.specs.declared.fault.WorldFault.{WorldFault}
use Rattle.co_durable.specs.declared.fault.WorldFault.TheVariants as world
use Rattle.co_opening.specs.Opened.{IsUnopened, IsOfFound}
use Rattle.co_opening.proofs.OpenedOnce.{refused_once, fit_or_refused}
use Rattle.co_top.specs.Complete.{HasGivenWay, IsRefusedExactly}
use Rattle.co_top.specs.Ends.{of_world}
use Rattle.co_top.specs.Front.{IsHeaded, IsHeadFault}
use Rattle.co_top.specs.Ran.{Ran, IsRunEnd, NoHead, Unopened, Stopped, CutOff, Failed, Wanted}
use Rattle.co_top.specs.Replayed.{IsUnopenedAs}
use Rattle.co_top.specs.declared.status.LimitKind.TheVariants as limit
use Rattle.co_top.specs.declared.status.Status.{Status}
use Rattle.co_top.specs.declared.status.Status.TheVariants as status
use Rattle.co_top.proofs.Reading.{one_head, head_is_some, head_is_short}

module _ {H : Type 0} (seen : H → HomeView) (resume : Bool) (input held : List ℕ) (left told : Option (List ℕ)) (old new : H) (head : Head) (text : List ℕ) (headed : IsHeaded input head text)
    (are_told : AreTold (seen old).file (length head.kinds) head.coords) (why : WorldFault) (of : IsOfFound why) (refused : IsUnopened (seen old).file head resume why) where
  abbrev Given : Status → Type 0
  Given ended = (ended ≡ of_world why) ⊎ HasGivenWay ended

  -- nothing was run
  pub never_ran : Ran resume input (seen old).file → ⊥
  never_ran r =
      let same : head ≡ r.head = one_head input head r.head text r.text headed r.headed in
      let files : AreTold (seen old).file (length r.head.kinds) r.head.coords = subst (λ (h : Head). AreTold (seen old).file (length h.kinds) h.coords) same are_told in
      fit_or_refused (seen old).file r.head resume files r.found_member r.found_coord why of r.fit r.found r.few (subst (λ (h : Head). IsUnopened (seen old).file h resume why) same refused)

  -- the cause is this one
  the_cause : (other : Head) (rest : List ℕ) → IsHeaded input other rest → (fault : WorldFault) → IsOfFound fault → IsUnopened (seen old).file other resume fault → of_world fault ≡ of_world why
  the_cause other rest behind fault is u =
      let same : other ≡ head = one_head input other head rest text behind headed in
      ap of_world (refused_once (seen old).file head resume are_told fault why is of (subst (λ (h : Head). IsUnopened (seen old).file h resume fault) same u) refused)

  headed_given : (ended : Status) → IsHeadFault input ended → Given ended
  headed_given (status.Schedule line what) fault = absurd (head_is_some input head text headed line what fault)
  headed_given (status.Limit (limit.Line line)) fault = absurd (head_is_short input head text headed line fault)
  headed_given status.Read fault = inr tt
  headed_given status.Memory fault = inr tt
  headed_given _ fault = absurd fault

  unopened_given : (other : Head) (rest : List ℕ) → IsHeaded input other rest → (ended : Status) → IsUnopenedAs (seen old).file other resume ended → Given ended
  unopened_given other rest behind (status.Device spot) cause = inr tt
  unopened_given other rest behind status.Memory cause = inr tt
  unopened_given other rest behind (status.InUse spot) cause = inl (the_cause other rest behind (world.InUse spot) tt cause)
  unopened_given other rest behind (status.BadLog spot at) cause = inl (the_cause other rest behind (world.Bad spot at) tt cause)
  unopened_given other rest behind (status.OldLog spot) cause = inl (the_cause other rest behind (world.Old spot) tt cause)
  unopened_given other rest behind (status.Limit limit.Transactions) cause = inl (the_cause other rest behind world.Count tt cause)
  unopened_given other rest behind (status.Limit (limit.Log spot)) cause = inl (the_cause other rest behind (world.Full spot) tt cause)
  unopened_given other rest behind _ cause = absurd cause

  pub given : (ended : Status) → IsRunEnd seen resume input left held told old new ended → Given ended
  given ended (NoHead untold same cause) = headed_given ended cause
  given ended (Unopened untold for) = unopened_given for.head for.text for.headed ended for.cause
  given ended (Stopped done files cause) = absurd (never_ran done.ran)
  given ended (CutOff done files is) = absurd (never_ran done.ran)
  given ended (Failed done files cause) = absurd (never_ran done.ran)
  given ended (Wanted done files is) = absurd (never_ran done.ran)

pub refused_exactly : {H : Type 0} (seen : H → HomeView) (resume : Bool) (input : List ℕ) (left : Option (List ℕ)) (held : List ℕ) (told : Option (List ℕ)) (old new : H) (ended : Status) →
    IsRunEnd seen resume input left held told old new ended → IsRefusedExactly resume input (seen old).file ended
refused_exactly seen resume input left held told old new ended h = λ head text headed are_told why of refused. given seen resume input held left told old new head text headed are_told why of refused ended h
