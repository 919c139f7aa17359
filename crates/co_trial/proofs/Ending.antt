-- How an event ends is how a call over the directory ends, where it does not meet the limit and there is room for it.
use Rattle.std.proofs.Common.{◌≡◌, ℕ, Result, Ok, Err, IsErr, IsErrAnd, Bool, true, false, Option, refl, subst, sym}
use Rattle.co_base.specs.declared.head.Head.{Head}
use Rattle.co_outside.specs.Home.{File, HomeView}
use Rattle.co_outside.specs.declared.spot.Spot.{Spot}
use Rattle.co_opening.specs.Opened.{IsUnopened}
use Rattle.co_plain.specs.Federation.{Federation}
use Rattle.co_settle.specs.Progress.{IsUntoldFor, HasEnded}
use Rattle.co_durable.specs.declared.fault.WorldFault.{WorldFault}
use Rattle.co_durable.specs.declared.fault.WorldFault.TheVariants as world
use Rattle.co_cluster.specs.Left.{HasOverlong, IsFullIn}
use Rattle.co_cluster.specs.Served.{HasEndedAs}
use Rattle.co_trial.specs.Ended.{IsFaultOf, Ended}

ended_as : (fault : WorldFault) (completed : Federation) (old new : HomeView) → HasEndedAs fault old new → (fault ≡ world.Count → ⊥) → IsFullIn completed fault → ((spot : Spot) → HasOverlong completed spot → ⊥) → IsFaultOf fault old.faults new.faults
ended_as (world.Device spot) completed old new h below full room = h.0
ended_as (world.Differs spot at kept read) completed old new h below full room = tt
ended_as (world.InUse spot) completed old new h below full room = absurd h
ended_as (world.Bad spot at) completed old new h below full room = absurd h
ended_as (world.Full spot) completed old new h below full room = room spot full
ended_as world.Count completed old new h below full room = absurd (below refl)
ended_as (world.Old spot) completed old new h below full room = absurd h
ended_as world.Memory completed old new h below full room = tt

pub ends : (fault given : WorldFault) (completed : Federation) (old new : HomeView) → given ≡ fault → HasEndedAs fault old new → (fault ≡ world.Count → ⊥) → IsFullIn completed fault → ((spot : Spot) → HasOverlong completed spot → ⊥) → IsFaultOf given old.faults new.faults
ends fault given completed old new is h below full room = subst (λ f. IsFaultOf f old.faults new.faults) (sym is) (ended_as fault completed old new h below full room)

-- and so does settling, where no fault of it is that a file is full
settling_ends : (fault : WorldFault) (old new : HomeView) → HasEnded fault old new → ((spot : Spot) → fault ≡ world.Full spot → ⊥) → IsFaultOf fault old.faults new.faults
settling_ends (world.Device spot) old new h never = h.0
settling_ends (world.Differs spot at kept read) old new h never = tt
settling_ends (world.InUse spot) old new h never = absurd h
settling_ends (world.Bad spot at) old new h never = absurd h
settling_ends (world.Full spot) old new h never = never spot refl
settling_ends world.Count old new h never = absurd h
settling_ends (world.Old spot) old new h never = absurd h
settling_ends world.Memory old new h never = tt

pub settling_fault : {A : Type 0} (result : Result A WorldFault) (fault : WorldFault) (before : ℕ) (old new : HomeView) → IsErr result × IsErrAnd result (λ f. f ≡ fault) → old.faults ≡ before → HasEnded fault old new →
    ((spot : Spot) → fault ≡ world.Full spot → ⊥) → Ended before new.faults result
settling_fault (Ok a) fault before old new is same h never = absurd (let z : false ≡ true = is.0 in cc)
settling_fault (Err f) fault before old new is same h never = subst (λ g. IsFaultOf g before new.faults) (sym is.1) (subst (λ n. IsFaultOf fault n new.faults) same (settling_ends fault old new h never))

-- what was not opened met no file that differs
pub unopened_untold : {H : Type 0} (seen : H → HomeView) (old : Spot → Option File) (head : Head) (resume : Bool) (fault : WorldFault) → IsUnopened old head resume fault → IsUntoldFor seen fault
unopened_untold seen old head resume (world.Device spot) u = tt
unopened_untold seen old head resume (world.Differs spot at kept read) u = absurd u
unopened_untold seen old head resume (world.InUse spot) u = tt
unopened_untold seen old head resume (world.Bad spot at) u = tt
unopened_untold seen old head resume (world.Full spot) u = tt
unopened_untold seen old head resume world.Count u = tt
unopened_untold seen old head resume (world.Old spot) u = tt
unopened_untold seen old head resume world.Memory u = tt
