-- What a run needs to come to its end.
use Rattle.std.specs.Prelude.{ℕ, Bool, ◌≡◌, ◌<◌, ◌⊎◌, List, [], length, Option, None}
use Rattle.co_base.specs.declared.head.Head.{Head}
use Rattle.co_message.specs.declared.event.Event.{Event}
use Rattle.co_outside.specs.declared.spot.Spot.{Spot}
use Rattle.co_outside.specs.Faults.{HasRisen}
use Rattle.co_outside.specs.Home.{File}
use Rattle.co_durable.specs.Told.{AreTold}
use Rattle.co_durable.specs.declared.fault.WorldFault.{WorldFault}
use Rattle.co_opening.specs.Opened.{IsUnopened, IsOfFound}
use Rattle.co_top.specs.Ends.{of_world}
use Rattle.co_top.specs.Front.{IsHeaded, StandsBehind}
use Rattle.co_top.specs.Ran.{Ran, IsAtLimit, IsOutgrown}
use Rattle.co_top.specs.declared.status.Status.{Status}
use Rattle.co_top.specs.declared.status.Status.TheVariants as status

-- the whole input is a schedule: a head and the lines of events, each within the limits of lines
pub record IsSchedule (input : List ℕ) : Type 0 where
  pub head : Head
  pub text : List ℕ
  pub headed : IsHeaded input head text
  pub events : List Event
  pub whole : StandsBehind head text events []

-- The input is a schedule, the logs are not refused, neither the source nor the sink nor the directory failed, the directory tells its files, and no line of the run would leave a log
-- too long or begin one transaction too many.
pub record IsUnhindered (resume : Bool) (input : List ℕ) (old : Spot → Option File) (source_old source_new out_old out_new home_old home_new : ℕ) : Type 0 where
  pub schedule : IsSchedule input
  pub allowed : (head : Head) (text : List ℕ) → IsHeaded input head text → (why : WorldFault) → IsOfFound why → IsUnopened old head resume why → ⊥
  pub source : HasRisen source_old source_new → ⊥
  pub out : HasRisen out_old out_new → ⊥
  pub home : HasRisen home_old home_new → ⊥
  pub told : (spot : Spot) → spot.part < 2 → old spot ≡ None → ⊥
  pub room : (r : Ran resume input old) (spot : Spot) → IsOutgrown r spot → ⊥
  pub few : (r : Ran resume input old) → IsAtLimit r → ⊥

-- the source or the directory failed, or there was no memory
abbrev pub HasGivenWay : Status → Type 0
HasGivenWay status.Read = Unit {0}
HasGivenWay (status.Device spot) = Unit {0}
HasGivenWay status.Memory = Unit {0}
HasGivenWay _ = ⊥

-- Where the files of the nodes of the input's head are told, and are refused, the status is that of the refusal, unless the source or the directory failed or there was no
-- memory.
abbrev pub IsRefusedExactly : Bool → List ℕ → (Spot → Option File) → Status → Type 0
IsRefusedExactly resume input old ended =
    (head : Head) (text : List ℕ) → IsHeaded input head text → AreTold old (length head.kinds) head.coords → (why : WorldFault) → IsOfFound why → IsUnopened old head resume why → (ended ≡ of_world why) ⊎ HasGivenWay ended
