-- What it is that a state can be settled.
use Rattle.std.specs.Prelude.{ℕ, ◌≤◌, List, [], ◌∷◌, length}
use Rattle.co_message.specs.declared.event.Event.{Event}
use Rattle.co_message.specs.declared.event.Event.TheVariants as event
use Rattle.co_plain.specs.Federation.{Federation}
use Rattle.co_plain.specs.Quiet.{IsMember, settling_bound}
use Rattle.co_plain.specs.Runs.{run, lines}
use Rattle.co_plain.specs.Step.{disarmed}
use Rattle.co_law_settle.specs.SettlingTurns.{NothingOpen}
use Rattle.co_law_settle.specs.SettledRecords.{HoldsSerially}

-- an event that wants no client and stops no node
abbrev pub MakesItself : Event → Type 0
MakesItself (event.Deliver note) = Unit {0}
MakesItself (event.Vote t m) = Unit {0}
MakesItself (event.Timer t at) = Unit {0}
MakesItself (event.Ask t m) = Unit {0}
MakesItself (event.Resend t c) = Unit {0}
MakesItself (event.Restart at) = Unit {0}
MakesItself _ = ⊥

abbrev pub MakeThemselves : List Event → Type 0
MakeThemselves [] = Unit {0}
MakeThemselves (e ∷ es) = MakesItself e × MakeThemselves es

-- Events from a state, `s0` the opened one, of which the armed stops are taken away: after them nothing is open, and each member
-- holds the serial records.
pub record CanBeSettled (s0 s : Federation) : Type 0 where
  pub events : List Event
  pub own : MakeThemselves events
  pub few : length events ≤ settling_bound s
  pub done : NothingOpen (run (lines events) (disarmed s))
  pub serial : (m : ℕ) → IsMember (run (lines events) (disarmed s)) m → HoldsSerially s0 (run (lines events) (disarmed s)) m
