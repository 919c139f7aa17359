-- Rounds that help: events of nodes among which one exchange that can help, or one timer that ends a transaction, goes through.
use Rattle.std.specs.Prelude.{◌≡◌, List, [], ◌∷◌, ◌++◌}
use Rattle.co_message.specs.declared.event.Event.{Event}
use Rattle.co_plain.specs.Federation.{Federation}
use Rattle.co_plain.specs.Runs.{run, lines}
use Rattle.co_law_settle.specs.SettlingTurns.{Turn, turn_events, CanTurn}
use Rattle.co_law_settle.specs.SettlingMeasure.{lowered_by}
use Rattle.co_law_rounds.specs.CanBeSettled.{MakeThemselves}

-- A round from a state. Where its turn begins, all nodes are up and it helps; before and behind it nodes may do what they will, and
-- messages come late, again or for the first time.
pub record IsRound (s : Federation) (events : List Event) : Type 0 where
  pub before : List Event
  pub turn : Turn
  pub after : List Event
  pub own_before : MakeThemselves before
  pub own_after : MakeThemselves after
  pub helps : CanTurn (run (lines before) s) turn
  pub no_restart : lowered_by turn ≡ 1
  pub same : events ≡ before ++ (turn_events (run (lines before) s) turn ++ after)

-- rounds, one behind another, and the events of all
abbrev pub AreRounds : List (List Event) → Federation → Type 0
AreRounds [] s = Unit {0}
AreRounds (round ∷ rounds) s = IsRound s round × AreRounds rounds (run (lines round) s)

abbrev pub after_rounds : List (List Event) → Federation → Federation
after_rounds [] s = s
after_rounds (round ∷ rounds) s = after_rounds rounds (run (lines round) s)
