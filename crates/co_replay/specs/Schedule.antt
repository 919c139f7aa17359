-- The lines of a schedule behind its head.
use Rattle.std.specs.Prelude.{ℕ, ◌≡◌, ◌≤◌, ◌↔◌, ◌<◌, List, length, Some}
use Rattle.co_base.specs.declared.head.Head.{Head}
use Rattle.co_message.specs.declared.event.Event.{Event}
use Rattle.co_schedule.specs.Limits.{longest_line}
use Rattle.co_schedule.specs.Faults.{fault_in}
use Rattle.co_schedule.specs.Grammar.{event_places}
use Rattle.co_schedule.specs.Spelling.{line_text}
use Rattle.co_schedule.specs.View.{IsEventFor}
use Rattle.co_schedule.specs.declared.fault.LineFault.{LineFault}
use Rattle.co_schedule.specs.declared.fault.LineFault.TheVariants as fault

-- an event that has a line in a schedule of this head
abbrev pub HasLine : Head → Event → Type 0
HasLine head event = IsEventFor (length head.kinds) head.coords event × (length (line_text event) ≤ longest_line)

-- the line of no event
abbrev pub IsOutside : Head → List ℕ → Type 0
IsOutside head line = (event : Event) → HasLine head event → line ≡ line_text event → ⊥

-- what is wrong with a line: it is long, or else the first fault from the left
abbrev pub IsFaultOf : Head → List ℕ → LineFault → Type 0
IsFaultOf head line why =
    ((why ≡ fault.Long) ↔ (longest_line < length line))
    × (length line ≤ longest_line → fault_in (event_places (length head.kinds) head.coords) line ≡ Some why)
