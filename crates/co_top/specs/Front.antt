-- The front of a schedule: its head, and the events of the lines behind it that were read.
use Rattle.std.specs.Prelude.{ℕ, suc, ◌+◌, ◌≡◌, ◌≢◌, ◌<◌, ◌≤◌, List, [], ◌∷◌, ◌++◌, length, Option, None, Some, Ok, Err}
use Rattle.co_base.specs.declared.head.Head.{Head}
use Rattle.co_message.specs.declared.event.Event.{Event}
use Rattle.co_replay.specs.Schedule.{HasLine, IsOutside, IsFaultOf}
use Rattle.co_schedule.specs.Limits.{longest_line}
use Rattle.co_schedule.specs.LineText.{first_line, behind_line, next_line}
use Rattle.co_schedule.specs.Lines.{most_bytes, most_lines, lines_read}
use Rattle.co_schedule.specs.Spelling.{line_text, head_text}
use Rattle.co_schedule.specs.declared.fault.LineFault.{LineFault}
use Rattle.co_schedule.specs.declared.fault.LinesFault.TheVariants as lines
use Rattle.co_schedule.specs.declared.fault.LineKind.TheVariants as kind
use Rattle.co_schedule.specs.declared.lines.Lines.{Lines}
use Rattle.co_top.specs.Ends.{of_line}
use Rattle.co_top.specs.declared.status.LimitKind.TheVariants as limit
use Rattle.co_top.specs.declared.status.Status.{Status}
use Rattle.co_top.specs.declared.status.Status.TheVariants as status

-- how many lines a schedule may have, the head among them
abbrev pub most : ℕ
most = 262144

-- the reader has the limits of a schedule, and read so many lines
pub record HasRead (count : ℕ) (lines : Lines) : Type 0 where
  pub bytes : most_bytes lines ≡ longest_line
  pub most_are : most_lines lines ≡ most
  pub read : lines_read lines ≡ count

-- the first line of the text is that of this head, and the rest lies behind it
pub record IsHeaded (text : List ℕ) (head : Head) (rest : List ℕ) : Type 0 where
  pub line : next_line longest_line most 0 text ≡ Ok (Some (head_text head))
  pub behind : rest ≡ behind_line text

-- What lies behind these events, each of which is that of a line of the text behind a head, in their turn.
pub data StandsBehind (head : Head) : List ℕ → List Event → List ℕ → Type 0 where
  AtStart : (text : List ℕ) → StandsBehind head text [] text
  OneMore : (text left : List ℕ) (events : List Event) (e : Event) → StandsBehind head text events left → HasLine head e →
      next_line longest_line most (suc (length events)) left ≡ Ok (Some (line_text e)) → StandsBehind head text (events ++ e ∷ []) (behind_line left)

-- why the head was not read: there is no line, or it is the line of no head, or it is long
abbrev pub IsHeadFault : List ℕ → Status → Type 0
IsHeadFault text (status.Schedule line what) = (line ≡ 1) × (what ≡ kind.Head) × ((head : Head) → first_line text ≡ head_text head → ⊥)
IsHeadFault text (status.Limit (limit.Line line)) = (line ≡ 1) × (longest_line < length (first_line text))
IsHeadFault text status.Read = Unit {0}
IsHeadFault text status.Memory = Unit {0}
IsHeadFault text _ = ⊥

-- Why the line behind so many events gave none: it is the line of no event, with this as its first fault from the left; it is long; or it is one
-- line too many. The source and the memory fail by themselves.
abbrev pub IsLineFault : Head → ℕ → List ℕ → Status → Type 0
IsLineFault head count left (status.Schedule line what) = (line ≡ count + 2) × (left ≢ []) × ((why : LineFault) × (of_line line why ≡ status.Schedule line what) × IsOutside head (first_line left) × IsFaultOf head (first_line left) why)
IsLineFault head count left (status.Limit (limit.Line line)) = (line ≡ count + 2) × (longest_line < length (first_line left))
IsLineFault head count left (status.Limit limit.Lines) = next_line longest_line most (suc count) left ≡ Err lines.Many
IsLineFault head count left status.Read = Unit {0}
IsLineFault head count left status.Memory = Unit {0}
IsLineFault head count left _ = ⊥

-- one more line was read, as that of this event, and the rest lies behind it; or there is none
abbrev pub IsNext : Head → ℕ → List ℕ → List ℕ → Option Event → Type 0
IsNext head count left rest None = (left ≡ []) × (rest ≡ [])
IsNext head count left rest (Some e) = (next_line longest_line most (suc count) left ≡ Ok (Some (line_text e))) × (rest ≡ behind_line left)

-- of the text behind the lines that were done no more was taken than a line and its newline may have
abbrev pub IsStreamed : List ℕ → Option (List ℕ) → Type 0
IsStreamed rest left = (after : List ℕ) → left ≡ Some after → length rest ≤ length after + (longest_line + 1)
