-- How one line of a schedule is read: the head, and a line behind it.
use Rattle.std.specs.Prelude.{ℕ, ◌≡◌, ◌<◌, List, length, Option, Some, Result, Ok, Err}
use Rattle.co_base.specs.declared.head.Head.{Head}
use Rattle.co_message.specs.declared.event.Event.{Event}
use Rattle.co_replay.specs.Schedule.{HasLine, IsOutside, IsFaultOf}
use Rattle.co_schedule.specs.Limits.{longest_line}
use Rattle.co_schedule.specs.Spelling.{line_text, head_text}
use Rattle.co_schedule.specs.declared.fault.LineFault.{LineFault}
use Rattle.co_schedule.specs.declared.fault.LineKind.TheVariants as kind
use Rattle.co_top.specs.Ends.{of_line}
use Rattle.co_top.specs.Front.{IsHeaded, IsHeadFault, IsNext, IsLineFault}
use Rattle.co_top.specs.declared.status.LimitKind.TheVariants as limit
use Rattle.co_top.specs.declared.status.Status.{Status}
use Rattle.co_top.specs.declared.status.Status.TheVariants as status

-- the line is that of this head; or of none; or long
abbrev pub IsHeadIn : List ℕ → Result Head Status → Type 0
IsHeadIn line (Ok head) = line ≡ head_text head
IsHeadIn line (Err (status.Schedule number what)) = (number ≡ 1) × (what ≡ kind.Head) × ((head : Head) → line ≡ head_text head → ⊥)
IsHeadIn line (Err (status.Limit (limit.Line number))) = (number ≡ 1) × (longest_line < length line)
IsHeadIn line (Err status.Memory) = Unit {0}
IsHeadIn line (Err _) = ⊥

-- the line of this number is that of this event; or of none, with its first fault from the left; or long
abbrev pub IsEventIn : Head → ℕ → List ℕ → Result Event Status → Type 0
IsEventIn head number line (Ok event) = HasLine head event × (line ≡ line_text event)
IsEventIn head number line (Err (status.Schedule at what)) = (at ≡ number) × ((why : LineFault) × (of_line at why ≡ status.Schedule at what) × IsOutside head line × IsFaultOf head line why)
IsEventIn head number line (Err (status.Limit (limit.Line at))) = (at ≡ number) × (longest_line < length line)
IsEventIn head number line (Err status.Memory) = Unit {0}
IsEventIn head number line (Err _) = ⊥

-- the head of this text was read, and the rest lies ahead; or why it was not
abbrev pub IsHeadRead : List ℕ → Option (List ℕ) → Result Head Status → Type 0
IsHeadRead text ahead (Ok head) = (rest : List ℕ) × IsHeaded text head rest × (ahead ≡ Some rest)
IsHeadRead text ahead (Err why) = IsHeadFault text why

-- the line behind so many events was read, if there is one, and the rest lies ahead; or why it was not
abbrev pub IsEventRead : Head → ℕ → List ℕ → Option (List ℕ) → Result (Option Event) Status → Type 0
IsEventRead head count left ahead (Ok event) = (rest : List ℕ) × IsNext head count left rest event × (ahead ≡ Some rest)
IsEventRead head count left ahead (Err why) = IsLineFault head count left why

-- an event that was read is one
abbrev pub some_of : Result Event Status → Result (Option Event) Status
some_of (Ok event) = Ok (Some event)
some_of (Err why) = Err why

-- the statuses of a line that gave no event
abbrev pub IsReadStatus : Status → Type 0
IsReadStatus (status.Schedule number what) = Unit {0}
IsReadStatus (status.Limit (limit.Line number)) = Unit {0}
IsReadStatus (status.Limit limit.Lines) = Unit {0}
IsReadStatus status.Read = Unit {0}
IsReadStatus status.Memory = Unit {0}
IsReadStatus _ = ⊥

-- the statuses of a run that ended before its last line
abbrev pub IsEnding : Status → Type 0
IsEnding status.Done = ⊥
IsEnding status.Usage = ⊥
IsEnding (status.NotSerial txn line) = ⊥
IsEnding (status.Transcript line) = ⊥
IsEnding _ = Unit {0}
