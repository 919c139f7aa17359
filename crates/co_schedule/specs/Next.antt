-- What the next line leaves of a reader and of its source.
use Rattle.std.specs.Prelude.{ℕ, ◌≡◌, ◌≢◌, ◌+◌, ◌<◌, ◌≤◌, List, [], ◌++◌, length, position, Option, None, Some, option_copied, Result, OnOk, IfOk, IsErrOf}
use Rattle.std.specs.Borrow.{Fml, Bor, MutBor}
use Rattle.std.specs.Io.BufRead.{Rests}
use Rattle.co_outside.specs.Onward.{Past, LiesAhead}
use Rattle.co_schedule.specs.LineText.{is_newline, behind_line}
use Rattle.co_schedule.specs.Lines.{most_bytes, most_lines, lines_read, unread, ahead, lent_then, next_of, IsRead}
use Rattle.co_schedule.specs.declared.fault.LinesFault.{LinesFault}
use Rattle.co_schedule.specs.declared.fault.LinesFault.TheVariants.{Read}
use Rattle.co_schedule.specs.declared.lines.Lines.{Lines}
use Rattle.co_schedule.specs.contracts.lines.Lines.{the_row}

-- The reader moved behind the next line. Fewer bytes are held behind a line than a line and its newline
-- have, and at every return no more than these; also no more was taken of what lay ahead than a line and
-- its newline may have. Where the source failed, all that was taken is still ahead, and no whole line of
-- it is held.
pub record HasMoved {A : Type 0} (old : Lines) (left_old left_new : Option (List ℕ)) (result : Result A LinesFault) (new : Lines) : Type 0 where
  pub behind : (text : List ℕ) → ahead old left_old ≡ Some text → OnOk result (ahead new left_new ≡ Some (behind_line text))
  pub few : OnOk result (length (unread new) ≤ most_bytes new)
  pub held : length (unread new) ≤ most_bytes new + 1
  pub taken : (text after : List ℕ) → ahead old left_old ≡ Some text → left_new ≡ Some after → length text ≤ length after + (most_bytes new + 1)
  pub kept : (text : List ℕ) → ahead old left_old ≡ Some text → IsErrOf result Read → ahead new left_new ≡ Some text
  pub whole : IsErrOf result Read → position is_newline (unread new) ≡ None
  pub limits : (most_bytes new ≡ most_bytes old) × (most_lines new ≡ most_lines old)

-- What was next of every text that may lie ahead was read, and what lies behind it is ahead then.
pub record HasHeard (old : Lines) (source_old source_new : Past) (new : Lines) (result : Result (Unit {0}) LinesFault) : Type 0 where
  pub next : (text more : List ℕ) → LiesAhead source_old source_new text more → IsRead (next_of old (unread old ++ text)) new result
  pub behind : (text more : List ℕ) → LiesAhead source_old source_new text more → OnOk result (unread new ++ more ≡ behind_line (unread old ++ text))

-- the same, and the line is counted
abbrev pub HasRead : Lines → Option (List ℕ) → Option (List ℕ) → Past → Past → Result (Option (Bor (List ℕ))) LinesFault → Lines → Type 0
HasRead old left_old left_new source_old source_new result new =
    HasMoved old left_old left_new result new
    × ((text more : List ℕ) → LiesAhead source_old source_new text more → OnOk result (unread new ++ more ≡ behind_line (unread old ++ text)))
    × IfOk result (λ line. lines_read new ≡ lent_then (lines_read old) (option_copied line))

-- so the reader stands once its line is no longer lent
abbrev pub EndsAs : MutBor Lines → Option (List ℕ) → Option (List ℕ) → Past → Past → Result (Option (Bor (List ℕ))) LinesFault → Fml
EndsAs reader left_old left_new source_old source_new result = Rests the_row reader (HasRead reader.now left_old left_new source_old source_new result)

-- where a whole line is held, or a byte behind the last line, the source is not asked
pub record IsIdle {S : Type 0} (reader : Lines) (old new : S) : Type 0 where
  pub line : (end : ℕ) → lines_read reader < most_lines reader → position is_newline (unread reader) ≡ Some end → new ≡ old
  pub last : lines_read reader ≡ most_lines reader → unread reader ≢ [] → new ≡ old
