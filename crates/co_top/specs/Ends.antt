-- How a command ends: its exit status, its note, and which status stands for a fault.
use Rattle.std.specs.Prelude.{ℕ, ◌++◌, ◌∷◌, ◌/◌, ◌%◌, List, [], Option, None, Some, codes, decimal, slice_index_or}
use Rattle.co_outside.specs.Spots.{spot_name}
use Rattle.co_durable.specs.declared.fault.WorldFault.{WorldFault}
use Rattle.co_durable.specs.declared.fault.WorldFault.TheVariants as world
use Rattle.co_schedule.specs.declared.fault.LineFault.{LineFault}
use Rattle.co_schedule.specs.declared.fault.LineFault.TheVariants as fault
use Rattle.co_schedule.specs.declared.fault.LinesFault.{LinesFault}
use Rattle.co_schedule.specs.declared.fault.LinesFault.TheVariants as lines
use Rattle.co_schedule.specs.declared.fault.LineKind.{LineKind}
use Rattle.co_schedule.specs.declared.fault.LineKind.TheVariants as kind
use Rattle.co_top.specs.declared.status.LimitKind.TheVariants as limit
use Rattle.co_top.specs.declared.status.Status.{Status}
use Rattle.co_top.specs.declared.status.Status.TheVariants as status

abbrev pub code_of : Status → ℕ
code_of status.Done = 0
code_of status.Usage = 2
code_of (status.Schedule line what) = 3
code_of status.Read = 4
code_of status.Write = 5
code_of (status.Device spot) = 6
code_of (status.Differs spot at kept read) = 7
code_of (status.InUse spot) = 8
code_of (status.BadLog spot at) = 9
code_of (status.Limit what) = 10
code_of status.Memory = 11
code_of (status.OldLog spot) = 13
code_of (status.NotSerial txn line) = 14
code_of (status.Transcript line) = 15

-- what is wrong with a line
abbrev pub kind_word : LineKind → List ℕ
kind_word kind.Word = codes ": word"
kind_word kind.Number = codes ": number"
kind_word kind.Name = codes ": name"
kind_word kind.Extra = codes ": extra"
kind_word kind.Head = codes ": head"

-- a digit from 0 to 15, in lower case
abbrev pub hex_digit : ℕ → ℕ
hex_digit n = slice_index_or (codes "0123456789abcdef") n 0

-- two digits, or `none` where there is no byte
abbrev pub byte_word : Option ℕ → List ℕ
byte_word None = codes "none"
byte_word (Some byte) = hex_digit (byte / 16) ∷ hex_digit (byte % 16) ∷ []

-- the note, without the newline that ends it
abbrev pub words_of : Status → List ℕ
words_of status.Done = []
words_of status.Usage = codes "usage"
words_of (status.Schedule line what) = codes "schedule line " ++ decimal line ++ kind_word what
words_of status.Read = codes "read fault"
words_of status.Write = codes "write fault"
words_of (status.Device spot) = codes "device fault: " ++ spot_name spot
words_of (status.Differs spot at kept read) = codes "differs: " ++ spot_name spot ++ codes " at " ++ decimal at ++ codes ": kept " ++ byte_word kept ++ codes ", read " ++ byte_word read
words_of (status.InUse spot) = codes "logs in use: " ++ spot_name spot
words_of (status.BadLog spot at) = codes "bad log: " ++ spot_name spot ++ codes " at " ++ decimal at
words_of (status.Limit (limit.Line line)) = codes "limit: line " ++ decimal line ++ codes " is long"
words_of (status.Limit limit.Lines) = codes "limit: lines"
words_of (status.Limit limit.Transactions) = codes "limit: transactions"
words_of (status.Limit (limit.Log spot)) = codes "limit: log " ++ spot_name spot
words_of status.Memory = codes "want of memory"
words_of (status.OldLog spot) = codes "old log: " ++ spot_name spot
words_of (status.NotSerial txn line) = []
words_of (status.Transcript line) = codes "transcript line " ++ decimal line

abbrev pub note_of : Status → List ℕ
note_of status.Done = []
note_of (status.NotSerial txn line) = []
note_of ended = words_of ended ++ 10 ∷ []

abbrev pub of_world : WorldFault → Status
of_world (world.Device spot) = status.Device spot
of_world (world.Differs spot at kept read) = status.Differs spot at kept read
of_world (world.InUse spot) = status.InUse spot
of_world (world.Bad spot at) = status.BadLog spot at
of_world (world.Full spot) = status.Limit (limit.Log spot)
of_world world.Count = status.Limit limit.Transactions
of_world (world.Old spot) = status.OldLog spot
of_world world.Memory = status.Memory

abbrev pub of_lines : LinesFault → Status
of_lines lines.Read = status.Read
of_lines (lines.Long line) = status.Limit (limit.Line line)
of_lines lines.Many = status.Limit limit.Lines
of_lines lines.Memory = status.Memory

abbrev pub of_line : ℕ → LineFault → Status
of_line line fault.Word = status.Schedule line kind.Word
of_line line fault.Number = status.Schedule line kind.Number
of_line line fault.Name = status.Schedule line kind.Name
of_line line fault.Extra = status.Schedule line kind.Extra
of_line line fault.Head = status.Schedule line kind.Head
of_line line fault.Long = status.Limit (limit.Line line)
of_line line fault.Memory = status.Memory
