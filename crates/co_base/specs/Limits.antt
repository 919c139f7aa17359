-- The limits of a federation, of the files of its directory of logs, and of a run over it.
use Rattle.std.specs.Prelude.{ℕ}

-- the most members that a federation has
abbrev pub most_members : ℕ
most_members = 16

-- the most coordinators that a federation has
abbrev pub most_coordinators : ℕ
most_coordinators = 8

-- the most operations of one transaction at one member that are answered
abbrev pub most_operations : ℕ
most_operations = 1024

-- the most bytes that a log file has
abbrev pub most_log_bytes : ℕ
most_log_bytes = 268435456

-- the most transactions whose numbers stand in the opened logs or are begun in the run over them
abbrev pub most_transactions : ℕ
most_transactions = 65536
