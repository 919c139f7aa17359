-- The logs that a state leaves, as the next start finds them: those of the federation's own nodes.
use Rattle.std.specs.Prelude.{ℕ, Bool, ◌&&◌, nat_le, List, [], if◌then◌else◌}
use Rattle.co_record.specs.declared.record.Record.{Record}
use Rattle.co_plain.specs.Opening.{Found}

-- of the first so many nodes; no other node has a file
abbrev pub records_left : ℕ → (ℕ → List Record) → ℕ → List Record
records_left most logs n = if nat_le 1 n && nat_le n most then logs n else []

abbrev pub left : ℕ → (ℕ → List Record) → (ℕ → Bool) → ℕ → Found
left most logs closed n = record { records = records_left most logs n; spare_closed = closed n }
