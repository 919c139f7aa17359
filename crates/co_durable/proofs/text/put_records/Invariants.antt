use Rattle.std.proofs.Common.{◌≡◌, ◌++◌, ℕ, List, Some, take}
use Rattle.co_serial.specs.RecordText.{records_text}
use Rattle.co_durable.proofs.text.put_records.Given as goal

abbrev pub invariant-loop-row : goal.invariant-loop-row
invariant-loop-row g l = record {
  told : (held : List ℕ) → g.K.Sink.told l.initial.out ≡ Some held → (sent : List ℕ) × (g.K.Sink.told l.out ≡ Some (held ++ sent)) × (sent ++ l.text.items ≡ records_text (take l.row-index l.rows));
  counts : g.K.Sink.faults l.out ≡ g.K.Sink.faults l.initial.out;
}
