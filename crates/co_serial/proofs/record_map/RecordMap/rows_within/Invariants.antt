use Rattle.std.proofs.Common.{◌≡◌, ◌++◌, map}
use Rattle.co_serial.specs.Records.{row_of}
use Rattle.co_serial.proofs.record_map.RecordMap.rows_within.Given as goal

abbrev pub invariant-loop-key : goal.invariant-loop-key
invariant-loop-key l = l.rows.items ++ map row_of l.key-iterator ≡ map row_of l.initial.key-iterator
