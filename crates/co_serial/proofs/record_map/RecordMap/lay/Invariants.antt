use Rattle.std.proofs.Common.{◌≡◌, take}
use Rattle.co_serial.specs.Records.{with_changes}
use Rattle.co_serial.proofs.record_map.RecordMap.lay.Given as goal

abbrev pub invariant-loop-change : goal.invariant-loop-change
invariant-loop-change l = l.self ≡ with_changes l.initial.self (take l.change-index l.changes)
