use Rattle.std.proofs.Common.{◌≡◌, length}
use Rattle.std.specs.List.{AllByRecursion}
use Rattle.co_record.specs.Spelling.{IsChange}
use Rattle.co_serial.specs.Records.{with_changes}
use Rattle.co_recover.proofs.owned.lay.Given as goal

abbrev pub invariant-loop-key : goal.invariant-loop-key
invariant-loop-key l = (with_changes l.records l.walk ≡ with_changes l.initial.records l.initial.walk) × AllByRecursion IsChange l.walk

abbrev pub decreases-loop-key : goal.decreases-loop-key
decreases-loop-key l = length l.walk
