use Rattle.std.proofs.Common.{◌≡◌, ◌++◌, map, length}
use Rattle.std.specs.List.{AllByRecursion}
use Rattle.co_record.specs.Reading.{row_of}
use Rattle.co_record.specs.Spelling.{IsRow}
use Rattle.co_recover.proofs.owned.rows_of.Given as goal

abbrev pub invariant-loop-key : goal.invariant-loop-key
invariant-loop-key l = (l.rows ++ map row_of l.walk ≡ map row_of l.initial.walk) × AllByRecursion IsRow (map row_of l.walk)

abbrev pub decreases-loop-key : goal.decreases-loop-key
decreases-loop-key l = length l.walk
