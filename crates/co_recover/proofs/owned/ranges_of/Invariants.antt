use Rattle.std.proofs.Common.{◌≡◌, ◌++◌, map, length}
use Rattle.std.specs.List.{AllByRecursion}
use Rattle.co_record.specs.Reading.{span_of}
use Rattle.co_record.specs.Spelling.{IsRange}
use Rattle.co_recover.proofs.owned.ranges_of.Given as goal

abbrev pub invariant-loop-lo : goal.invariant-loop-lo
invariant-loop-lo l = (l.ranges ++ map span_of l.walk ≡ map span_of l.initial.walk) × AllByRecursion IsRange (map span_of l.walk)

abbrev pub decreases-loop-lo : goal.decreases-loop-lo
decreases-loop-lo l = length l.walk
