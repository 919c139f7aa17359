use Rattle.std.proofs.Common.{◌≡◌, ◌++◌, length, map}
use Rattle.std.specs.List.{AllByRecursion}
use Rattle.co_record.specs.Spelling.{IsChange}
use Rattle.co_recover.specs.Locked.{without_value}
use Rattle.co_recover.proofs.owned.changed_keys_of.Given as goal

abbrev pub invariant-loop-key : goal.invariant-loop-key
invariant-loop-key l = (l.writes ++ map without_value l.walk ≡ map without_value l.initial.walk) × AllByRecursion IsChange l.walk

abbrev pub decreases-loop-key : goal.decreases-loop-key
decreases-loop-key l = length l.walk
