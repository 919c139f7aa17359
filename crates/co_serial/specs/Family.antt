-- The records of all members, kept as a list.
use Rattle.std.specs.Prelude.{zero, suc, List, [], ◌∷◌}
use Rattle.std.specs.FinMap.{empty}
use Rattle.co_serial.specs.Records.{Records}
use Rattle.co_serial.specs.SerialRun.{AllRecords}

-- the records of member i stand at place i; a member past the end has none
abbrev pub family_of : List Records → AllRecords
family_of [] i = empty
family_of (r ∷ rs) zero = r
family_of (r ∷ rs) (suc i) = family_of rs i
