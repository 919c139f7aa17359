-- The records of members in one list: members ascending, and the keys of each ascending.
use Rattle.std.specs.Prelude.{ℕ, zero, suc, List, [], ◌++◌, map}
use Rattle.co_base.specs.declared.row.Row.{Row}
use Rattle.co_serial.specs.Records.{all_rows}
use Rattle.co_serial.specs.SerialRun.{AllRecords}
use Rattle.co_serial.specs.declared.member_row.MemberRow.{MemberRow}

-- the records of one member
abbrev pub member_rows : ℕ → List Row → List MemberRow
member_rows member rows = map (λ row. record { member = member; row = row }) rows

-- the records of so many members, the first of which has this number
abbrev pub numbered_rows : AllRecords → ℕ → ℕ → List MemberRow
numbered_rows all member zero = []
numbered_rows all member (suc count) = member_rows member (all_rows (all member)) ++ numbered_rows all (suc member) count
