-- The text of records of members: one line for each.
use Rattle.std.specs.Prelude.{ℕ, List, ◌++◌, codes, decimal}
use Rattle.std.specs.List.{flat_map}
use Rattle.co_serial.specs.declared.member_row.MemberRow.{MemberRow}

-- the member, the key and the value, with spaces between them and a newline behind
abbrev pub record_line : MemberRow → List ℕ
record_line row = codes "m" ++ decimal row.member ++ codes " " ++ row.row.key ++ codes " " ++ row.row.value ++ codes "\n"

abbrev pub records_text : List MemberRow → List ℕ
records_text rows = flat_map record_line rows
