use Rattle.std.proofs.Common.{◌≡◌, ◌++◌, take}
use Rattle.co_serial.specs.MemberRows.{member_rows}
use Rattle.co_serial.specs.RecordText.{records_text}
use Rattle.co_check.proofs.text.append_rows.Given as goal

abbrev pub invariant-loop-row : goal.invariant-loop-row
invariant-loop-row l = l.into.items ≡ l.initial.into.items ++ records_text (member_rows l.member (take l.row-index l.rows))
