use Rattle.std.proofs.Common.{◌≡◌, ◌++◌}
use Rattle.co_serial.specs.MemberRows.{member_rows}
use Rattle.co_durable.proofs.laying.push_rows.Given as goal

abbrev pub invariant-loop-row : goal.invariant-loop-row
invariant-loop-row l = l.durable ≡ l.initial.durable ++ member_rows l.member l.yielded
