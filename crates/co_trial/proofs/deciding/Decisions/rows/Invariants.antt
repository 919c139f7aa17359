use Rattle.std.proofs.Common.{◌≡◌, ◌++◌, ◌+◌, ◌-◌}
use Rattle.co_serial.specs.MemberRows.{numbered_rows}
use Rattle.co_serial.specs.Family.{family_of}
use Rattle.co_trial.proofs.deciding.Decisions.rows.Given as goal

abbrev pub invariant-loop-member : goal.invariant-loop-member
invariant-loop-member l = l.rows ++ numbered_rows (family_of l.self.serial) l.member (l.members + 1 - l.member) ≡ numbered_rows (family_of l.self.serial) 1 l.members
