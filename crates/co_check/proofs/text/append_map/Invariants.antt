use Rattle.std.proofs.Common.{◌≡◌, ◌++◌, ◌-◌}
use Rattle.co_base.specs.Lent.{Begins}
use Rattle.co_base.specs.Limits.{most_members}
use Rattle.co_serial.specs.MemberRows.{numbered_rows}
use Rattle.co_serial.specs.RecordText.{records_text}
use Rattle.co_serial.specs.Family.{family_of}
use Rattle.co_check.proofs.text.append_map.Given as goal

abbrev pub invariant-loop-member : goal.invariant-loop-member
invariant-loop-member l = record {
  text : l.into.items ++ records_text (numbered_rows (family_of l.map) l.member (17 - l.member)) ≡ l.initial.into.items ++ records_text (numbered_rows (family_of l.map) 1 most_members);
  begins : Begins l.initial.into.items l.into.items;
}
