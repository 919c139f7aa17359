use Rattle.std.proofs.Common.{◌≡◌, ap, sym, ◌∙◌, ◌<◌, ◌≤◌, length, arith, subst, IfOk}
use Rattle.std.specs.FinMap.{empty}
use Rattle.co_serial.proofs.Families.{family-get_or, family-past}
use Rattle.co_serial.specs.Records.{all_rows, Records}
use Rattle.co_serial.specs.Family.{family_of}
use Rattle.co_serial.proofs.RecordRows.{all_rows-empty}
use Rattle.co_serial.proofs.serial_map.SerialMap.rows.Goals as goal

pub returns-then-place-len : goal.returns-then-place-len
returns-then-place-len c =
    let h : c.from-place.result < length c.self.inside.members.items = omega arith in
    let e = family-get_or c.self.inside.members.items c.from-place.result c.index.result.now h in
    let f : family_of c.args.self.now c.args.member ≡ c.index.result.now = cc e in
    subst (λ (m : Records). IfOk c.rows.result (λ rows. rows ≡ all_rows m)) (sym f) c.rows.ensures

pub returns-else-place-len : goal.returns-else-place-len
returns-else-place-len c =
    let h : length c.self.inside.members.items ≤ c.args.member = omega arith in
    let f : family_of c.args.self.now c.args.member ≡ empty = ap (λ ms. family_of ms c.args.member) (sym c.self.view_is) ∙ family-past _ _ h in
    c.new.ensures ∙ sym (ap all_rows f ∙ all_rows-empty)
