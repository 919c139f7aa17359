use Rattle.std.proofs.Common.{◌≡◌, ap, sym, ◌∙◌, ◌<◌, ◌≤◌, length, arith}
use Rattle.std.specs.FinMap.{get, get-empty, empty}
use Rattle.co_base.specs.Order.{key_cmp}
use Rattle.co_serial.proofs.Families.{family-get_or, family-past}
use Rattle.co_serial.specs.Family.{family_of}
use Rattle.co_serial.proofs.serial_map.SerialMap.get.Goals as goal

pub returns-then-place-len : goal.returns-then-place-len
returns-then-place-len c =
    let h : c.from-place.result < length c.self.inside.members.items = omega arith in
    let e = family-get_or c.self.inside.members.items c.from-place.result c.index.result.now h in
    let f : family_of c.args.self.now c.args.member ≡ c.index.result.now = cc e in
    c.get.ensures ∙ ap (λ m. get m c.args.key.now) (sym f)

pub returns-else-place-len : goal.returns-else-place-len
returns-else-place-len c =
    let h : length c.self.inside.members.items ≤ c.args.member = omega arith in
    let f : family_of c.args.self.now c.args.member ≡ empty = ap (λ ms. family_of ms c.args.member) (sym c.self.view_is) ∙ family-past _ _ h in
    sym (ap (λ m. get m c.args.key.now) f ∙ get-empty key_cmp c.args.key.now)
