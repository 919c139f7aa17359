use Rattle.std.proofs.Common.{ℕ, [], refl, sym, subst, arith}
use Rattle.co_base.specs.declared.node.Node.TheVariants as node
use Rattle.co_base.specs.Limits.{most_coordinators}
use Rattle.co_log.specs.LogView.{LogView}
use Rattle.co_plain.specs.Opening.{Found, opened_coord, opened_log}
use Rattle.co_law_node.proofs.CoordEvents.{whole_coord_opened}
use Rattle.co_law_node.proofs.CoordLaws.{coord_as_told}
use Rattle.co_law_node.proofs.WritableCoords.{opened_coord_writable}
use Rattle.co_plain.specs.Numbers.{IsAmong}
use Rattle.co_law_node.specs.Writable.{IsWritableCoord}
use Rattle.co_coord_tests.specs.Played.{IsHeldIn}
use Rattle.co_coord_tests.proofs.Starting.{nothing_past}
use Rattle.co_coord_tests.proofs.opened.opened.Goals as goal

pub returns : goal.returns
returns c =
    let m = c.in_ok-log.ensures in
    let found : Found = record { records = []; spare_closed = m.spare_closed } in
    let own : IsAmong 1 most_coordinators = (omega arith, omega arith) in
    let numbers = c.in_ok-attach.ensures.numbers in
    record {
      members = numbers.1;
      own = subst (λ c. IsAmong c most_coordinators) (sym numbers.0) own;
      held = subst (λ (v : LogView). IsHeldIn c.made.new.home v) (sym c.in_ok-attach.ensures.log) m.held;
      plain = opened_coord 1 found;
      stands = c.in_ok-attach.ensures.stands (opened_log (node.Coord 1) found) m.stands (nothing_past c.new.result c.new-2.result c.new.ensures c.new-2.ensures);
      whole = coord_as_told 3 (opened_coord 1 found) (whole_coord_opened 3 1 found refl);
      writable = subst (λ (n : ℕ). IsWritableCoord n (opened_coord 1 found)) (sym numbers.0) (opened_coord_writable 3 1 found (omega arith) own refl tt);
    }
