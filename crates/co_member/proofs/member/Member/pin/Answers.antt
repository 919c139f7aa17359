use Rattle.std.proofs.Common.{ℕ, Some, refl, sym, ap, subst}
use Rattle.std.specs.Prelude.{IfOk}
use Rattle.co_engine.specs.Pins.{HasPinned}
use Rattle.co_state.proofs.Tables.{on_ok}
use Rattle.co_state.specs.Table.{Table}
use Rattle.co_undecided.specs.Pins.{pins_in}
use Rattle.co_undecided.specs.Represented.{Represents}
use Rattle.co_member.specs.Pins.{pins_where}
use Rattle.co_member.proofs.Carrying.{stands_on}
use Rattle.co_member.proofs.Changing.{keeps}
use Rattle.co_member.proofs.member.Member.pin.Goals as goal

pub returns-clause-stands : goal.returns-clause-stands
returns-clause-stands g c = λ x r.
    let m = c.args.self.now in
    let running = c.in-Some.running in
    let here = r.running running c.in-Some.is in
    let after = record running { undecided = c.pin.new.self } in
    on_ok c.pin.result (λ (now : Represents g.E.Engine.stands_for c.pin.new.self x.engine x.asked).
    stands_on g.E.Engine.stands_for m (record m { running = Some after }) x x after r c.requires.up refl refl refl refl (keeps g.E.Engine.stands_for m.kind running c.pin.new.self x x here now refl refl) r.log)
    (c.pin.ensures.stands x.engine x.asked here.undecided)

pub returns-clause-pinned : goal.returns-clause-pinned
returns-clause-pinned g c = λ x r.
    let here = r.running c.in-Some.running c.in-Some.is in
    subst (λ (pins : Table ℕ). IfOk c.pin.result (HasPinned x.engine c.args.id pins (pins_in g.E.Engine.pins c.pin.new.self))) (sym (ap (pins_where g.E.Engine.pins) c.in-Some.is))
    (c.pin.ensures.pinned x.engine x.asked here.undecided)
