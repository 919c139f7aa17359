use Rattle.std.proofs.Common.{◌≡◌, ℕ, sym, ap, subst}
use Rattle.std.specs.Prelude.{IfOk}
use Rattle.co_engine.specs.Pins.{pinned_rows}
use Rattle.co_state.specs.Table.{Table, look}
use Rattle.co_member.specs.Pins.{pins_where}
use Rattle.co_member.proofs.member.Member.look.Goals as goal

pub returns : goal.returns
returns g c = λ x r.
    let here = r.running c.running.result.now c.running.ensures in
    subst (λ (pins : Table ℕ). IfOk c.look.result (λ rows. rows ≡ pinned_rows x.engine c.args.range.now (look pins c.args.id))) (sym (ap (pins_where g.E.Engine.pins) c.running.ensures)) (c.look.ensures x.engine x.asked here.undecided)
