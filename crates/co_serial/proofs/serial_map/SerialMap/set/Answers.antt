use Rattle.std.proofs.Common.{ap, sym, ◌∙◌}
use Rattle.std.specs.FinMap.{insert}
use Rattle.co_serial.specs.SerialRun.{with_at}
use Rattle.co_serial.specs.Family.{family_of}
use Rattle.co_serial.proofs.Families.{placed, on_ok}
use Rattle.co_serial.proofs.serial_map.SerialMap.set.Goals as goal

pub returns-clause-ok : goal.returns-clause-ok
returns-clause-ok c =
    let p = placed _ _ _ _ _ _ c.self.view_is c.in_ok-make_room.ensures.same c.in_ok-make_room.ensures.room c.from.ensures c.index_mut-records.ensures.value in
    on_ok c.set.result (λ e. p.changed _ ∙ ap (λ r. with_at (family_of c.args.self.now) c.args.member r) (e ∙ ap (λ r. insert r c.args.key c.args.value) (sym p.old_is))) c.set.ensures.ok
