use Rattle.std.proofs.Common.{◌≡◌, ap, sym, ◌∙◌, subst, IfOk}
use Rattle.co_serial.specs.Records.{Records}
use Rattle.co_serial.specs.SerialRun.{with_at, reply_to, records_after}
use Rattle.co_serial.specs.Family.{family_of}
use Rattle.co_serial.proofs.Families.{placed, on_ok}
use Rattle.co_serial.proofs.serial_map.SerialMap.apply.Goals as goal

pub returns-clause-reply : goal.returns-clause-reply
returns-clause-reply c =
    let p = placed _ _ _ _ _ _ c.self.view_is c.in_ok-make_room.ensures.same c.in_ok-make_room.ensures.room c.from.ensures c.index_mut-records.ensures.value in
    subst (λ (m : Records). IfOk c.apply.result (λ reply. reply ≡ reply_to m c.args.site.now.op)) (sym p.old_is) c.apply.ensures.reply

pub returns-clause-ok : goal.returns-clause-ok
returns-clause-ok c =
    let p = placed _ _ _ _ _ _ c.self.view_is c.in_ok-make_room.ensures.same c.in_ok-make_room.ensures.room c.from.ensures c.index_mut-records.ensures.value in
    on_ok c.apply.result (λ e. p.changed _ ∙ ap (λ r. with_at (family_of c.args.self.now) c.args.site.now.member r) (e ∙ ap (λ r. records_after r c.args.site.now.op) (sym p.old_is))) c.apply.ensures.ok
