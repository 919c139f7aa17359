use Rattle.std.proofs.Common.{◌∙◌, ◌-◌, length, ap, arith}
use Rattle.co_message.specs.declared.item.Item.{Item}
use Rattle.co_top.proofs.TurnsAlong.{last_is}
use Rattle.co_top.proofs.resolving.last_number.Goals as goal

pub returns-in-len1-up : goal.returns-in-len1-up
returns-in-len1-up c =
    let some = c.in-len1-up.len_at_least in
    ap (λ (x : Item). x.number) c.last-item.is ∙ last_is c.args.number (length c.args.items.now - 1) c.args.items.now c.last-item.result (omega (arith, some))
