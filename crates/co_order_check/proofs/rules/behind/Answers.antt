use Rattle.std.proofs.Common.{sym, ◌∙◌}
use Rattle.co_order_check.proofs.Casing.{behind_follows}
use Rattle.co_order_check.proofs.rules.behind.Goals as goal

pub returns : goal.returns
returns c =
    let changed = c.changes.ensures c.if-not-changes.false in
    behind_follows c.args.history.now c.args.known.now c.args.path.now.record c.args.path.now.from c.args.path.now.readings.items c.in_ok-before.before c.args.place
    (c.holds.ensures c.if-not-holds.false) (sym c.end.ensures ∙ c.in_ok-before.was) changed.0 changed.1 (c.lacks.ensures c.if-not-lacks.false) (c.is_known_behind.ensures c.if-not-is_known_behind.false)
