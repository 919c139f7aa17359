use Rattle.std.proofs.Common.{sym, ◌∙◌}
use Rattle.co_order_check.proofs.Casing.{along_follows}
use Rattle.co_order_check.proofs.rules.along.Goals as goal

pub returns : goal.returns
returns c =
    along_follows c.args.history.now c.args.path.now.record c.args.path.now.from c.args.path.now.readings.items c.in_ok-before.before c.in_ok-behind.behind
    (c.holds.ensures c.if-not-holds.false) c.in_ok-before.was (sym c.end.ensures ∙ c.in_ok-behind.was) c.if-before-behind.false
