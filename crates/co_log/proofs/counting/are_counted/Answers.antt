use Rattle.std.proofs.Common.{refl, arith}
use Rattle.co_log.proofs.Counted.{one_spelled}
use Rattle.co_log.proofs.counting.are_counted.Goals as goal

pub returns-then-not-is_counted-clause-no : goal.returns-then-not-is_counted-clause-no
returns-then-not-is_counted-clause-no c = λ no. omega (arith, c.if-not-is_counted.ensures.no refl, one_spelled c.args.items.now c.loop-item.item-index c.item-item.result c.item-item.result c.loop-item-test.true c.item-item.is)
