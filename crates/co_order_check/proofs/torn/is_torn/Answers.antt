use Rattle.std.proofs.Common.{subst}
use Rattle.co_order_check.specs.Torn.{IsTorn, Kind, Outside, Own, Twice}
use Rattle.co_order_check.proofs.Refuting.{operations_at, get_at}
use Rattle.co_order_check.proofs.torn.is_torn.Goals as goal

pub returns-in-Kind : goal.returns-in-Kind
returns-in-Kind c = λ e. (
  c.if-torn-history.false,
  subst IsTorn (operations_at c.args.history.now c.args.torn.now.reader c.index-history-torn.result c.oldest_first-told.result.now c.if-torn-history.false c.oldest_first-told.ensures)
      (Kind c.args.torn.now.place c.index-told-torn.result (get_at c.oldest_first-told.result.now c.args.torn.now.place c.index-told-torn.result c.if-torn-told.false c.index-told-torn.is) (c.is_odd.ensures e)),
)

pub returns-in-Outside : goal.returns-in-Outside
returns-in-Outside c = λ e. (
  c.if-torn-history.false,
  subst IsTorn (operations_at c.args.history.now c.args.torn.now.reader c.index-history-torn.result c.oldest_first-told.result.now c.if-torn-history.false c.oldest_first-told.ensures)
      (Outside c.args.torn.now.place c.index-told-torn-in-Outside.result (get_at c.oldest_first-told.result.now c.args.torn.now.place c.index-told-torn-in-Outside.result c.if-torn-told.false c.index-told-torn-in-Outside.is) (c.is_outside.ensures e)),
)

pub returns-in-Own : goal.returns-in-Own
returns-in-Own c = λ e. (
  c.if-torn-history.false,
  subst IsTorn (operations_at c.args.history.now c.args.torn.now.reader c.index-history-torn.result c.oldest_first-told.result.now c.if-torn-history.false c.oldest_first-told.ensures)
      (Own c.args.torn.now.place c.in-Own.record (c.is_not_own.ensures e)),
)

pub returns-in-Twice : goal.returns-in-Twice
returns-in-Twice c = λ e. (
  c.if-torn-history.false,
  subst IsTorn (operations_at c.args.history.now c.args.torn.now.reader c.index-history-torn.result c.oldest_first-told.result.now c.if-torn-history.false c.oldest_first-told.ensures)
      (Twice c.in-Twice.earlier c.args.torn.now.place c.in-Twice.record (c.is_told_twice.ensures e)),
)
