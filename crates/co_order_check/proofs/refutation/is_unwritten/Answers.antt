use Rattle.std.proofs.Common.{◌≡◌, ◌∙◌, sym, ap, not}
use Rattle.co_order_check.proofs.Refuting.{unwritten_refutes}
use Rattle.co_order_check.proofs.refutation.is_unwritten.Goals as goal

pub returns : goal.returns
returns c = λ e.
    unwritten_refutes c.args.history.now c.args.reading.now.reader c.args.reading.now.place c.args.reading.now.record c.args.reading.now.value c.args.reading.now.source
    (sym c.is_some.ensures ∙ c.if-is_some.false) (c.is_none.ensures ∙ ap not c.if-is_none.false) (c.reads_from_others.ensures c.if-not-reads_from_others.false) (c.is_left_by_no_other.ensures e)
