use Rattle.std.proofs.Common.{filter, ap, sym, subst, ◌∙◌}
use Rattle.std.specs.FinMap.{entries}
use Rattle.co_base.specs.Span.{span_has}
use Rattle.co_mv.specs.Ordered.{AreOrdered}
use Rattle.co_mv.specs.Reading.{all_noted}
use Rattle.co_mv.proofs.Seeing.{ordered_within}
use Rattle.co_mv.proofs.reading.records_within.Goals as goal

pub returns : goal.returns
returns c = λ ordered.
    let given = c.into_iter-key-iterator.ensures.into_iter_gives ∙ c.within-key-items.ensures in
    let all = c.loop-key.invariant (subst AreOrdered (sym given) (ordered_within c.args.range.now (entries c.args.chains.now) ordered)) in
    sym (ap (all_noted c.args.installs c.loop-key.records) c.in-None.ensures.steps.0) ∙ all.1 ∙ ap (all_noted c.args.installs c.new-records.result) given ∙ ap (λ m. all_noted c.args.installs m (filter (λ e. span_has c.args.range.now e.0) (entries c.args.chains.now))) c.new-records.ensures
