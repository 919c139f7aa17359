use Rattle.std.proofs.Common.{ap, sym, ◌∙◌}
use Rattle.std.specs.FinMap.{get, insert, from_entries}
use Rattle.std.specs.Prelude.{is_some}
use Rattle.co_base.specs.Span.{span_cmp}
use Rattle.co_serial.proofs.MapViews.{view-get, view-insert}
use Rattle.co_locktab.specs.Holding.{changed, left}
use Rattle.co_locktab.proofs.Orders.{spans_total, spans_apart}
use Rattle.co_locktab.proofs.range_holders.RangeHolders.leave.Goals as goal

pub returns-in_default : goal.returns-in_default
returns-in_default c =
    ap (λ m. from_entries {R = span_cmp} m.entries) c.get_mut.follows.holds-at-none ∙ c.self.view_is
    ∙ ap (changed c.args.self.now c.args.range.now (left c.args.t)) (c.in_default.ensures.value ∙ sym (view-get spans_total _ _) ∙ ap (λ m. get m c.args.range.now) c.self.view_is)

pub returns : goal.returns
returns c =
    let es = c.self.inside.map.entries in
    let there = sym (ap is_some c.in-Some.ensures.value) in
    view-insert spans_total spans_apart es (c.get_mut.follows.lender c.leave.new.self).entries c.args.range.now c.leave.new.self ((c.get_mut.follows.holds c.leave.new.self).3 there).0
    ∙ ap (λ m. insert m c.args.range.now c.leave.new.self) c.self.view_is ∙ ap (insert c.args.self.now c.args.range.now) c.leave.ensures
    ∙ ap (changed c.args.self.now c.args.range.now (left c.args.t)) (c.in-Some.ensures.value ∙ sym (view-get spans_total _ _) ∙ ap (λ m. get m c.args.range.now) c.self.view_is)
