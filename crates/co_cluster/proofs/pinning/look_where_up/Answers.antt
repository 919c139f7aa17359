use Rattle.std.proofs.Common.{sym, ap, ◌∙◌}
use Rattle.std.specs.FinMap.{get-empty}
use Rattle.std.specs.Ordering.{nat_cmp}
use Rattle.co_engine.specs.Pins.{pinned_rows}
use Rattle.co_state.specs.Table.{look}
use Rattle.co_cluster.proofs.Pinned.{no_pins}
use Rattle.co_cluster.proofs.pinning.look_where_up.Goals as goal

pub returns-then-not-up : goal.returns-then-not-up
returns-then-not-up g c = λ x r.
    let none = no_pins g.E.Engine.pins c.args.member.now (sym c.up.ensures ∙ c.if-not-up.true) in
    sym (ap (pinned_rows x.engine c.args.range.now) (ap (λ t. look t c.args.id) none ∙ get-empty nat_cmp c.args.id))
