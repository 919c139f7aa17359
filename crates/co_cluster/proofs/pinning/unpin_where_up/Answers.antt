use Rattle.std.proofs.Common.{sym, ap, ◌∙◌}
use Rattle.co_state.specs.Table.{without}
use Rattle.co_cluster.proofs.Pinned.{no_pins, none_left}
use Rattle.co_cluster.proofs.pinning.unpin_where_up.Goals as goal

pub returns-else-up-clause-pins : goal.returns-else-up-clause-pins
returns-else-up-clause-pins g c =
    let none = no_pins g.E.Engine.pins c.args.member.now (sym c.up.ensures ∙ c.if-up.false) in
    none ∙ sym (none_left c.args.id) ∙ ap (λ t. without t c.args.id) (sym none)
