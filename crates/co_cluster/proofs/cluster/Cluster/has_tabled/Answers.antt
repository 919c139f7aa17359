use Rattle.std.proofs.Common.{◌∙◌, not, sym, ap}
use Rattle.co_recover.specs.declared.past.CoordPast.{CoordPast}
use Rattle.co_cluster.proofs.OpenNodes.{is_empty, empty_is, none_is, down_tabled}
use Rattle.co_cluster.proofs.cluster.Cluster.has_tabled.Goals as goal

pub returns : goal.returns
returns g c = λ s r.
    let k = c.args.coord in
    let m = c.coord_at-node.result.now in
    let down = (c.coord_at-node.ensures s r).stands.down (none_is m.table (sym c.up.ensures ∙ c.if-up.false)) in
    empty_is c.is_empty.result c.as_slice.result.now c.in_ok-past.past.committed c.is_empty.ensures c.as_slice.ensures
    ∙ ap (λ (p : CoordPast). not (is_empty p.committed)) (c.in_ok-past.ensures s r) ∙ sym (down_tabled (s.coord k).log (s.coord k) down)
