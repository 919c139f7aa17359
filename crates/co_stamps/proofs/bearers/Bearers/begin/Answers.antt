use Rattle.std.proofs.Common.{ap, ◌∙◌}
use Rattle.std.specs.FinMap.{insert, nat_cmp-IsAntisymmetric}
use Rattle.std.specs.Cmp.{nat_cmp_total}
use Rattle.co_serial.proofs.MapViews.{view-insert}
use Rattle.co_state.specs.Table.{put}
use Rattle.co_stamps.proofs.bearers.Bearers.begin.Goals as goal

pub returns-clause-ok : goal.returns-clause-ok
returns-clause-ok c =
    view-insert nat_cmp_total nat_cmp-IsAntisymmetric _ _ c.args.number c.insert.new.self c.in_ok-insert-2.ensures.updates.0
    ∙ ap (λ m. insert m c.args.number c.insert.new.self) c.self.view_is
    ∙ ap (insert c.args.self.now c.args.number) (c.in_ok-insert.ensures.ok ∙ ap (λ x. put x c.args.t tt) c.new-txns.ensures)
