use Rattle.std.proofs.Common.{sym, subst}
use Rattle.co_mv.specs.Kept.{IsLeastHeldFrom}
use Rattle.co_mv.proofs.Stamping.{least_of_both}
use Rattle.co_mv.proofs.snapshots.Snapshots.least_held_from.Goals as goal

pub returns : goal.returns
returns c = subst (IsLeastHeldFrom c.args.self.now c.args.number) (sym c.lesser.ensures) (least_of_both c.args.self.now c.args.number c.least_from.result c.least_from-2.result c.least_from.ensures c.least_from-2.ensures)
