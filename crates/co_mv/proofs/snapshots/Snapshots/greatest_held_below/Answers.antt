use Rattle.std.proofs.Common.{sym, subst}
use Rattle.co_mv.specs.Kept.{IsGreatestHeldBelow}
use Rattle.co_mv.proofs.Stamping.{greatest_of_both}
use Rattle.co_mv.proofs.snapshots.Snapshots.greatest_held_below.Goals as goal

pub returns : goal.returns
returns c = subst (IsGreatestHeldBelow c.args.self.now c.args.number) (sym c.greater.ensures) (greatest_of_both c.args.self.now c.args.number c.greatest_below.result c.greatest_below-2.result c.greatest_below.ensures c.greatest_below-2.ensures)
