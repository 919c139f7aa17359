use Rattle.std.proofs.Common.{◌∙◌}
use Rattle.co_mv.proofs.Stamping.{some_below}
use Rattle.co_mv.proofs.snapshots.Snapshots.has_before.Goals as goal

pub returns : goal.returns
returns c = c.is_some.ensures ∙ some_below c.args.self.now c.args.n c.greatest_held_below.result c.greatest_held_below.ensures
