use Rattle.co_mv.proofs.Stamping.{gone_at_all}
use Rattle.co_mv.proofs.snapshots.Snapshots.is_gone.Goals as goal

pub returns-then-version-self : goal.returns-then-version-self
returns-then-version-self c = gone_at_all c.args.self.now c.args.version.now c.has_before.result c.in-None.is c.if-version-self.true c.has_before.ensures
