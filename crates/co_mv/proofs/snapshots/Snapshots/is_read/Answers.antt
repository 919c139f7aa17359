use Rattle.std.proofs.Common.{Some, None, ◌∙◌}
use Rattle.co_mv.proofs.Stamping.{read_at_least}
use Rattle.co_mv.proofs.snapshots.Snapshots.is_read.Goals as goal

pub returns-in-Some : goal.returns-in-Some
returns-in-Some c = c.is_seen_at.ensures ∙ read_at_least c.args.self.now c.args.version.now (Some c.in-Some.number) c.in-Some.ensures

pub returns-in-None : goal.returns-in-None
returns-in-None c = read_at_least c.args.self.now c.args.version.now None c.in-None.ensures
