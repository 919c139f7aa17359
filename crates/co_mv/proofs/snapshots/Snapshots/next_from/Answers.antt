use Rattle.std.proofs.Common.{sym, subst}
use Rattle.co_mv.specs.Kept.{IsNext}
use Rattle.co_mv.proofs.Stamping.{next_of}
use Rattle.co_mv.proofs.snapshots.Snapshots.next_from.Goals as goal

pub returns : goal.returns
returns c = λ l. subst (IsNext c.args.self.now c.args.from) (sym c.unwrap_or.ensures) (next_of c.args.self.now c.args.from c.least_held_from.result c.least_held_from.ensures l)
