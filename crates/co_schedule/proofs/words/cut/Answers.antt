use Rattle.std.proofs.Common.{sym}
use Rattle.co_schedule.proofs.Cutting.{cut_at, cut_nowhere}
use Rattle.co_schedule.proofs.words.cut.Goals as goal

pub returns-in-Some : goal.returns-in-Some
returns-in-Some c = cut_at _ c.args.line.now c.in-Some.at (sym c.in-Some.ensures)

pub returns-in-None : goal.returns-in-None
returns-in-None c = cut_nowhere _ c.args.line.now (sym c.in-None.ensures)
