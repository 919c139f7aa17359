use Rattle.std.proofs.Common.{drop}
use Rattle.co_order_check.specs.Paths.{IsPath}
use Rattle.co_order_check.proofs.path.Path.holds.Given as goal

abbrev pub invariant-loop-reading : goal.invariant-loop-reading
invariant-loop-reading l = IsPath l.history l.self.record l.at (drop l.reading-index l.reading-items) → IsPath l.history l.self.record l.self.from l.self.readings.items
