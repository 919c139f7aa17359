use Rattle.std.proofs.Common.{◌≡◌, drop}
use Rattle.co_order_check.specs.Paths.{end}
use Rattle.co_order_check.proofs.path.Path.end.Given as goal

abbrev pub invariant-loop-reading : goal.invariant-loop-reading
invariant-loop-reading l = end l.at (drop l.reading-index l.reading-items) ≡ end l.self.from l.self.readings.items
