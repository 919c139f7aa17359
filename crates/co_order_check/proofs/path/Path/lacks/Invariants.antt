use Rattle.std.proofs.Common.{drop}
use Rattle.co_order_check.specs.Paths.{IsNone}
use Rattle.co_order_check.proofs.path.Path.lacks.Given as goal

abbrev pub invariant-loop-reading : goal.invariant-loop-reading
invariant-loop-reading l = IsNone l.place (drop l.reading-index l.reading-items) → IsNone l.place l.self.readings.items
