use Rattle.std.proofs.Common.{◌≡◌, drop}
use Rattle.co_mv.specs.Reading.{laid_within}
use Rattle.co_mv.proofs.reading.lay_within.Given as goal

abbrev pub invariant-loop-change : goal.invariant-loop-change
invariant-loop-change l = laid_within l.range l.records (drop l.change-index l.changes) ≡ laid_within l.range l.initial.records l.changes
