use Rattle.std.proofs.Common.{◌≡◌, drop}
use Rattle.co_occ.specs.Seen.{laid_within}
use Rattle.co_occ.proofs.reading.lay_within.Given as goal

abbrev pub invariant-loop-change : goal.invariant-loop-change
invariant-loop-change l = laid_within l.records (drop l.change-index l.changes) l.range ≡ laid_within l.initial.records l.changes l.range
