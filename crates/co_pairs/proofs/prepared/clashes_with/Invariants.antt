use Rattle.std.proofs.Common.{◌≡◌, drop}
use Rattle.co_pairs.specs.Free.{clashes_with}
use Rattle.co_pairs.proofs.prepared.clashes_with.Given as goal

abbrev pub invariant-loop-other : goal.invariant-loop-other
invariant-loop-other l = clashes_with l.one (drop l.other-index l.others) ≡ clashes_with l.one l.others
