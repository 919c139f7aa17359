use Rattle.std.proofs.Common.{◌≡◌, drop}
use Rattle.co_index.specs.Touching.{without_reads}
use Rattle.co_index.proofs.index.Index.forget_reads.Given as goal

abbrev pub invariant-loop-range : goal.invariant-loop-range
invariant-loop-range l = without_reads l.self (drop l.range-index l.reads) l.t ≡ without_reads l.initial.self l.reads l.t
