use Rattle.std.proofs.Common.{◌≡◌, drop}
use Rattle.co_index.specs.Touching.{without_writes}
use Rattle.co_index.proofs.index.Index.forget_writes.Given as goal

abbrev pub invariant-loop-change : goal.invariant-loop-change
invariant-loop-change l = without_writes l.self (drop l.change-index l.writes) l.t ≡ without_writes l.initial.self l.writes l.t
