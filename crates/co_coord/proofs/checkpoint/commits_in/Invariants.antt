use Rattle.std.proofs.Common.{◌≡◌, reverse}
use Rattle.co_plain.specs.CoordLog.{commits_onto}
use Rattle.co_coord.proofs.checkpoint.commits_in.Given as goal

abbrev pub invariant-loop-t : goal.invariant-loop-t
invariant-loop-t l = commits_onto (reverse l.records.items) l.t-iterator ≡ commits_onto (reverse l.initial.records.items) l.initial.t-iterator
