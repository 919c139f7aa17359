use Rattle.std.proofs.Common.{◌≡◌, drop}
use Rattle.co_pairs.specs.Free.{are_free}
use Rattle.co_pairs.proofs.prepared.are_free.Given as goal

abbrev pub invariant-loop-place : goal.invariant-loop-place
invariant-loop-place l = are_free (drop l.place l.prepared) ≡ are_free l.prepared
