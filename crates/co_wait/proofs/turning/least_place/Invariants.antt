use Rattle.std.proofs.Common.{◌<◌, length}
use Rattle.co_wait.specs.Searching.{IsLeastUpTo}
use Rattle.co_wait.proofs.turning.least_place.Given as goal

abbrev pub invariant-loop-place : goal.invariant-loop-place
invariant-loop-place l = (l.least < length l.ring) × IsLeastUpTo l.ring l.least l.place
