use Rattle.std.proofs.Common.{◌≡◌, ◌≤◌, length}
use Rattle.co_log.specs.Scanning.{IsScanned}
use Rattle.co_log.proofs.scanning.scan.Given as goal

abbrev pub invariant-loop-turn : goal.invariant-loop-turn
invariant-loop-turn l = record {
  scanned : IsScanned l.version l.node l.batches l.generation;
  source : l.batches.source ≡ l.bytes;
  steps : l._turn ≤ l.batches.at;
  within : l.batches.at ≤ length l.bytes;
}
