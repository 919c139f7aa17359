use Rattle.std.proofs.Common.{◌≡◌, ◌≤◌, drop, min}
use Rattle.co_picture.specs.Columns.{longest_from}
use Rattle.co_picture.proofs.columns.longest.Given as goal

abbrev pub invariant-loop-entry : goal.invariant-loop-entry
invariant-loop-entry l = record {
  most : longest_from l.most l.lane (drop l.entry-index l.entries) ≡ longest_from (min l.least 64) l.lane l.entries;
  few : l.most ≤ 64;
}
