use Rattle.std.proofs.Common.{◌≡◌, drop}
use Rattle.co_serial.specs.Records.{with_changes}
use Rattle.co_occ.proofs.installed.lay.Given as goal

abbrev pub invariant-loop-change : goal.invariant-loop-change
invariant-loop-change l = with_changes l.records (drop l.change-index l.changes) ≡ with_changes l.initial.records l.changes
