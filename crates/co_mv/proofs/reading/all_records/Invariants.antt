use Rattle.std.proofs.Common.{◌≡◌}
use Rattle.co_mv.specs.Ordered.{AreOrdered}
use Rattle.co_mv.specs.Reading.{all_noted}
use Rattle.co_mv.proofs.reading.all_records.Given as goal

abbrev pub invariant-loop-key : goal.invariant-loop-key
invariant-loop-key l =
    AreOrdered l.initial.key-iterator → AreOrdered l.key-iterator × (all_noted l.installs l.records l.key-iterator ≡ all_noted l.installs l.initial.records l.initial.key-iterator)
