-- The sink holds what it held and the front of the piece that is done.
use Rattle.std.proofs.Common.{◌≡◌, ◌-◌, ◌≤◌, ◌++◌, ℕ, List, Some, length, take}
use Rattle.co_outside.proofs.whole.put_all.Given as goal

abbrev pub invariant-writing : goal.invariant-writing
invariant-writing g l = record {
  within : l.done ≤ length l.piece;
  counts : g.K.Sink.faults l.sink ≡ g.K.Sink.faults l.fn.sink;
  lacks : g.K.Sink.lacks l.sink ≡ g.K.Sink.lacks l.fn.sink;
  front : (held : List ℕ) → g.K.Sink.told l.fn.sink ≡ Some held → g.K.Sink.told l.sink ≡ Some (held ++ take l.done l.piece);
  took : g.K.Sink.took l.sink ≡ g.K.Sink.took l.fn.sink ++ take l.done l.piece;
}

abbrev pub decreases-writing : goal.decreases-writing
decreases-writing g l = length l.piece - l.done
