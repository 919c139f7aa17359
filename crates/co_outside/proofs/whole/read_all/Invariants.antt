-- What was read is a front of what the source held, and the source has the rest of it.
use Rattle.std.proofs.Common.{◌≡◌, ◌-◌, ◌≤◌, ◌++◌, ℕ, List, Some, length, take, drop}
use Rattle.co_outside.proofs.whole.read_all.Given as goal

abbrev pub invariant-reading : goal.invariant-reading
invariant-reading g l = record {
  within : length l.input.items ≤ l.most;
  counts : g.S.Source.faults l.source ≡ g.S.Source.faults l.fn.source;
  front : (held : List ℕ) → g.S.Source.left l.fn.source ≡ Some held → l.input.items ≡ take (length l.input.items) held;
  rest : (held : List ℕ) → g.S.Source.left l.fn.source ≡ Some held → g.S.Source.left l.source ≡ Some (drop (length l.input.items) held);
  gave : g.S.Source.gave l.source ≡ g.S.Source.gave l.fn.source ++ l.input.items;
}

abbrev pub decreases-reading : goal.decreases-reading
decreases-reading g l = l.most - length l.input.items
