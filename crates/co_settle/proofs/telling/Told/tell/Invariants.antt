use Rattle.std.proofs.Common.{◌≡◌, ◌++◌}
use Rattle.co_settle.proofs.telling.Told.tell.Given as goal

abbrev pub invariant-loop-item : goal.invariant-loop-item
invariant-loop-item l = record { number : l.self.number ≡ l.initial.self.number; items : l.self.items ≡ l.initial.self.items ++ l.yielded }
