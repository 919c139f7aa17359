use Rattle.std.proofs.Common.{◌+◌, ◌-◌, length}
use Rattle.co_outside.specs.Onward.{past}
use Rattle.co_schedule.specs.Filling.{IsFilling}
use Rattle.co_schedule.proofs.lines.Lines.fill.Given as goal

abbrev pub invariant-loop-self : goal.invariant-loop-self
invariant-loop-self g l = IsFilling g.S.Source.left g.S.Source.faults (past g.S.Source.gave g.S.Source.ended g.S.Source.went_on) l.initial.source l.source l.initial.self l.self

abbrev pub decreases-loop-self : goal.decreases-loop-self
decreases-loop-self g l = l.initial.self.line + 1 - length l.self.buffer.items
