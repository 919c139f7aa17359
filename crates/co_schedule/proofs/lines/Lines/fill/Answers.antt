use Rattle.std.proofs.Common.{◌+◌}
use Rattle.co_schedule.proofs.Filling.{held_within, then_within}
use Rattle.co_schedule.proofs.lines.Lines.fill.Goals as goal

pub returns-in_err-held-clause-bound : goal.returns-in_err-held-clause-bound
returns-in_err-held-clause-bound g c =
    then_within g.S.Source.left _ _ _ c.args.self.now.buffer.items _ (c.args.self.now.line + 1) c.loop-self.invariant.taken (rw c.loop-self.invariant.same.line at c.take_on.ensures.bound)

pub returns-in-Some-2-clause-bound : goal.returns-in-Some-2-clause-bound
returns-in-Some-2-clause-bound g c =
    then_within g.S.Source.left _ _ _ c.args.self.now.buffer.items _ (c.args.self.now.line + 1) c.loop-self.invariant.taken (rw c.loop-self.invariant.same.line at c.take_on.ensures.bound)

pub returns-clause-bound : goal.returns-clause-bound
returns-clause-bound g c =
    held_within g.S.Source.left _ _ c.args.self.now.buffer.items _ (c.args.self.now.line + 1) c.loop-self.invariant.taken (rw c.loop-self.invariant.same.line at c.loop-self.self.held_room)
