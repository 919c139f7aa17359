use Rattle.std.proofs.Common.{◌≡◌, drop}
use Rattle.co_state.specs.Keys.{writes_within}
use Rattle.co_state.proofs.meeting.writes_within.Given as goal

abbrev pub invariant-loop-change : goal.invariant-loop-change
invariant-loop-change l = writes_within (drop l.change-index l.changes) l.range ≡ writes_within l.changes l.range
