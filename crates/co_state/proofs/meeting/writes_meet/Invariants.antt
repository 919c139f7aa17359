use Rattle.std.proofs.Common.{◌≡◌, drop}
use Rattle.co_state.specs.Keys.{writes_meet}
use Rattle.co_state.proofs.meeting.writes_meet.Given as goal

abbrev pub invariant-loop-other : goal.invariant-loop-other
invariant-loop-other l = writes_meet l.changes (drop l.other-index l.others) ≡ writes_meet l.changes l.others
