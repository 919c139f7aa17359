use Rattle.std.proofs.Common.{◌≡◌, drop}
use Rattle.co_state.specs.Keys.{writes_key}
use Rattle.co_state.proofs.meeting.writes_key.Given as goal

abbrev pub invariant-loop-change : goal.invariant-loop-change
invariant-loop-change l = writes_key (drop l.change-index l.changes) l.key ≡ writes_key l.changes l.key
