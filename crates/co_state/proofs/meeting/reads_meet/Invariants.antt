use Rattle.std.proofs.Common.{◌≡◌, drop}
use Rattle.co_state.specs.Keys.{reads_meet}
use Rattle.co_state.proofs.meeting.reads_meet.Given as goal

abbrev pub invariant-loop-change : goal.invariant-loop-change
invariant-loop-change l = reads_meet l.ranges (drop l.change-index l.changes) ≡ reads_meet l.ranges l.changes
