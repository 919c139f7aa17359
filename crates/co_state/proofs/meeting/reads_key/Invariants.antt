use Rattle.std.proofs.Common.{◌≡◌, drop}
use Rattle.co_state.specs.Keys.{reads_key}
use Rattle.co_state.proofs.meeting.reads_key.Given as goal

abbrev pub invariant-loop-range : goal.invariant-loop-range
invariant-loop-range l = reads_key (drop l.range-index l.ranges) l.key ≡ reads_key l.ranges l.key
