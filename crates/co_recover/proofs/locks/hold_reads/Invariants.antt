use Rattle.std.proofs.Common.{take}
use Rattle.co_recover.specs.Locked.{Held, Holds, with_reads}
use Rattle.co_recover.proofs.locks.hold_reads.Given as goal

abbrev pub invariant-loop-range : goal.invariant-loop-range
invariant-loop-range l = (held : Held) → Holds l.initial.locks held → Holds l.locks (with_reads held l.t (take l.range-index l.ranges))
