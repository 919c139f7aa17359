use Rattle.std.proofs.Common.{take}
use Rattle.co_recover.specs.Locked.{Held, Holds, with_writes}
use Rattle.co_recover.proofs.locks.hold_writes.Given as goal

abbrev pub invariant-loop-change : goal.invariant-loop-change
invariant-loop-change l = (held : Held) → Holds l.initial.locks held → Holds l.locks (with_writes held l.t (take l.change-index l.changes))
