use Rattle.std.proofs.Common.{◌≡◌, drop}
use Rattle.co_picture.specs.Columns.{slot_from}
use Rattle.co_picture.proofs.columns.slot_in.Given as goal

abbrev pub invariant-loop-slot : goal.invariant-loop-slot
invariant-loop-slot l = slot_from l.slot (drop l.slot l.lanes) l.rank ≡ slot_from 0 l.lanes l.rank
