use Rattle.std.proofs.Common.{take}
use Rattle.std.specs.List.{All}
use Rattle.co_plain.specs.Federation.{Federation}
use Rattle.co_world.specs.Standing.{RepresentsWorld}
use Rattle.co_settle.specs.Busy.{IsKnown}
use Rattle.co_settle.proofs.candidates.busy_among.Given as goal

abbrev pub invariant-loop-t : goal.invariant-loop-t
invariant-loop-t g l = (s : Federation) → RepresentsWorld g.E.Engine.takes g.E.Engine.stands_for l.fn.world s → All (IsKnown s l.found) (take l.t-index l.txns)
