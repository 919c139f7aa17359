use Rattle.co_plain.specs.Federation.{Federation}
use Rattle.co_cluster.specs.Conditions.{IsReady}
use Rattle.co_world.specs.Standing.{RepresentsWorld}
use Rattle.co_cluster.proofs.Walks.{room}
use Rattle.co_settle.specs.Busy.{HaveBusy}
use Rattle.co_settle.proofs.Seeking.{AreAhead}
use Rattle.co_settle.proofs.candidates.first_among.Given as goal

abbrev pub invariant-loop-next : goal.invariant-loop-next
invariant-loop-next g l = (s : Federation) → RepresentsWorld g.E.Engine.takes g.E.Engine.stands_for l.fn.world s → IsReady s → HaveBusy s l.fn.numbers → HaveBusy s l.numbers × AreAhead s l.next

abbrev pub decreases-loop-next : goal.decreases-loop-next
decreases-loop-next g l = room l.next
