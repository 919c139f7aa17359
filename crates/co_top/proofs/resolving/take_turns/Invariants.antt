use Rattle.std.proofs.Common.{◌≡◌, ◌≤◌, ◌*◌, ◌+◌, take}
use Rattle.co_coop.specs.Resolution.{AreDoubts}
use Rattle.co_outside.specs.Home.{IsClean}
use Rattle.co_outside.specs.declared.spot.Spot.{Spot}
use Rattle.co_plain.specs.Federation.{Federation}
use Rattle.co_settle.specs.Reached.{IsReached}
use Rattle.co_world.specs.Standing.{RepresentsWorld}
use Rattle.co_top.proofs.TurnsTaken.{AreTurnsBehind}
use Rattle.co_top.proofs.resolving.take_turns.Given as goal

abbrev pub invariant-loop-doubt : goal.invariant-loop-doubt
invariant-loop-doubt g l = record {
  turns : (s : Federation) → RepresentsWorld g.E.Engine.takes g.E.Engine.stands_for l.fn.world s → IsReached s → AreDoubts s l.fn.doubts →
      AreTurnsBehind g.E.Engine.takes g.E.Engine.stands_for s l.fn.number (take l.doubt-index l.doubts) (g.K.Sink.told l.fn.out) (g.K.Sink.told l.out) (g.H.Home.seen l.fn.home) (g.H.Home.seen l.home) l.world l.last;
  few : l.last ≤ l.fn.number + 2 * l.doubt-index;
  quiet_home : (g.H.Home.seen l.home).faults ≡ (g.H.Home.seen l.fn.home).faults;
  quiet_sink : g.K.Sink.faults l.out ≡ g.K.Sink.faults l.fn.out;
  clean : (s : Spot) → IsClean (g.H.Home.seen l.fn.home) s → IsClean (g.H.Home.seen l.home) s;
}
