use Rattle.std.proofs.Common.{◌≡◌, ◌≤◌}
use Rattle.co_plain.specs.Federation.{Federation}
use Rattle.co_plain.specs.Quiet.{open_count}
use Rattle.co_world.specs.Standing.{AreServed, RepresentsWorld}
use Rattle.co_settle.specs.Reached.{IsReached}
use Rattle.co_settle.proofs.GoingOn.{IsGoing}
use Rattle.co_settle.proofs.settling.settle.Given as goal

abbrev pub invariant-loop-turn : goal.invariant-loop-turn
invariant-loop-turn g l = record {
  going : (s : Federation) → RepresentsWorld g.E.Engine.takes g.E.Engine.stands_for l.fn.world s → IsReached s → open_count s ≤ 65536 →
      IsGoing g.E.Engine.takes g.E.Engine.stands_for s l.fn.number l.told l.fn.steps l.steps l.world l.candidates.numbers l._turn;
  served : AreServed l.world (g.H.Home.seen l.fn.home) (g.H.Home.seen l.home);
  entered : (g.H.Home.seen l.home).entered ≡ (g.H.Home.seen l.fn.home).entered;
}
