use Rattle.std.proofs.Common.{◌≡◌, None, length}
use Rattle.co_plain.specs.Federation.{Federation}
use Rattle.co_schedule.specs.Lines.{ahead}
use Rattle.co_trial.specs.Calm.{calm_seen}
use Rattle.co_world.specs.Standing.{RepresentsWorld}
use Rattle.co_top.specs.Played.{StaysReady}
use Rattle.co_top.specs.Sights.{SeesIf}
use Rattle.co_top.proofs.Plays.{IsPlaying}
use Rattle.co_top.proofs.following.follow_lines.Given as goal

abbrev pub invariant-loop-number : goal.invariant-loop-number
invariant-loop-number g l = record {
  playing : (s0 : Federation) → RepresentsWorld g.E.Engine.takes g.E.Engine.stands_for l.fn.world s0 → StaysReady l.fn.head s0 →
      (p : IsPlaying g.E.Engine.takes g.E.Engine.stands_for l.fn.head s0 (ahead l.fn.lines (g.S.Source.left l.fn.source)) None None (calm_seen l.home.memory) l.world l.number l.lines (ahead l.lines (g.S.Source.left l.source)))
      × SeesIf (length l.fn.head.kinds) s0 p.done.events l.fn.ask l.seen;
  quiet : g.S.Source.faults l.source ≡ g.S.Source.faults l.fn.source;
}
