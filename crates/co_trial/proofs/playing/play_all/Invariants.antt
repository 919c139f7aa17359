use Rattle.std.proofs.Common.{◌≡◌}
use Rattle.co_trial.specs.Decisions.{AreRun}
use Rattle.co_trial.specs.Trials.{Opened, start_of}
use Rattle.co_world.specs.Standing.{RepresentsWorld, AreHeld}
use Rattle.co_trial.proofs.Going.{GoesTo}
use Rattle.co_trial.proofs.playing.play_all.Given as goal

abbrev pub invariant-loop-place : goal.invariant-loop-place
invariant-loop-place g l = record {
  going : (o : Opened) → RepresentsWorld g.E.Engine.takes g.E.Engine.stands_for l.fn.world (start_of o) → AreRun (start_of o) l.fn.decisions (start_of o).decided →
      GoesTo o g.E.Engine.takes g.E.Engine.stands_for l.number l.place l.fn.told l.told l.decisions l.maker l.world;
  held : AreHeld (g.H.Home.seen l.home) l.world;
  quiet : (g.H.Home.seen l.home).faults ≡ (g.H.Home.seen l.fn.home).faults;
}
