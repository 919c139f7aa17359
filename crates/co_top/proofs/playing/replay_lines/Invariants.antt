use Rattle.std.proofs.Common.{◌≡◌, length}
use Rattle.co_opening.specs.Rest.{OnlyOwnFilesChange}
use Rattle.co_outside.specs.Home.{IsClean}
use Rattle.co_outside.specs.declared.spot.Spot.{Spot}
use Rattle.co_plain.specs.Federation.{Federation}
use Rattle.co_schedule.specs.Lines.{ahead}
use Rattle.co_world.specs.Standing.{RepresentsWorld}
use Rattle.co_top.specs.Played.{StaysReady}
use Rattle.co_top.proofs.Plays.{IsPlaying}
use Rattle.co_top.proofs.playing.replay_lines.Given as goal

abbrev pub invariant-loop-number : goal.invariant-loop-number
invariant-loop-number g l =
    ((s0 : Federation) → RepresentsWorld g.E.Engine.takes g.E.Engine.stands_for l.fn.world s0 → StaysReady l.fn.head s0 →
    IsPlaying g.E.Engine.takes g.E.Engine.stands_for l.fn.head s0 (ahead l.fn.lines (g.S.Source.left l.fn.source)) (g.K.Sink.told l.fn.out) (g.K.Sink.told l.out)
    (g.H.Home.seen l.home) l.world l.number l.lines (ahead l.lines (g.S.Source.left l.source)))
    × OnlyOwnFilesChange (length l.fn.head.kinds) l.fn.head.coords (g.H.Home.seen l.fn.home) (g.H.Home.seen l.home)
    × ((g.H.Home.seen l.home).faults ≡ (g.H.Home.seen l.fn.home).faults)
    × (g.K.Sink.faults l.out ≡ g.K.Sink.faults l.fn.out)
    × (g.S.Source.faults l.source ≡ g.S.Source.faults l.fn.source)
    × ((s : Spot) → IsClean (g.H.Home.seen l.fn.home) s → IsClean (g.H.Home.seen l.home) s)
