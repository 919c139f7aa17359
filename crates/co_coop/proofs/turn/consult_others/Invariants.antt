use Rattle.std.proofs.Common.{length}
use Rattle.co_opening.specs.Rest.{OnlyOwnFilesChange}
use Rattle.co_plain.specs.Federation.{Federation}
use Rattle.co_world.specs.Standing.{AreHeld, AreServed, RepresentsWorld}
use Rattle.co_settle.specs.Reached.{IsReached}
use Rattle.co_coop.specs.Turn.{MayAsk, others_to}
use Rattle.co_coop.proofs.Turning.{AreSilent}
use Rattle.co_coop.proofs.turn.consult_others.Given as goal

abbrev pub invariant-loop-place : goal.invariant-loop-place
invariant-loop-place g l =
    record {
      silent : (s : Federation) → RepresentsWorld g.E.Engine.takes g.E.Engine.stands_for l.initial.world s → IsReached s → MayAsk s l.doubt →
          RepresentsWorld g.E.Engine.takes g.E.Engine.stands_for l.world s × AreSilent s l.doubt (others_to l.place l.doubt.member);
      served : AreServed l.world (g.H.Home.seen l.initial.home) (g.H.Home.seen l.home);
      held : AreHeld (g.H.Home.seen l.home) l.world;
      rest : (s : Federation) → RepresentsWorld g.E.Engine.takes g.E.Engine.stands_for l.initial.world s → OnlyOwnFilesChange (length s.kinds) s.coordinators (g.H.Home.seen l.initial.home) (g.H.Home.seen l.home);
    }
