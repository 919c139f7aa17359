use Rattle.std.proofs.Common.{◌≡◌, List, drop}
use Rattle.co_plain.specs.declared.session.Decided.{Decided}
use Rattle.co_plain.specs.Federation.{Federation, decide_all}
use Rattle.co_world.specs.Standing.{RepresentsWorld}
use Rattle.co_trial.specs.Decisions.{marks_of, AreRun}
use Rattle.co_trial.proofs.deciding.Decisions.note_all.Given as goal

abbrev pub invariant-loop-item : goal.invariant-loop-item
invariant-loop-item g l = (s0 s : Federation) (decided : List Decided) → RepresentsWorld g.E.Engine.takes g.E.Engine.stands_for l.world s → AreRun s0 l.fn.self decided →
    (now : List Decided) × AreRun s0 l.self now × (decide_all s.sessions now (marks_of (drop l.item-index l.items)) ≡ decide_all s.sessions decided (marks_of l.items))
