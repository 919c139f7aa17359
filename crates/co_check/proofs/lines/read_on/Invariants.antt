use Rattle.std.proofs.Common.{◌≡◌, ◌<◌, ℕ, List, Some}
use Rattle.co_outside.specs.Onward.{past, IsOnward, LiesAhead}
use Rattle.co_check.specs.Resumed.{Stands}
use Rattle.co_check.specs.Stages.{Stage}
use Rattle.co_check.specs.Taking.{HasTaken, IsWithin, decided_by}
use Rattle.co_check.proofs.lines.read_on.Given as goal

abbrev pub invariant-loop-number : goal.invariant-loop-number
invariant-loop-number g l =
    IsWithin l.number l.lines × (decided_by l.reader < l.number)
    × ((s : Stage) (text : List ℕ) → Stands l.fn.reader s → g.S.Source.left l.initial.source ≡ Some text → HasTaken s text l.lines (g.S.Source.left l.source) l.reader)
    × (g.S.Source.faults l.source ≡ g.S.Source.faults l.initial.source)
    × IsOnward (past g.S.Source.gave g.S.Source.ended g.S.Source.went_on l.initial.source) (past g.S.Source.gave g.S.Source.ended g.S.Source.went_on l.source)
    × ((s : Stage) (text more : List ℕ) → Stands l.fn.reader s → LiesAhead (past g.S.Source.gave g.S.Source.ended g.S.Source.went_on l.initial.source) (past g.S.Source.gave g.S.Source.ended g.S.Source.went_on l.source) text more → HasTaken s text l.lines (Some more) l.reader)
