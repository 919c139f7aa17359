use Rattle.std.proofs.Common.{◌≡◌, ◌++◌}
use Rattle.co_plain.specs.declared.member_state.AskedMark.{AskedMark}
use Rattle.co_state.specs.EngineState.{sets_at}
use Rattle.co_state.specs.Table.{Table}
use Rattle.co_state.specs.declared.engine_state.EngineState.{EngineState}
use Rattle.co_undecided.specs.Kept.{votes_told}
use Rattle.co_undecided.specs.Represented.{Represents}
use Rattle.co_undecided.proofs.Voting.{AreFound}
use Rattle.co_undecided.proofs.undecideds.Undecideds.voted.Given as goal

abbrev pub invariant-loop-t : goal.invariant-loop-t
invariant-loop-t g l =
    AreFound l.self.entries l.t-iterator
    × ((b : EngineState) (asked : Table AskedMark) → Represents g.E.Engine.stands_for l.self b asked →
    l.votes ++ votes_told (sets_at b) l.t-iterator ≡ votes_told (sets_at b) l.initial.t-iterator)
