-- What a member tells of its transactions.
use Rattle.std.specs.Prelude.{ℕ, Option, option_map}
use Rattle.co_state.specs.declared.engine_state.EngineState.{EngineState}
use Rattle.co_state.specs.declared.verdict.Verdict.{Verdict}
use Rattle.co_state.specs.Table.{is_above, least_where, lesser}
use Rattle.co_state.specs.VotingRule.{vote_of}
use Rattle.co_plain.specs.declared.member_state.AskedMark.{AskedMark}
use Rattle.co_plain.specs.declared.standing.Standing.{Standing}
use Rattle.co_plain.specs.declared.standing.Standing.TheVariants.{IsActive, IsVoted, IsInstalled, IsAbsent}
use Rattle.co_vote.specs.declared.firing.Phase.{Phase}
use Rattle.co_vote.specs.declared.firing.Phase.TheVariants as phase

abbrev pub phase_of : Standing → Phase
phase_of IsActive = phase.Active
phase_of IsVoted = phase.Voted
phase_of IsInstalled = phase.Installed
phase_of IsAbsent = phase.Absent

-- the least undecided transaction above a number, or the least of all
abbrev pub open_after : EngineState → Option ℕ → Option ℕ
open_after b after = lesser (least_where (λ u os. is_above after u) b.active) (least_where (λ u vote. is_above after u) b.voted)

-- the verdict on a transaction that was asked for
abbrev pub verdict_where : EngineState → ℕ → Option AskedMark → Option Verdict
verdict_where b t mark = option_map (λ k. vote_of b t k.count) mark
