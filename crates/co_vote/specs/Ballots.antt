-- A ballot, as what the voting rule says.
use Rattle.std.specs.Prelude.{ℕ, List, ◌==◌, if◌then◌else◌, Option}
use Rattle.co_state.specs.declared.verdict.Verdict.{Verdict}
use Rattle.co_state.specs.declared.verdict.Verdict.TheVariants.{LostOperations, StaleRead, HeldBy, VoteYes}
use Rattle.co_state.specs.VotingRule.{unless_stale}
use Rattle.co_vote.specs.declared.verdict.Ballot.{Ballot}
use Rattle.co_vote.specs.declared.verdict.Ballot.TheVariants as ballot

abbrev pub verdict_of : Ballot → Verdict
verdict_of ballot.NoLost = LostOperations
verdict_of (ballot.NoStale key) = StaleRead key.now
verdict_of (ballot.Held u) = HeldBy u
verdict_of ballot.Yes = VoteYes

-- The first that applies: the counts differ, an overwritten key is given, a transaction is in the way; else
-- yes.
abbrev pub verdict_on : ℕ → ℕ → Option (List ℕ) → Option ℕ → Verdict
verdict_on kept carried stale holder = if kept == carried then unless_stale stale holder else LostOperations
