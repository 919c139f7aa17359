use Rattle.std.proofs.Common.{◌≡◌, vec_len}
use Rattle.co_mv.specs.Chains.{chains_from}
use Rattle.co_mv.proofs.Rows.{chains_under}
use Rattle.co_mv.proofs.chains.Chains.of_rows.Given as goal

abbrev pub invariant-loop-row : goal.invariant-loop-row
invariant-loop-row l = chains_under l.rows.items l.chains ≡ chains_from l.initial.rows.items

abbrev pub decreases-loop-row : goal.decreases-loop-row
decreases-loop-row l = vec_len l.rows
