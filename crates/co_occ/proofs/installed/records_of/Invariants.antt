use Rattle.std.proofs.Common.{◌≡◌, vec_len}
use Rattle.co_state.specs.Effects.{records_from}
use Rattle.co_occ.proofs.Laying.{laid_under}
use Rattle.co_occ.proofs.installed.records_of.Given as goal

abbrev pub invariant-loop-row : goal.invariant-loop-row
invariant-loop-row l = laid_under l.rows.items l.records ≡ records_from l.initial.rows.items

abbrev pub decreases-loop-row : goal.decreases-loop-row
decreases-loop-row l = vec_len l.rows
