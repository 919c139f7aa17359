use Rattle.std.proofs.Common.{◌≡◌, drop}
use Rattle.co_mv.specs.Chains.{rewritten_all}
use Rattle.co_mv.specs.Kept.{needed}
use Rattle.co_mv.specs.Versions.{is_kept}
use Rattle.co_mv.proofs.chains.Chains.write_all.Given as goal

abbrev pub invariant-loop-change : goal.invariant-loop-change
invariant-loop-change l =
    rewritten_all (is_kept (needed l.snapshots)) l.install l.self (drop l.change-index l.changes) ≡ rewritten_all (is_kept (needed l.snapshots)) l.install l.initial.self l.changes
