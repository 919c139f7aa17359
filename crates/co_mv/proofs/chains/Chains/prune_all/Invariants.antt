use Rattle.std.proofs.Common.{◌≡◌, drop}
use Rattle.co_mv.specs.Chains.{pruned_all}
use Rattle.co_mv.specs.Kept.{needed, WereAllKept}
use Rattle.co_mv.specs.Versions.{stays}
use Rattle.co_mv.proofs.chains.Chains.prune_all.Given as goal

abbrev pub invariant-loop-key : goal.invariant-loop-key
invariant-loop-key l =
    WereAllKept l.snapshots l.number l.initial.self
    → WereAllKept l.snapshots l.number l.self × (pruned_all (stays l.number (needed l.snapshots)) l.self (drop l.key-index l.keys) ≡ pruned_all (stays l.number (needed l.snapshots)) l.initial.self l.keys)
