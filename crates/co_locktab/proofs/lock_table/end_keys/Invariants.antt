use Rattle.std.proofs.Common.{◌≡◌, drop}
use Rattle.co_locktab.specs.Holding.{without_all}
use Rattle.co_locktab.proofs.lock_table.end_keys.Given as goal

abbrev pub invariant-loop-key : goal.invariant-loop-key
invariant-loop-key l = without_all l.writers (drop l.key-index l.keys) l.t ≡ without_all l.initial.writers l.keys l.t
