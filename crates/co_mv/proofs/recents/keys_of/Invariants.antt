use Rattle.std.proofs.Common.{◌≡◌, ◌++◌, map, drop}
use Rattle.co_mv.proofs.recents.keys_of.Given as goal

abbrev pub invariant-loop-change : goal.invariant-loop-change
invariant-loop-change l = l.keys.items ++ map (λ w. w.key) (drop l.change-index l.changes) ≡ map (λ w. w.key) l.changes
