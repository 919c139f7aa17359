use Rattle.std.proofs.Common.{◌≡◌, ◌++◌, flat_map, take}
use Rattle.co_wait.specs.Text.{rank_line}
use Rattle.co_wait.proofs.text.put_ranks.Given as goal

abbrev pub invariant-loop-rank : goal.invariant-loop-rank
invariant-loop-rank l = l.into.items ≡ l.fn.into.items ++ flat_map rank_line (take l.rank-index l.ranks)
