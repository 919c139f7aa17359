use Rattle.std.proofs.Common.{◌≡◌, ◌≢◌, ◌++◌, map}
use Rattle.std.specs.Prelude.{All}
use Rattle.co_wait.specs.declared.search.Progress.TheVariants.{Open}
use Rattle.co_wait.specs.Searching.{ranked_of}
use Rattle.co_wait.proofs.ranking.ranks_of.Given as goal

abbrev pub invariant-loop-txn : goal.invariant-loop-txn
invariant-loop-txn l = record {
  made : l.ranks ++ map ranked_of l.txn-iterator ≡ map ranked_of l.initial.txn-iterator;
  none : All (λ e. e.1 ≢ Open) l.txn-iterator;
}
