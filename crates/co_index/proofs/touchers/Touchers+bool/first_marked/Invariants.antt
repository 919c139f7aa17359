use Rattle.std.specs.Prelude.{not, ◌&&◌, ◌==◌}
use Rattle.co_index.proofs.Walking.{IsLeft}
use Rattle.co_index.proofs.touchers.Touchers+bool.first_marked.Given as goal

abbrev pub invariant-loop-u : goal.invariant-loop-u
invariant-loop-u l = IsLeft (λ u voted. voted && not (u == l.t)) l.found l.u-iterator l.initial.u-iterator
