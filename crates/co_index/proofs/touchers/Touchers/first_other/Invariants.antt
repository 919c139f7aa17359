use Rattle.std.proofs.Common.{◌≡◌}
use Rattle.std.specs.Prelude.{not, ◌==◌}
use Rattle.co_state.specs.Table.{first_in}
use Rattle.co_index.proofs.touchers.Touchers.first_other.Given as goal

abbrev pub invariant-loop-u : goal.invariant-loop-u
invariant-loop-u g l = first_in (λ u x. not (u == l.t)) l.u-iterator ≡ first_in (λ u x. not (u == l.t)) l.initial.u-iterator
