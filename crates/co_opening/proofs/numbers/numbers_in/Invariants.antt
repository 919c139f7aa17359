use Rattle.std.proofs.Common.{◌≡◌, ◌++◌, map}
use Rattle.co_opening.proofs.numbers.numbers_in.Given as goal

abbrev pub invariant-loop-t : goal.invariant-loop-t
invariant-loop-t l = l.list.items ++ map (λ e. e.0) l.t-iterator ≡ map (λ e. e.0) l.initial.t-iterator
