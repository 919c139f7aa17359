use Rattle.std.proofs.Common.{◌≡◌, nat_lt, option_copied}
use Rattle.co_index.specs.Listed.{keys_that}
use Rattle.co_state.specs.Search.{least_with}
use Rattle.co_occ.proofs.validation.least_unseen.Given as goal

abbrev pub invariant-loop-key : goal.invariant-loop-key
invariant-loop-key l =
    least_with (option_copied l.least) (keys_that (λ n. nat_lt l.read.stamp n) l.key-iterator) ≡ least_with (option_copied l.initial.least) (keys_that (λ n. nat_lt l.read.stamp n) l.initial.key-iterator)
