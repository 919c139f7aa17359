use Rattle.std.proofs.Common.{◌≡◌, not}
use Rattle.std.specs.Ordering.{is_lt}
use Rattle.co_base.specs.Order.{key_cmp}
use Rattle.co_locktab.proofs.Walking.{walk, weigh_one}
use Rattle.co_locktab.proofs.fork_index.ForkIndex.least_from_below.Given as goal

abbrev pub invariant-loop-place : goal.invariant-loop-place
invariant-loop-place l =
    walk (λ s. not (is_lt (key_cmp l.key s.lo))) (weigh_one l.held l.key l.t) l.fork l.least l.place-iterator
    ≡ walk (λ s. not (is_lt (key_cmp l.key s.lo))) (weigh_one l.held l.key l.t) l.fork l.initial.least l.initial.place-iterator
