use Rattle.std.proofs.Common.{◌≡◌}
use Rattle.std.specs.Prelude.{◌&&◌, not, ◌==◌}
use Rattle.co_state.specs.Search.{sets_block}
use Rattle.co_state.specs.Table.{first_in}
use Rattle.co_plain_engine.proofs.plain.active_in_way.Given as goal

abbrev pub invariant-loop-u : goal.invariant-loop-u
invariant-loop-u l =
    first_in (λ u e. not e.voted && not (u == l.t) && sets_block e.sets l.op) l.u-iterator ≡ first_in (λ u e. not e.voted && not (u == l.t) && sets_block e.sets l.op) l.initial.u-iterator
