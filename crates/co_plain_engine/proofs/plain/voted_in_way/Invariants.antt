use Rattle.std.proofs.Common.{◌≡◌}
use Rattle.std.specs.Prelude.{◌&&◌, not, ◌==◌}
use Rattle.co_state.specs.LockRule.{writes_block}
use Rattle.co_state.specs.Table.{first_in}
use Rattle.co_plain_engine.proofs.plain.voted_in_way.Given as goal

abbrev pub invariant-loop-u : goal.invariant-loop-u
invariant-loop-u l =
    first_in (λ u e. e.voted && not (u == l.t) && writes_block e.sets.writes l.op) l.u-iterator ≡ first_in (λ u e. e.voted && not (u == l.t) && writes_block e.sets.writes l.op) l.initial.u-iterator
