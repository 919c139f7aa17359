use Rattle.std.specs.Prelude.{not, ◌&&◌, ◌==◌}
use Rattle.co_state.specs.Keys.{reads_meet}
use Rattle.co_index.proofs.Walking.{IsLeft}
use Rattle.co_index.proofs.holder.first_scanner.Given as goal

abbrev pub invariant-loop-u : goal.invariant-loop-u
invariant-loop-u l = IsLeft (λ u spans. not (u == l.t) && reads_meet spans l.writes) l.found l.u-iterator l.initial.u-iterator
