use Rattle.std.proofs.Common.{◌≡◌, drop}
use Rattle.co_base.specs.Span.{span_of_key}
use Rattle.co_state.specs.Keys.{writes_within}
use Rattle.co_state.proofs.locking.writes_at.Given as goal

abbrev pub invariant-loop-change : goal.invariant-loop-change
invariant-loop-change l = writes_within (drop l.change-index l.changes) (span_of_key l.key) ≡ writes_within l.changes (span_of_key l.key)
