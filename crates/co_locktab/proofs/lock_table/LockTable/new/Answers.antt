use Rattle.std.proofs.Common.{sym, ap, ◌∙◌, ◌&&◌}
use Rattle.co_base.specs.Span.{span_of_key}
use Rattle.co_state.specs.Keys.{same_key}
use Rattle.co_locktab.specs.Holding.{is_held}
use Rattle.co_locktab.specs.Locks.{same_span}
use Rattle.co_locktab.specs.Shown.{is_wide}
use Rattle.co_locktab.proofs.Orders.{keys_total, keys_apart, spans_total, spans_apart}
use Rattle.co_locktab.proofs.Holding.{held_nowhere}
use Rattle.co_locktab.proofs.Least.{and_false}
use Rattle.co_locktab.proofs.Locking.{any_none}
use Rattle.co_locktab.proofs.lock_table.LockTable.new.Goals as goal

pub returns : goal.returns
returns c = record {
  reads_are = c.new-4.ensures;
  writes_are = c.new-5.ensures;
  writers_are = λ key t. ap (λ m. is_held m key t) c.new.ensures ∙ held_nowhere keys_total keys_apart key t ∙ sym (any_none (same_key key) t);
  readers_are = λ key t. ap (λ m. is_held m key t) c.new-2.ensures ∙ held_nowhere keys_total keys_apart key t ∙ sym (any_none (same_span (span_of_key key)) t);
  wide_readers_are = λ span t. ap (λ m. is_held m span t) c.new-3.ensures.held ∙ held_nowhere spans_total spans_apart span t
      ∙ sym (ap (λ b. is_wide span && b) (any_none (same_span span) t) ∙ and_false (is_wide span));
  wide_readers_found = c.new-3.ensures.indexed;
}
