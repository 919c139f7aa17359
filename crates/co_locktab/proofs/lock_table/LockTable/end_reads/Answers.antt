use Rattle.std.proofs.Common.{◌≡◌, List, true, ap, map, ◌∙◌}
use Rattle.co_base.specs.Span.{Span, span_of_key}
use Rattle.co_state.specs.Table.{look, without}
use Rattle.co_locktab.specs.Holding.{is_held, without_all}
use Rattle.co_locktab.specs.Locks.{or_none, same_span}
use Rattle.co_locktab.specs.Shown.{is_wide}
use Rattle.co_locktab.proofs.Orders.{keys_total, keys_apart, spans_total, spans_apart}
use Rattle.co_locktab.proofs.Locking.{bounds_found}
use Rattle.co_locktab.proofs.Showing.{stands_ended}
use Rattle.co_locktab.proofs.lock_table.LockTable.end_reads.Goals as goal

pub returns : goal.returns
returns c = λ locks s.
    let table = c.args.self.now in
    let t = c.args.t in
    let held : c.as_slice.result.now ≡ or_none (look locks.reads t) = c.as_slice.ensures ∙ c.take_reads-ranges.ensures.value ∙ ap (λ rs. or_none (look rs t)) s.reads_are in
    record {
      reads_are = c.take_reads-ranges.ensures.rest ∙ ap (λ rs. without rs t) s.reads_are;
      writes_are = s.writes_are;
      writers_are = s.writers_are;
      readers_are = λ k u. ap (λ m. is_held m k u) (c.end_ranges.ensures.one ∙ ap (λ (rs : List Span). without_all table.readers (map (λ r. r.lo) rs) t) held)
          ∙ stands_ended keys_total keys_apart table.readers locks.reads t (λ q. true) (λ q. same_span (span_of_key q)) s.readers_are (map (λ r. r.lo) (or_none (look locks.reads t)))
          (λ q h e. bounds_found q (or_none (look locks.reads t)) h) k u;
      wide_readers_are = λ r u. ap (λ m. is_held m r u) (c.end_ranges.ensures.wide ∙ ap (λ (rs : List Span). without_all table.wide_readers.held rs t) held)
          ∙ stands_ended spans_total spans_apart table.wide_readers.held locks.reads t is_wide same_span s.wide_readers_are (or_none (look locks.reads t)) (λ q h e. h) r u;
      wide_readers_found = c.end_ranges.ensures.indexed s.wide_readers_found;
    }
