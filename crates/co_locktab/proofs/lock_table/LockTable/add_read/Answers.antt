use Rattle.std.proofs.Common.{◌≡◌, true, false, ap, sym, ◌∙◌, ◌++◌, [], ◌∷◌}
use Rattle.co_base.specs.Span.{span_of_key}
use Rattle.co_state.proofs.Tables.{on_ok, put-without}
use Rattle.co_state.specs.Table.{look, put}
use Rattle.co_locktab.specs.Holding.{is_held, with_holder}
use Rattle.co_locktab.specs.Locks.{or_none, same_span}
use Rattle.co_locktab.specs.Shown.{is_wide}
use Rattle.co_locktab.proofs.Orders.{keys_total, keys_apart, spans_total, spans_apart}
use Rattle.co_locktab.proofs.Locking.{not_a_key, narrow, span_ties}
use Rattle.co_locktab.proofs.Showing.{both_ok, taken, stands_more, stands_still, wide_ties, not_wide_ties}
use Rattle.co_locktab.proofs.lock_table.LockTable.add_read.Goals as goal

pub returns-then-is_wide : goal.returns-then-is_wide
returns-then-is_wide c = λ locks s.
    let table = c.args.self.now in
    let t = c.args.t in
    let range = c.args.range.now in
    let wide : is_wide range ≡ true = sym c.is_wide.ensures ∙ c.if-is_wide.true in
    both_ok c.add.result
    (λ e f. taken _ locks _ _
    (sym (c.holds_read.ensures locks s) ∙ c.if-holds_read.false)
    (record {
      reads_are = c.in_ok-insert.ensures.ok ∙ ap (put c.take_reads-ranges.new.reads t) (c.in_ok-push.ensures.ok ∙ (λ i. c.take_reads-ranges.ensures.value i ++ c.in_ok-copy.ensures i ∷ []))
          ∙ ap (λ rs. put rs t (or_none (look table.reads t) ++ range ∷ [])) c.take_reads-ranges.ensures.rest ∙ put-without table.reads t (or_none (look table.reads t) ++ range ∷ [])
          ∙ ap (λ rs. put rs t (or_none (look rs t) ++ range ∷ [])) s.reads_are;
      writes_are = s.writes_are;
      writers_are = s.writers_are;
      readers_are = stands_still keys_total keys_apart table.readers locks.reads t (λ q. true) (λ q. same_span (span_of_key q)) s.readers_are range (λ q. not_a_key q range wide);
      wide_readers_are = λ r u. ap (λ m. is_held m r u) e ∙ stands_more spans_total spans_apart table.wide_readers.held locks.reads t is_wide same_span s.wide_readers_are range range (wide_ties range wide) r u;
      wide_readers_found = f;
    }))
    c.add.ensures.held (c.add.ensures.indexed s.wide_readers_found)

pub returns-else-is_wide : goal.returns-else-is_wide
returns-else-is_wide c = λ locks s.
    let table = c.args.self.now in
    let t = c.args.t in
    let range = c.args.range.now in
    let one : is_wide range ≡ false = sym c.is_wide.ensures ∙ c.if-is_wide.false in
    on_ok c.add-else-is_wide.result
    (λ e. taken _ locks _ _
    (sym (c.holds_read.ensures locks s) ∙ c.if-holds_read.false)
    (record {
      reads_are = c.in_ok-insert.ensures.ok ∙ ap (put c.take_reads-ranges.new.reads t) (c.in_ok-push.ensures.ok ∙ (λ i. c.take_reads-ranges.ensures.value i ++ c.in_ok-copy.ensures i ∷ []))
          ∙ ap (λ rs. put rs t (or_none (look table.reads t) ++ range ∷ [])) c.take_reads-ranges.ensures.rest ∙ put-without table.reads t (or_none (look table.reads t) ++ range ∷ [])
          ∙ ap (λ rs. put rs t (or_none (look rs t) ++ range ∷ [])) s.reads_are;
      writes_are = s.writes_are;
      writers_are = s.writers_are;
      readers_are = λ k u. ap (λ m. is_held m k u) (e ∙ ap (λ q. with_holder table.readers q t) c.lo.ensures)
          ∙ stands_more keys_total keys_apart table.readers locks.reads t (λ q. true) (λ q. same_span (span_of_key q)) s.readers_are range.lo range
          (λ q. sym (ap (same_span (span_of_key q)) (narrow range one) ∙ span_ties q range.lo)) k u;
      wide_readers_are = stands_still spans_total spans_apart table.wide_readers.held locks.reads t is_wide same_span s.wide_readers_are range (not_wide_ties range one);
      wide_readers_found = s.wide_readers_found;
    }))
    c.add-else-is_wide.ensures
