use Rattle.std.proofs.Common.{Bool, ◌≡◌, ℕ, true, false, not, ◌&&◌, ◌||◌, filter, ap, sym, subst, refl, ◌∙◌}
use Rattle.std.specs.Prelude.{◌==◌}
use Rattle.std.specs.List.{list_any}
use Rattle.std.specs.FinMap.{entries, get}
use Rattle.co_base.specs.Span.{span_has}
use Rattle.co_state.specs.Keys.{same_key}
use Rattle.co_state.specs.Table.{holds, lesser}
use Rattle.co_locktab.specs.Holding.{first_in_lock, is_held}
use Rattle.co_locktab.specs.Locks.{IsLeast, blocks_write, written_by, read_by}
use Rattle.co_locktab.specs.Shown.{is_wide}
use Rattle.co_locktab.proofs.Orders.{keys_total, keys_apart, spans_total, spans_apart}
use Rattle.co_locktab.proofs.Holding.{held_there, least_in_lock}
use Rattle.co_locktab.proofs.Least.{least_same, least_lesser}
use Rattle.co_locktab.proofs.Locking.{reads_either}
use Rattle.co_locktab.proofs.lock_table.LockTable.blocker_write.Goals as goal

apart : (n w r x : Bool) → ((n && w) || ((n && r) || (n && x))) ≡ (n && (w || (r || x)))
apart true w r x = refl
apart false w r x = refl

pub returns : goal.returns
returns c = λ locks s.
    let key = c.args.key.now in
    let t = c.args.t in
    let table = c.args.self.now in
    let es = filter (λ e. span_has e.0 key) (entries table.wide_readers.held) in
    let there : (u : ℕ) → list_any (λ e. holds e.1.txns u) es ≡ list_any (λ r. is_wide r && span_has r key) (read_by locks u) = λ u. held_there spans_total spans_apart table.wide_readers.held (λ r. span_has r key) is_wide u (read_by locks u) (λ r. s.wide_readers_are r u) in
    subst (IsLeast (blocks_write locks t key))
    (sym (c.lesser-2.ensures ∙ (λ i. lesser (c.first_other-writer.ensures i) (c.lesser.ensures i))
    ∙ (λ i. lesser (first_in_lock t (get table.writers key)) (lesser (c.first_other-reader.ensures i) c.least_over-wide_reader.result))))
    (least_same _ (blocks_write locks t key) _
    (λ u. apart (not (u == t)) (is_held table.writers key u) (is_held table.readers key u) (list_any (λ e. holds e.1.txns u) es)
    ∙ (λ i. not (u == t) && (s.writers_are key u i || (s.readers_are key u i || there u i)))
    ∙ ap (λ b. not (u == t) && (list_any (same_key key) (written_by locks u) || b)) (reads_either key (read_by locks u)))
    (least_lesser (λ u. not (u == t) && is_held table.writers key u) (λ u. (not (u == t) && is_held table.readers key u) || (not (u == t) && list_any (λ e. holds e.1.txns u) es)) _ _
    (least_in_lock keys_total keys_apart table.writers key t)
    (least_lesser (λ u. not (u == t) && is_held table.readers key u) (λ u. not (u == t) && list_any (λ e. holds e.1.txns u) es) _ _
    (least_in_lock keys_total keys_apart table.readers key t)
    (c.least_over-wide_reader.ensures s.wide_readers_found))))
