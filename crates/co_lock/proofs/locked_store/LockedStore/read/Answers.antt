use Rattle.std.proofs.Common.{◌&&◌, ◌||◌, ◌∙◌}
use Rattle.std.specs.Prelude.{◌==◌}
use Rattle.co_base.specs.Span.{span_has}
use Rattle.co_state.proofs.Tables.{on_ok}
use Rattle.co_locktab.specs.Locks.{with_read}
use Rattle.co_lock.proofs.Locking.{read_with, writes_unread}
use Rattle.co_lock.proofs.locked_store.LockedStore.read.Goals as goal

pub returns : goal.returns
returns c = λ g s.
    on_ok c.add_read.result
    (λ e. record {
      kept = s.kept;
      kept_shown = s.kept_shown;
      held = with_read s.held c.args.t c.args.range.now;
      held_shown = e;
      writes_held = λ u q. writes_unread s.held c.args.t c.args.range.now u q ∙ s.writes_held u q;
      reads_held = λ u q. read_with s.held c.args.t c.args.range.now u q ∙ (λ i. ((u == c.args.t) && span_has c.args.range.now q) || s.reads_held u q i);
      images_are = s.images_are;
      written_are = s.written_are;
      clean_are = s.clean_are;
      apart = s.apart;
    })
    (c.add_read.ensures s.held s.held_shown)
