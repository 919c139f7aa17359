use Rattle.std.proofs.Common.{Option, List, ℕ, ◌&&◌, ◌||◌, ◌∙◌, subst}
use Rattle.std.specs.Prelude.{◌==◌}
use Rattle.std.specs.Option.{option_copied}
use Rattle.co_state.proofs.Tables.{on_ok}
use Rattle.co_state.specs.Keys.{same_key}
use Rattle.co_store.specs.Shown.{Shows}
use Rattle.co_store.specs.StoreState.{IsFree, with_put}
use Rattle.co_locktab.specs.Locks.{with_write}
use Rattle.co_lock.proofs.Locking.{written_with, reads_unwritten}
use Rattle.co_lock.proofs.Stepping.{ArePlaced, free_of, placed_write}
use Rattle.co_lock.proofs.locked_store.LockedStore.write.Goals as goal

pub returns : goal.returns
returns c = λ g s clear.
    let t = c.args.t in
    let key = c.args.key.now in
    let value = option_copied c.args.value in
    let placed : ArePlaced s.kept g = record { images_are = s.images_are; written_are = s.written_are; clean_are = s.clean_are; apart = s.apart } in
    let p = placed_write s.kept g t key value placed clear in
    on_ok c.add_write.result
    (λ e. record {
      kept = with_put s.kept t key value;
      kept_shown = subst (λ (p : List ℕ × Option (List ℕ)). IsFree s.kept t p.0 → Shows c.put.new.self (with_put s.kept t p.0 p.1)) (λ i. (c.in_ok-copy.ensures i, c.in_ok-laid.ensures i))
          (c.in_ok-put.ensures s.kept s.kept_shown) (free_of s.kept g t key placed clear);
      held = with_write s.held t key;
      held_shown = e;
      writes_held = λ u q. written_with s.held t key u q ∙ (λ i. ((u == t) && same_key key q) || s.writes_held u q i);
      reads_held = λ u q. reads_unwritten s.held t key u q ∙ s.reads_held u q;
      images_are = p.images_are;
      written_are = p.written_are;
      clean_are = p.clean_are;
      apart = p.apart;
    })
    (c.add_write.ensures s.held s.held_shown)
