use Rattle.std.proofs.Common.{refl, true≢false, sym, ap, ◌∙◌}
use Rattle.std.specs.FinMap.{get, get-empty}
use Rattle.std.specs.Ordering.{nat_cmp}
use Rattle.co_base.specs.Order.{key_cmp}
use Rattle.co_state.specs.Keys.{same_key, reads_key}
use Rattle.co_store.specs.Images.{or_nothing}
use Rattle.co_store.specs.StoreState.{state_of_rows}
use Rattle.co_locktab.specs.Locks.{no_locks, or_none}
use Rattle.co_locktab.proofs.Locking.{any_none}
use Rattle.co_lock.proofs.locked_store.LockedStore.of_rows.Goals as goal

pub returns : goal.returns
returns c = record {
  kept = state_of_rows c.args.rows;
  kept_shown = c.in_ok-store.ensures;
  held = no_locks;
  held_shown = c.new.ensures;
  writes_held = λ u q. any_none (same_key q) u;
  reads_held = λ u q. ap (λ o. reads_key (or_none o) q) (get-empty nat_cmp u);
  images_are = λ u q. ap (λ o. get (or_nothing o) q) (get-empty nat_cmp u) ∙ get-empty key_cmp q;
  written_are = λ u q e. absurd (true≢false (sym e));
  clean_are = λ q none. refl;
  apart = λ u v q n e. refl;
}
