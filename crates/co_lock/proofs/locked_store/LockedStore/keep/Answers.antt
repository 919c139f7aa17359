use Rattle.std.proofs.Common.{◌&&◌, not, ◌∙◌}
use Rattle.std.specs.Prelude.{◌==◌}
use Rattle.co_store.specs.StoreState.{with_kept}
use Rattle.co_locktab.specs.Locks.{without_locks}
use Rattle.co_lock.proofs.Locking.{read_without, written_without}
use Rattle.co_lock.proofs.Stepping.{placed_kept}
use Rattle.co_lock.proofs.locked_store.LockedStore.keep.Goals as goal

pub returns : goal.returns
returns c = λ g records s is.
    let p = placed_kept s.kept g c.args.t records (record { images_are = s.images_are; written_are = s.written_are; clean_are = s.clean_are; apart = s.apart }) is in
    record {
      kept = with_kept s.kept c.args.t;
      kept_shown = c.keep.ensures s.kept s.kept_shown;
      held = without_locks s.held c.args.t;
      held_shown = c.end_all.ensures s.held s.held_shown;
      writes_held = λ u q. written_without s.held.writes c.args.t u q ∙ (λ i. not (u == c.args.t) && s.writes_held u q i);
      reads_held = λ u q. read_without s.held.reads c.args.t u q ∙ (λ i. not (u == c.args.t) && s.reads_held u q i);
      images_are = p.images_are;
      written_are = p.written_are;
      clean_are = p.clean_are;
      apart = p.apart;
    }
