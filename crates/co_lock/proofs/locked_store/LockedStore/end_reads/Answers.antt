use Rattle.std.proofs.Common.{◌&&◌, not, ◌∙◌}
use Rattle.std.specs.Prelude.{◌==◌}
use Rattle.co_locktab.specs.Locks.{without_reads}
use Rattle.co_lock.proofs.Locking.{read_without}
use Rattle.co_lock.proofs.locked_store.LockedStore.end_reads.Goals as goal

pub returns : goal.returns
returns c = λ g s. record {
  kept = s.kept;
  kept_shown = s.kept_shown;
  held = without_reads s.held c.args.t;
  held_shown = c.end_reads.ensures s.held s.held_shown;
  writes_held = s.writes_held;
  reads_held = λ u q. read_without s.held.reads c.args.t u q ∙ (λ i. not (u == c.args.t) && s.reads_held u q i);
  images_are = s.images_are;
  written_are = s.written_are;
  clean_are = s.clean_are;
  apart = s.apart;
}
