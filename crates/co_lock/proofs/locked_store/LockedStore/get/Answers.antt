use Rattle.std.proofs.Common.{◌∙◌}
use Rattle.co_lock.proofs.Stepping.{seen_in_place}
use Rattle.co_lock.proofs.locked_store.LockedStore.get.Goals as goal

pub returns : goal.returns
returns c = λ g s clear.
    c.get.ensures s.kept s.kept_shown ∙ seen_in_place s.kept g c.args.t c.args.key.now (record { images_are = s.images_are; written_are = s.written_are; clean_are = s.clean_are; apart = s.apart }) clear
