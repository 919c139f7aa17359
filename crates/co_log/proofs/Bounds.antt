-- Files of a log are within the most bytes of a file.
use Rattle.std.proofs.Common.{◌≡◌, ℕ, List, length, ap, sym, ◌∙◌, arith}
use Rattle.std.specs.Prelude.{Option}
use Rattle.co_base.specs.Limits.{most_log_bytes}
use Rattle.co_outside.specs.Home.{HomeView, File, Agrees, RestStays}
use Rattle.co_disk.specs.DiskModel.{read_of}
use Rattle.co_disk.specs.DiskView.{DiskView}
use Rattle.co_log.specs.Attaching.{IsWithin}
use Rattle.co_log.specs.LogView.{LogView, IsHeld, IsShort}
use Rattle.co_log.specs.Others.{BothWithin}
use Rattle.co_log.proofs.Spots.{spots_apart}

-- a told file that is what a disk gives
pub agreed_within : (home : HomeView) (disk : DiskView) → Agrees home disk.spot (read_of disk.state) → IsShort disk → IsWithin most_log_bytes (home.file disk.spot)
agreed_within home disk agrees short = λ f told. omega (arith, short, ap (λ (b : List ℕ). length b) (agrees.told f told))

same_within : (file after : Option File) → after ≡ file → IsWithin most_log_bytes file → IsWithin most_log_bytes after
same_within file after same within = λ f told. within f (sym same ∙ told)

-- both files are within their bounds where nothing was called
pub held_within : (home : HomeView) (log : LogView) → IsHeld home log → IsShort log.current → IsShort log.spare → BothWithin home.file log
held_within home log held current spare = (agreed_within home log.current held.current current, agreed_within home log.spare held.spare spare)

module _ (old new : HomeView) (log : LogView) (held : IsHeld old log) where
  -- after calls on the current file alone
  pub current_within : IsShort log.spare → RestStays log.current.spot old new → IsWithin most_log_bytes (new.file log.current.spot) → BothWithin new.file log
  current_within spare rest within =
      (within, same_within (old.file log.spare.spot) (new.file log.spare.spot) (rest.others.files log.spare.spot (λ e. spots_apart log held.spots (sym e))) (agreed_within old log.spare held.spare spare))

  -- and on the spare alone
  pub spare_within : IsShort log.current → RestStays log.spare.spot old new → IsWithin most_log_bytes (new.file log.spare.spot) → BothWithin new.file log
  spare_within current rest within =
      (same_within (old.file log.current.spot) (new.file log.current.spot) (rest.others.files log.current.spot (λ e. spots_apart log held.spots e)) (agreed_within old log.current held.current current), within)
