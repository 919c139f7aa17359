-- A chosen image on its way into the home.
use Rattle.std.specs.Prelude.{ℕ, ◌≡◌, ◌+◌, ◌<◌, ◌≤◌, true, List, [], ◌∷◌, length, Option, Some, slice_get}
use Rattle.co_base.specs.Limits.{most_log_bytes}
use Rattle.co_outside.specs.Home.{File}
use Rattle.co_disk.specs.DiskModel.{Write, DiskState, IsImage, IsSound, any_covers}

-- The parts of the image in the ranges of these writes are laid; all the while the file is an image.
pub record IsLaidTo (disk : DiskState) (image : List ℕ) (writes : List Write) (file : Option File) (reach : ℕ) : Type 0 where
  pub images : (f : File) → file ≡ Some f → IsImage disk f.bytes
  pub laid : (f : File) → file ≡ Some f → (place : ℕ) → place < length image → any_covers place writes ≡ true → slice_get f.bytes place ≡ slice_get image place
  pub reached : (place : ℕ) → place < length image → any_covers place writes ≡ true → place < reach

-- each write begins within so many places
abbrev pub BeginWithin : ℕ → List Write → Type 0
BeginWithin reach [] = Unit {0}
BeginWithin reach (w ∷ writes) = (w.at ≤ reach) × BeginWithin reach writes

-- each write ends within so many places
abbrev pub EndWithin : ℕ → List Write → Type 0
EndWithin reach [] = Unit {0}
EndWithin reach (w ∷ writes) = (w.at + length w.piece ≤ reach) × EndWithin reach writes

-- The image is to be laid into a home that has not more of these writes than it can take: it reaches
-- to the end of the stable bytes and to the begin of each write, and its file is an image.
pub record IsToLay (disk : DiskState) (image : List ℕ) (writes : List Write) (file : Option File) (reach : ℕ) : Type 0 where
  pub pending : disk.pending ≡ writes
  pub sound : IsSound disk
  pub image_is : IsImage disk image
  pub short : length image ≤ most_log_bytes
  pub stable : length disk.stable ≤ reach
  pub begins : BeginWithin reach writes
  pub images : (f : File) → file ≡ Some f → IsImage disk f.bytes
