-- What a disk leaves in the home that it lies in.
use Rattle.std.specs.Prelude.{◌≡◌, Option, Some}
use Rattle.co_outside.specs.Home.{File}
use Rattle.co_disk.specs.DiskModel.{DiskState, IsImage}

-- the home's file is an image of the disk, where the home tells it
abbrev pub IsImageIn : DiskState → Option File → Type 0
IsImageIn disk file = (f : File) → file ≡ Some f → IsImage disk f.bytes
