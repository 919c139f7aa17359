-- What contracts see of a disk.
use Rattle.std.specs.Prelude.{Option}
use Rattle.co_outside.specs.declared.spot.Spot.{Spot}
use Rattle.co_disk.specs.DiskModel.{DiskState}
use Rattle.co_disk.specs.declared.stop.Armed.{Armed}

-- its spot, the disk of the model, and the stop that is armed
pub record DiskView : Type 0 where
  pub spot : Spot
  pub state : DiskState
  pub armed : Option Armed
