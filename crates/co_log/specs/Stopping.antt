-- Stops that come within a number of device calls.
use Rattle.std.specs.Prelude.{ℕ, ◌-◌, ◌≡◌, ◌≤◌, ◌<◌, Option, Some, None, option_map}
use Rattle.co_disk.specs.declared.stop.Armed.{Armed}
use Rattle.co_disk.specs.DiskModel.{DiskState}
use Rattle.co_disk.specs.DiskView.{DiskView}
use Rattle.co_disk.specs.Stops.{IsLeft}
use Rattle.co_base.specs.declared.leaves.Leaves.{Leaves}
use Rattle.co_base.specs.declared.leaves.Stop.{Stop}

-- one of so many device calls was the armed one; its image is left, and nothing is armed
pub record IsStoppedWithin (calls : ℕ) (armed : Option Armed) (call : ℕ) (before : DiskState) (after : DiskView) : Type 0 where
  pub stop : Armed
  pub is : armed ≡ Some stop
  pub within : stop.left ≤ calls
  pub number : stop.call ≡ call
  pub left : IsLeft before stop.leaves after.state
  pub gone : after.armed ≡ None

-- none of so many device calls was the armed one
abbrev pub HasPassed : ℕ → Option Armed → Type 0
HasPassed calls armed = (stop : Armed) → armed ≡ Some stop → calls < stop.left

-- what is armed after so many device calls of which none was the armed one
abbrev pub after_calls : ℕ → Option Armed → Option Armed
after_calls calls armed = option_map (λ a. record { call = a.call; left = a.left - calls; leaves = a.leaves }) armed

-- no stop of one of so many device calls was armed
abbrev pub IsPast : ℕ → Option Stop → Type 0
IsPast calls stop = (s : Stop) → stop ≡ Some s → calls < s.call

-- The log write was stopped at the device call with this number: the image that was chosen of the disk
-- at that call is left, and nothing is armed.
pub record IsWriteStopped (stop : Option Stop) (call : ℕ) (before : ℕ → DiskState) (after : DiskView) : Type 0 where
  pub leaves : Leaves
  pub is : stop ≡ Some (record { call = call; leaves = leaves })
  pub left : IsLeft (before call) leaves after.state
  pub gone : after.armed ≡ None
