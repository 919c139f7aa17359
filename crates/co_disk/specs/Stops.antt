-- Armed stops.
use Rattle.std.specs.Prelude.{ℕ, ◌-◌, ◌≡◌, nat_le, if◌then◌else◌, [], Option, Some, None}
use Rattle.co_base.specs.declared.leaves.Leaves.{Leaves}
use Rattle.co_disk.specs.declared.stop.Armed.{Armed}
use Rattle.co_disk.specs.DiskModel.{DiskState, IsChosen}
use Rattle.co_disk.specs.DiskView.{DiskView}

-- the stop of the call with this number, counted from 1 after the arming
abbrev pub armed_for : ℕ → Leaves → Armed
armed_for call leaves = record { call = call; left = call; leaves = leaves }

-- the stop that the next device call reaches
abbrev pub stop_here : Option Armed → Option Armed
stop_here None = None
stop_here (Some a) = if nat_le a.left 1 then Some a else None

-- what is armed after a device call: a stop that it reached is gone
abbrev pub after_call : Option Armed → Option Armed
after_call None = None
after_call (Some a) = if nat_le a.left 1 then None else Some (record { call = a.call; left = a.left - 1; leaves = a.leaves })

-- the disk is a chosen image of the one before, and nothing is pending
pub record IsLeft (before : DiskState) (leaves : Leaves) (after : DiskState) : Type 0 where
  pub chosen : IsChosen before leaves after.stable
  pub stable : after.pending ≡ []

-- The call with this number was the armed one, its image is left, and nothing is armed.
pub record IsStopped (armed : Option Armed) (call : ℕ) (before : DiskState) (after : DiskView) : Type 0 where
  pub stop : Armed
  pub here : stop_here armed ≡ Some stop
  pub number : stop.call ≡ call
  pub left : IsLeft before stop.leaves after.state
  pub gone : after.armed ≡ None
