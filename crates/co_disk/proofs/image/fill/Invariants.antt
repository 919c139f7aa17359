use Rattle.std.proofs.Common.{◌≡◌, ◌≤◌, ◌-◌, length}
use Rattle.co_disk.specs.DiskModel.{IsSound, read_of}
use Rattle.co_disk.specs.Kept.{entries, disk_over}
use Rattle.co_disk.proofs.Fill.{IsFilledTo}
use Rattle.co_disk.proofs.image.fill.Given as goal

-- the places so far have what the choice leaves there
abbrev pub invariant-loop-place : goal.invariant-loop-place
invariant-loop-place l = record {
  room : l.used ≤ length l.with;
  within : l.place ≤ length l.bytes;
  filled : IsSound (disk_over l.initial.bytes l.stable (entries l.first l.touched)) → length (read_of (disk_over l.initial.bytes l.stable (entries l.first l.touched))) ≡ length l.initial.bytes → IsFilledTo (disk_over l.initial.bytes l.stable (entries l.first l.touched)) l.with l.initial.bytes l.place l.used l.bytes;
}

abbrev pub decreases-loop-place : goal.decreases-loop-place
decreases-loop-place l = length l.bytes - l.place
