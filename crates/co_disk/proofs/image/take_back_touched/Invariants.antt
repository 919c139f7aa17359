use Rattle.std.proofs.Common.{◌≡◌, ◌≤◌, length, take, drop, map}
use Rattle.co_disk.specs.Kept.{entry_of, undone}
use Rattle.co_disk.proofs.image.take_back_touched.Given as goal

-- the writes from here on are taken back
abbrev pub invariant-loop-left : goal.invariant-loop-left
invariant-loop-left l = record {
  few : l.left ≤ length l.touched;
  less : l.len ≤ length l.bytes;
  back : take l.len l.bytes ≡ undone l.initial.bytes (map entry_of (drop l.left l.touched));
}

abbrev pub decreases-loop-left : goal.decreases-loop-left
decreases-loop-left l = l.left
