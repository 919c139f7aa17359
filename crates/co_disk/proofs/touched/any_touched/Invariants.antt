use Rattle.std.proofs.Common.{◌≡◌, map, drop}
use Rattle.co_disk.specs.DiskModel.{any_covers}
use Rattle.co_disk.specs.Kept.{write_of, entry_of}
use Rattle.co_disk.proofs.touched.any_touched.Given as goal

-- none of the writes so far covers the place
abbrev pub invariant-loop-t : goal.invariant-loop-t
invariant-loop-t l = any_covers l.place (map write_of (map entry_of (drop l.t-index l.touched))) ≡ any_covers l.place (map write_of (map entry_of l.touched))
