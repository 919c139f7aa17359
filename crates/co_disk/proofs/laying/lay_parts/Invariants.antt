use Rattle.std.proofs.Common.{◌≡◌, ◌≤◌, ◌++◌, ℕ, List, length, take, map, true}
use Rattle.co_disk.specs.DiskModel.{Write, DiskState, any_covers, is_touched, read_of}
use Rattle.co_disk.specs.Kept.{write_of, entry_of}
use Rattle.co_outside.specs.Home.{RestStays}
use Rattle.co_disk.specs.Laying.{IsLaidTo}
use Rattle.co_disk.proofs.laying.lay_parts.Given as goal

-- the parts so far are laid, and everything else of the home stands
abbrev pub invariant-loop-t : goal.invariant-loop-t
invariant-loop-t g l = record {
  reach : (g.H.Home.seen l.initial.home).reach l.spot ≤ (g.H.Home.seen l.home).reach l.spot;
  rest : RestStays l.spot (g.H.Home.seen l.initial.home) (g.H.Home.seen l.home);
  quiet : (g.H.Home.seen l.home).faults ≡ (g.H.Home.seen l.initial.home).faults;
  laid : (disk : DiskState) (done : List Write)
      → ((place : ℕ) → any_covers place (map write_of (map entry_of l.touched)) ≡ true → is_touched disk place ≡ true) → length l.image ≤ length (read_of disk)
      → IsLaidTo disk l.image done ((g.H.Home.seen l.initial.home).file l.spot) ((g.H.Home.seen l.initial.home).reach l.spot)
      → IsLaidTo disk l.image (done ++ map write_of (map entry_of (take l.t-index l.touched))) ((g.H.Home.seen l.home).file l.spot) ((g.H.Home.seen l.home).reach l.spot);
}
