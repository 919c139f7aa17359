use Rattle.std.proofs.Common.{◌≡◌, ◌++◌, drop, take}
use Rattle.co_serial.specs.SerialRun.{run_whole, after_whole}
use Rattle.co_serial.specs.Family.{family_of}
use Rattle.co_serial.proofs.serial_map.run_whole.Given as goal

abbrev pub invariant-loop-site : goal.invariant-loop-site
invariant-loop-site l = record {
  answered : l.replies ++ run_whole (family_of l.map) (drop l.site-index l.sites) ≡ run_whole (family_of l.fn.map) l.sites;
  left : after_whole (family_of l.map) (drop l.site-index l.sites) ≡ after_whole (family_of l.fn.map) l.sites;
  prefix : family_of l.map ≡ after_whole (family_of l.fn.map) (take l.site-index l.sites);
}
