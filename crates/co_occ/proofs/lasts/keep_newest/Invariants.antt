use Rattle.std.proofs.Common.{◌≡◌, ◌-◌, drop, length}
use Rattle.co_occ.specs.Last.{AreLast}
use Rattle.co_occ.proofs.lasts.keep_newest.Given as goal

abbrev pub invariant-loop-recent : goal.invariant-loop-recent
invariant-loop-recent l = record {
  left : drop (length l.recent - l.count) l.recent ≡ drop (length l.initial.recent - l.count) l.initial.recent;
  last : AreLast l.initial.lasts l.initial.recent l.installs → AreLast l.lasts l.recent l.installs;
}

abbrev pub decreases-loop-recent : goal.decreases-loop-recent
decreases-loop-recent l = length l.recent
