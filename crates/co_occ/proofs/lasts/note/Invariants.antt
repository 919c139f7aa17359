use Rattle.std.proofs.Common.{◌≡◌, drop}
use Rattle.co_occ.specs.Last.{noted}
use Rattle.co_occ.proofs.lasts.note.Given as goal

abbrev pub invariant-loop-change : goal.invariant-loop-change
invariant-loop-change l = noted l.lasts (drop l.change-index l.writes) l.install ≡ noted l.initial.lasts l.writes l.install
