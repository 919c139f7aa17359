use Rattle.std.proofs.Common.{◌≡◌, drop}
use Rattle.co_occ.specs.Last.{forgotten}
use Rattle.co_occ.proofs.lasts.forget.Given as goal

abbrev pub invariant-loop-change : goal.invariant-loop-change
invariant-loop-change l = forgotten l.lasts (drop l.change-index l.writes) l.install ≡ forgotten l.initial.lasts l.writes l.install
