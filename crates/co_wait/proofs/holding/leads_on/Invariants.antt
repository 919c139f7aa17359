use Rattle.std.proofs.Common.{◌≡◌, drop}
use Rattle.co_wait.specs.Testing.{leads_on}
use Rattle.co_wait.proofs.holding.leads_on.Given as goal

abbrev pub invariant-loop-leg : goal.invariant-loop-leg
invariant-loop-leg l = leads_on l.fn.from l.legs l.to ≡ leads_on l.at (drop l.leg-index l.legs) l.to
