use Rattle.std.proofs.Common.{subst}
use Rattle.co_settle.specs.Busy.{AreKnown}
use Rattle.co_settle.proofs.candidates.Candidates.first_exchange.Goals as goal

pub returns-in-Some-clause-busy : goal.returns-in-Some-clause-busy
returns-in-Some-clause-busy g c = λ s r ready known. c.first_among.ensures.busy s r ready (subst (AreKnown s) c.in-Some.is known)
