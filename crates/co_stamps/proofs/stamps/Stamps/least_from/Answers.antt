use Rattle.co_stamps.proofs.Leading.{least_borne}
use Rattle.std.proofs.Common.{subst}
use Rattle.co_stamps.specs.Stamped.{IsLeastFrom}
use Rattle.co_stamps.proofs.stamps.Stamps.least_from.Goals as goal

pub returns : goal.returns
returns c = subst (λ m. IsLeastFrom m c.args.number c.least_from.result) c.self.view_is (least_borne c.self.inside.numbers c.self.inside.bearers c.args.number c.least_from.result c.self.invariant c.least_from.ensures)
