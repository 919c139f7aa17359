use Rattle.co_stamps.proofs.Leading.{greatest_borne}
use Rattle.std.proofs.Common.{subst}
use Rattle.co_stamps.specs.Stamped.{IsGreatestBelow}
use Rattle.co_stamps.proofs.stamps.Stamps.greatest_below.Goals as goal

pub returns : goal.returns
returns c = subst (λ m. IsGreatestBelow m c.args.number c.greatest_below.result) c.self.view_is (greatest_borne c.self.inside.numbers c.self.inside.bearers c.args.number c.greatest_below.result c.self.invariant c.greatest_below.ensures)
