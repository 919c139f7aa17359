use Rattle.std.proofs.Common.{ap, ◌∙◌}
use Rattle.co_state.specs.Table.{look}
use Rattle.co_undecided.specs.Kept.{coord_in}
use Rattle.co_undecided.proofs.Readings.{coord_is}
use Rattle.co_undecided.proofs.undecideds.Undecideds.coord_of.Goals as goal

pub returns : goal.returns
returns g c = λ b asked r.
    c.coord_of.ensures ∙ ap coord_in (c.get.ensures ∙ r.entries c.args.t) ∙ coord_is (look b.active c.args.t) (look b.voted c.args.t) (look asked c.args.t)
