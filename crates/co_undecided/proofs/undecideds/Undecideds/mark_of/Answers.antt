use Rattle.std.proofs.Common.{ap, ◌∙◌}
use Rattle.co_state.specs.Table.{look}
use Rattle.co_undecided.specs.Kept.{asked_in}
use Rattle.co_undecided.proofs.Readings.{mark_is}
use Rattle.co_undecided.proofs.undecideds.Undecideds.mark_of.Goals as goal

pub returns : goal.returns
returns g c = λ b asked r.
    c.asked_of.ensures ∙ ap asked_in (c.get.ensures ∙ r.entries c.args.t) ∙ mark_is (look b.active c.args.t) (look b.voted c.args.t) (look asked c.args.t) (r.apart c.args.t) (r.marks c.args.t)
