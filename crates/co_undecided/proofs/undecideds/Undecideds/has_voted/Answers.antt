use Rattle.std.proofs.Common.{ap, ◌∙◌}
use Rattle.co_state.specs.Table.{look}
use Rattle.co_undecided.specs.Kept.{voted_in_entry}
use Rattle.co_undecided.proofs.Readings.{vote_is}
use Rattle.co_undecided.proofs.undecideds.Undecideds.has_voted.Goals as goal

pub returns : goal.returns
returns g c = λ b asked r.
    c.voted_of.ensures ∙ ap voted_in_entry (c.get.ensures ∙ r.entries c.args.t) ∙ vote_is (look b.active c.args.t) (look b.voted c.args.t) (look asked c.args.t)
