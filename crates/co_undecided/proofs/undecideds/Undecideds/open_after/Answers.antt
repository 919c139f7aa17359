use Rattle.std.proofs.Common.{sym, ap, ◌∙◌}
use Rattle.std.specs.FinMap.{entries}
use Rattle.co_state.specs.Table.{first_of}
use Rattle.co_state.proofs.Above.{first_passes}
use Rattle.co_undecided.proofs.Following.{next_is}
use Rattle.co_undecided.proofs.undecideds.Undecideds.open_after.Goals as goal

pub returns-in_err-t : goal.returns-in_err-t
returns-in_err-t g c = λ b asked r.
    c.from_residual.ensures
    ∙ ap first_of (sym c.in_err-t.ensures.steps.0 ∙ c.above.ensures)
    ∙ first_passes c.args.after (entries c.args.self.now.entries)
    ∙ next_is c.args.self.now.entries b asked c.args.after r.entries

pub returns : goal.returns
returns g c = λ b asked r.
    ap first_of (sym c.in_ok-t.ensures.steps ∙ c.above.ensures)
    ∙ first_passes c.args.after (entries c.args.self.now.entries)
    ∙ next_is c.args.self.now.entries b asked c.args.after r.entries
