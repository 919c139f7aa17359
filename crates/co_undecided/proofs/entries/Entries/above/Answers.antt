use Rattle.std.proofs.Common.{nat_lt, filter, sym, ap, ◌∙◌}
use Rattle.std.specs.FinMap.{entries, nat_cmp-IsAntisymmetric}
use Rattle.std.proofs.lemmas.Cmp.{nat_cmp_total}
use Rattle.co_serial.proofs.MapViews.{view-entries}
use Rattle.co_state.proofs.Above.{between_above}
use Rattle.co_undecided.proofs.entries.Entries.above.Goals as goal

pub returns : goal.returns
returns c =
    c.range.ensures.between tt
    ∙ between_above c.args.after c.self.inside.entries.entries
    ∙ ap (filter (λ e. nat_lt c.args.after e.0)) (sym (view-entries nat_cmp_total nat_cmp-IsAntisymmetric _ c.range.ensures.ordered) ∙ ap entries c.self.view_is)
