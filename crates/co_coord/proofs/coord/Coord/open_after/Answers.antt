use Rattle.std.proofs.Common.{sym, ap, ◌∙◌}
use Rattle.co_plain.specs.declared.coord_state.Entry.{Entry}
use Rattle.co_state.specs.Table.{Table, is_above, least_where}
use Rattle.co_coord.proofs.coord.Coord.open_after.Goals as goal

pub returns : goal.returns
returns c = λ y r. c.first_above.ensures ∙ ap (λ (u : Table Entry). least_where (λ t e. is_above c.args.after t) u) (sym (r.table c.table.result.now c.table.ensures))
