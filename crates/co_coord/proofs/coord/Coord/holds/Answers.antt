use Rattle.std.proofs.Common.{sym, ap, ◌∙◌}
use Rattle.co_plain.specs.declared.coord_state.Entry.{Entry}
use Rattle.co_state.specs.Table.{Table, holds}
use Rattle.co_coord.proofs.coord.Coord.holds.Goals as goal

pub returns : goal.returns
returns c = λ y r. c.contains.ensures ∙ ap (λ (u : Table Entry). holds u c.args.t) (sym (r.table c.table.result.now c.table.ensures))
