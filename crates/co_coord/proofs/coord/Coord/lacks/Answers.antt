use Rattle.std.proofs.Common.{sym, ap, ◌∙◌}
use Rattle.co_plain.specs.declared.coord_state.Entry.{Entry}
use Rattle.co_state.specs.Table.{Table, look}
use Rattle.co_coord.specs.Reading.{lacking_of}
use Rattle.co_coord.proofs.coord.Coord.lacks.Goals as goal

pub returns : goal.returns
returns c = λ y r. c.lacking_in.ensures ∙ ap (λ (u : Table Entry). lacking_of c.args.after (look u c.args.t)) (sym (r.table c.table.result.now c.table.ensures))
