use Rattle.std.proofs.Common.{sym, ap, ◌∙◌}
use Rattle.co_plain.specs.declared.coord_state.Entry.{Entry}
use Rattle.co_state.specs.Table.{Table, look}
use Rattle.co_coord.specs.Reading.{stage_of}
use Rattle.co_coord.proofs.coord.Coord.stage.Goals as goal

pub returns : goal.returns
returns c = λ y r. c.stage_in.ensures ∙ ap (λ (u : Table Entry). stage_of (look u c.args.t)) (sym (r.table c.table.result.now c.table.ensures))
