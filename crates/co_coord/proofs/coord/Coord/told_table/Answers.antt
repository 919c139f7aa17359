use Rattle.std.proofs.Common.{◌∙◌}
use Rattle.co_coord.proofs.Told.{table_told}
use Rattle.co_coord.proofs.coord.Coord.told_table.Goals as goal

pub returns-clause-table : goal.returns-clause-table
returns-clause-table c = λ y r. c.in_ok-table_of.ensures ∙ table_told y.log c.in_ok-past.past (c.in_ok-past.ensures y r)
