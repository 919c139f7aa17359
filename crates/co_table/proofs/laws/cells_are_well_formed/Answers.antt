use Rattle.co_table.proofs.Formed.{well_formed}
use Rattle.co_table.proofs.laws.cells_are_well_formed.Goals as goal

pub returns : goal.returns
returns c = λ items. well_formed items
