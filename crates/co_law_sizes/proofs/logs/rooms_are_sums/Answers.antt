use Rattle.co_law_sizes.proofs.Runs.{room_both, room_most, generation_most}
use Rattle.co_law_sizes.proofs.logs.rooms_are_sums.Goals as goal

pub returns-clause-both : goal.returns-clause-both
returns-clause-both c = room_both

pub returns-clause-most : goal.returns-clause-most
returns-clause-most c = room_most

pub returns-clause-generations : goal.returns-clause-generations
returns-clause-generations c = generation_most
