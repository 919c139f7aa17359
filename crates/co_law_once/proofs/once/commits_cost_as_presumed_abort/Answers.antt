use Rattle.co_law_once.proofs.Writing.{as_presumed_abort}
use Rattle.co_law_once.proofs.once.commits_cost_as_presumed_abort.Goals as goal

pub returns : goal.returns
returns c = as_presumed_abort
