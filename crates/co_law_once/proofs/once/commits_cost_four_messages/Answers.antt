use Rattle.co_law_once.proofs.Costing.{four_messages}
use Rattle.co_law_once.proofs.once.commits_cost_four_messages.Goals as goal

pub returns : goal.returns
returns c = four_messages
