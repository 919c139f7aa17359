use Rattle.co_law_minimal.proofs.Needed.{each_needed}
use Rattle.co_law_minimal.proofs.minimal.voting_rule_is_minimal.Goals as goal

pub returns : goal.returns
returns c = each_needed
