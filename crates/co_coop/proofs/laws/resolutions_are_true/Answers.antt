use Rattle.co_coop.proofs.Resolving.{all_true, all_reach}
use Rattle.co_coop.proofs.laws.resolutions_are_true.Goals as goal

pub returns-clause-verdicts : goal.returns-clause-verdicts
returns-clause-verdicts c = all_true

pub returns-clause-reached : goal.returns-clause-reached
returns-clause-reached c = all_reach
