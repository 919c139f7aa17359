use Rattle.co_law_coop.proofs.EitherWay.{goes_either_way, no_verdict}
use Rattle.co_law_coop.proofs.laws.doubts_may_go_either_way.Goals as goal

pub returns-clause-stopped : goal.returns-clause-stopped
returns-clause-stopped c = λ s t coord m i a. goes_either_way s t coord m a i

pub returns-clause-blocked : goal.returns-clause-blocked
returns-clause-blocked c = no_verdict
