use Rattle.co_law_moves.proofs.Growing.{run_grows}
use Rattle.co_law.proofs.runs.opened_logs_stay.Goals as goal

pub returns-clause-members : goal.returns-clause-members
returns-clause-members c = λ hs s. (run_grows hs s).members

pub returns-clause-coordinators : goal.returns-clause-coordinators
returns-clause-coordinators c = λ hs s. (run_grows hs s).coords
