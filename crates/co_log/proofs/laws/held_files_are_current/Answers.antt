use Rattle.co_log.proofs.Ordered.{held_current, live_open}
use Rattle.co_log.proofs.laws.held_files_are_current.Goals as goal

pub returns-clause-current : goal.returns-clause-current
returns-clause-current c = held_current

pub returns-clause-opens : goal.returns-clause-opens
returns-clause-opens c = λ log items live. live_open log.version log.current.state.stable log.gate items live.made live.ends
