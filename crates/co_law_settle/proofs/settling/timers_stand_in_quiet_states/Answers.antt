use Rattle.co_law_settle.proofs.Settled.{quiet}
use Rattle.co_law_settle.proofs.settling.timers_stand_in_quiet_states.Goals as goal

pub returns : goal.returns
returns c = λ kinds coords fm fc hs events before after t at settling e. quiet _ events settling before after t at e
