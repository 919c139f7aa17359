use Rattle.co_law_rounds.proofs.Disturbances.{raises_nothing}
use Rattle.co_law_rounds.proofs.disturbed.node_events_raise_nothing.Goals as goal

pub returns : goal.returns
returns c = λ kinds coords fm fc hs e g own v names unarmed i. raises_nothing kinds coords fm fc hs g own v names unarmed e i
