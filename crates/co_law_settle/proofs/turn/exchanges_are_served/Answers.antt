use Rattle.co_law_settle.proofs.Settled.{served}
use Rattle.co_law_settle.proofs.turn.exchanges_are_served.Goals as goal

pub returns : goal.returns
returns c = λ kinds coords fm fc hs e g own v names u up h. served kinds coords fm fc hs g own v names u up e h
