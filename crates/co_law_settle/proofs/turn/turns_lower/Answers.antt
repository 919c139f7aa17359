use Rattle.co_law_settle.proofs.Settled.{lowers}
use Rattle.co_law_settle.proofs.turn.turns_lower.Goals as goal

pub returns : goal.returns
returns c = λ kinds coords fm fc hs turn g own v names u can. lowers kinds coords fm fc hs g own v names u turn can
