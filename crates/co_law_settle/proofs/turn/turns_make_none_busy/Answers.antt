use Rattle.co_law_settle.proofs.Settled.{wakes}
use Rattle.co_law_settle.proofs.turn.turns_make_none_busy.Goals as goal

pub returns : goal.returns
returns c = λ kinds coords fm fc hs turn t g own v names u can. wakes kinds coords fm fc hs g own v names u turn can t
