use Rattle.co_law_exact.proofs.Decided.{numbers_stay}
use Rattle.co_law_exact.proofs.events.opened_numbers_stay.Goals as goal

pub returns : goal.returns
returns c = numbers_stay
