use Rattle.co_law.proofs.OwnStart.{each_keeps}
use Rattle.co_law.proofs.own.kept_by_each.Goals as goal

pub returns : goal.returns
returns c = λ kinds coords fm fc hs own allowed. each_keeps kinds coords fm fc own allowed hs
