use Rattle.std.proofs.Common.{◌∙◌, ap, length}
use Rattle.co_trial.proofs.Done.{nothing_in}
use Rattle.co_trial.proofs.running.left_open.Goals as goal

pub still_open-requires : goal.still_open-requires
still_open-requires g c = let w = c.requires in record { stands = (w.0, w.1, w.2) }

pub returns : goal.returns
returns g c = let w = c.requires in ap length c.as_slice.ensures.value ∙ nothing_in c.in_ok-open.open (λ t h. w.3 t ((c.in_ok-open.ensures.listed w.0 w.1 t).0 h))
