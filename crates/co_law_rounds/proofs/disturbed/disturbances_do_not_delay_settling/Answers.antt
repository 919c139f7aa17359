use Rattle.co_law_rounds.proofs.Disturbances.{never_grows, still_bounded}
use Rattle.co_law_rounds.proofs.disturbed.disturbances_do_not_delay_settling.Goals as goal

pub returns-clause-left : goal.returns-clause-left
returns-clause-left c = λ kinds coords fm fc hs events g own v names unarmed i. never_grows kinds coords fm fc hs g own v names unarmed events i

pub returns-clause-bounded : goal.returns-clause-bounded
returns-clause-bounded c =
    λ kinds coords fm fc hs events more few some g own v names unarmed i settling. still_bounded kinds coords fm fc hs g own v names unarmed few some events more i settling
