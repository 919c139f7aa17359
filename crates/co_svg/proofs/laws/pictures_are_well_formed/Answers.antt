use Rattle.co_svg.proofs.WellFormed.{well_formed}
use Rattle.co_svg.proofs.laws.pictures_are_well_formed.Goals as goal

pub returns : goal.returns
returns c = λ p. well_formed p
