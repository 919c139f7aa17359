use Rattle.co_coop.proofs.Resolving.{listed_homes}
use Rattle.co_coop.proofs.laws.doubts_name_homes.Goals as goal

pub returns : goal.returns
returns c = listed_homes
