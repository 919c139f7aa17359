use Rattle.co_law_minimal.proofs.LeftOut.{weaker, alone}
use Rattle.co_law_minimal.proofs.parts.one_part_is_left_out.Goals as goal

pub returns-clause-weaker : goal.returns-clause-weaker
returns-clause-weaker c = weaker

pub returns-clause-alone : goal.returns-clause-alone
returns-clause-alone c = alone
