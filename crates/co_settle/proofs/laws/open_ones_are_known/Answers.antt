use Rattle.co_settle.proofs.Few.{open_known, few_open}
use Rattle.co_settle.proofs.Reaching.{all_reached}
use Rattle.co_settle.proofs.laws.open_ones_are_known.Goals as goal

pub returns-clause-known : goal.returns-clause-known
returns-clause-known c = λ s t r h. open_known s (all_reached s r).facts t h

pub returns-clause-few : goal.returns-clause-few
returns-clause-few c = few_open
