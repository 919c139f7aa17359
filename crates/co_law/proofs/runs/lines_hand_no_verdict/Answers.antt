use Rattle.co_law.proofs.GoingOn.{lines_true}
use Rattle.co_law.proofs.runs.lines_hand_no_verdict.Goals as goal

pub returns : goal.returns
returns c = lines_true
