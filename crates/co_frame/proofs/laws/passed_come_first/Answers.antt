use Rattle.co_frame.proofs.Texts.{passed_first}
use Rattle.co_frame.proofs.laws.passed_come_first.Goals as goal

pub returns : goal.returns
returns c = passed_first
