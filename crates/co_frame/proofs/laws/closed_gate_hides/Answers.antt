use Rattle.co_frame.proofs.Texts.{hides}
use Rattle.co_frame.proofs.laws.closed_gate_hides.Goals as goal

pub returns : goal.returns
returns c = hides
