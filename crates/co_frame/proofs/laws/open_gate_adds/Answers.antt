use Rattle.co_frame.proofs.Texts.{adds}
use Rattle.co_frame.proofs.laws.open_gate_adds.Goals as goal

pub returns : goal.returns
returns c = adds
