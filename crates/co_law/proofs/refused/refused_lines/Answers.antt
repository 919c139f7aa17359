use Rattle.co_law.proofs.RefusedLines.{refused}
use Rattle.co_law.proofs.refused.refused_lines.Goals as goal

pub returns : goal.returns
returns c = λ s h a e r. refused s h a e r
