use Rattle.co_check.specs.Stages.{at_transcript}
use Rattle.co_check.proofs.Plainly.{reads_plainly}
use Rattle.co_check.proofs.lines.read_items.Goals as goal

pub returns-clause-checked : goal.returns-clause-checked
returns-clause-checked g c = λ text e. reads_plainly text c.read_on.result (c.read_on.ensures.checked at_transcript text c.new.ensures.follows e)

pub returns-clause-heard : goal.returns-clause-heard
returns-clause-heard g c = λ text more ahead. reads_plainly text c.read_on.result (c.read_on.ensures.heard at_transcript text more c.new.ensures.follows ahead)
