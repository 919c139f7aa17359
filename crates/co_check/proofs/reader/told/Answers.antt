use Rattle.std.proofs.Common.{ap}
use Rattle.co_check.specs.Stages.{InTranscript, read_on}
use Rattle.co_check.proofs.reader.told.Goals as goal

pub returns-clause-taken : goal.returns-clause-taken
returns-clause-taken c = λ start r f. let t = c.in_ok-take.ensures.taken start r f in (InTranscript start t.0, ap (read_on start) t.1, t.2)
