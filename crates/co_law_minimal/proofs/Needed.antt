-- Each part but one is needed.
use Rattle.std.proofs.Common.{◌≢◌, refl}
use Rattle.co_law_minimal.specs.Rule.{RulePart, CountsAgree, ReadsAreFresh, ActiveReader, VotedReader, BothWrote, VotedWriter}
use Rattle.co_law_minimal.specs.Minimal.{IsNeeded}
use Rattle.co_law_minimal.proofs.LostRun as lost
use Rattle.co_law_minimal.proofs.StaleRun as stale
use Rattle.co_law_minimal.proofs.ReaderRun as reader
use Rattle.co_law_minimal.proofs.WroteRun as wrote
use Rattle.co_law_minimal.proofs.WriterRun as writer

pub each_needed : (left : RulePart) → left ≢ ActiveReader → IsNeeded left
each_needed CountsAgree n = lost.needed
each_needed ReadsAreFresh n = stale.needed
each_needed ActiveReader n = absurd (n refl)
each_needed VotedReader n = reader.needed
each_needed BothWrote n = wrote.needed
each_needed VotedWriter n = writer.needed
