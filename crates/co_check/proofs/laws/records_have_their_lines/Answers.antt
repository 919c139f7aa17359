use Rattle.co_check.proofs.Entries.{written_so}
use Rattle.co_check.proofs.laws.records_have_their_lines.Goals as goal

pub returns : goal.returns
returns c = written_so
