use Rattle.co_node.proofs.Opened.{told_records}
use Rattle.co_node.proofs.laws.standing_logs_are_told.Goals as goal

pub returns : goal.returns
returns c = told_records
