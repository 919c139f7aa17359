use Rattle.co_law_items.proofs.Rows.{fresh_scans}
use Rattle.co_law_items.proofs.laws.scans_are_as_long_as_what_was_written.Goals as goal

pub returns : goal.returns
returns c = fresh_scans
