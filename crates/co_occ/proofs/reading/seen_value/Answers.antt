use Rattle.std.proofs.Common.{sym}
use Rattle.co_occ.proofs.reading.seen_value.Goals as goal

pub returns : goal.returns
returns c = c.value_after.ensures c.args.records.now (sym c.get.ensures)
