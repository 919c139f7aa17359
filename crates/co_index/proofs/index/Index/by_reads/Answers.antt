use Rattle.std.proofs.Common.{◌∙◌}
use Rattle.co_index.proofs.Holding.{written_is}
use Rattle.co_index.proofs.index.Index.by_reads.Goals as goal

pub returns-then-len-reads : goal.returns-then-len-reads
returns-then-len-reads c = c.by_written.ensures ∙ written_is c.args.self.now c.args.t c.args.reads.now c.args.found
