use Rattle.co_locktab.specs.Locks.{without_reads}
use Rattle.co_locktab.proofs.lock_table.LockTable.end_all.Goals as goal

pub returns : goal.returns
returns c = λ locks s. c.end_writes.ensures (without_reads locks c.args.t) (c.end_reads.ensures locks s)
