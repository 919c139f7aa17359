use Rattle.std.proofs.Common.{List, length, ◌<◌, ap, arith}
use Rattle.std.proofs.lemmas.Bool.Decides.{nat_tests}
use Rattle.co_base.specs.declared.txn.Txn.{Txn}
use Rattle.co_record.specs.declared.record.Record.{Record}
use Rattle.co_record.specs.Format.{newest}
use Rattle.co_record.specs.Spelling.{spelling}
use Rattle.co_log.proofs.Counted.{checkpoint_long}
use Rattle.co_log.proofs.counting.is_counted.Goals as goal

pub returns-in-Checkpoint-clause-no : goal.returns-in-Checkpoint-clause-no
returns-in-Checkpoint-clause-no c = λ no.
    let many : 4294967295 < c.max-longest.result = grind (arith, nat_tests) in
    let long = checkpoint_long c.in-Checkpoint.rows c.in-Checkpoint.undos c.in-Checkpoint.committed in
    omega (arith, many, long.0, long.1, long.2, c.max-longest.ensures, c.max.ensures, c.len.ensures, c.len-in-Checkpoint.ensures, ap (λ (ts : List Txn). length ts) c.as_slice.ensures.value, ap (λ (r : Record). length (spelling newest r)) c.in-Checkpoint.is)
