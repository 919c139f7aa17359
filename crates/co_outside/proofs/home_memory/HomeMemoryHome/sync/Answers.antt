use Rattle.co_outside.specs.declared.home.HomeCall.TheVariants.{Sync}
use Rattle.co_outside.specs.HomeMemory.{memory_seen}
use Rattle.co_outside.proofs.Dues.{due_handed}
use Rattle.co_outside.proofs.home_memory.HomeMemoryHome.sync.Goals as goal

pub returns-in_err-begin-clause-due : goal.returns-in_err-begin-clause-due
returns-in_err-begin-clause-due c = due_handed c.args.spot Sync (memory_seen c.args.self.now) (memory_seen c.begin.new.self) c.begin.result c.from_residual.result c.in_err-begin.field-0.0 c.in_err-begin.was c.from_residual.ensures.1 c.begin.ensures.due
