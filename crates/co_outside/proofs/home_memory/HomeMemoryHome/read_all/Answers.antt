use Rattle.std.proofs.Common.{Ok}
use Rattle.co_outside.specs.declared.home.HomeCall.TheVariants.{ReadAll}
use Rattle.co_outside.specs.HomeMemory.{memory_seen}
use Rattle.co_outside.proofs.Dues.{due_handed, due_other, ok_no_fault, memory_no_fault}
use Rattle.co_outside.proofs.home_memory.HomeMemoryHome.read_all.Goals as goal

pub returns-in_err-begin-clause-due : goal.returns-in_err-begin-clause-due
returns-in_err-begin-clause-due c = due_handed c.args.spot ReadAll (memory_seen c.args.self.now) (memory_seen c.begin.new.self) c.begin.result c.from_residual.result c.in_err-begin.field-0.0 c.in_err-begin.was c.from_residual.ensures.1 c.begin.ensures.due

pub returns-in_err-front-clause-due : goal.returns-in_err-front-clause-due
returns-in_err-front-clause-due c =
    due_other c.args.spot ReadAll (memory_seen c.args.self.now) (memory_seen c.begin.new.self) c.begin.result c.from_residual-in_err-front.result (ok_no_fault c.begin.result _ c.in_ok-begin.was) (memory_no_fault c.from_residual-in_err-front.result c.from_residual-in_err-front.ensures.1) c.begin.ensures.due

pub returns-clause-due : goal.returns-clause-due
returns-clause-due c =
    due_other c.args.spot ReadAll (memory_seen c.args.self.now) (memory_seen c.begin.new.self) c.begin.result (Ok c.in_ok-front.front) (ok_no_fault c.begin.result _ c.in_ok-begin.was) (λ h. absurd (cc)) c.begin.ensures.due
