use Rattle.co_outside.specs.declared.home.HomeCall.TheVariants.{Enter}
use Rattle.co_outside.specs.HomeMemory.{memory_seen}
use Rattle.co_outside.proofs.Dues.{due_handed, due_other, ok_no_fault, memory_no_fault}
use Rattle.co_outside.proofs.home_memory.HomeMemoryHome.enter.Goals as goal

pub returns-in_err-begin-clause-due : goal.returns-in_err-begin-clause-due
returns-in_err-begin-clause-due c = due_handed (record { node = 1; part = 0 }) Enter (memory_seen c.args.self.now) (memory_seen c.begin.new.self) c.begin.result c.from_residual.result c.in_err-begin.field-0.0 c.in_err-begin.was c.from_residual.ensures.1 c.begin.ensures.due

pub returns-in_err-from_str-clause-due : goal.returns-in_err-from_str-clause-due
returns-in_err-from_str-clause-due c =
    due_other (record { node = 1; part = 0 }) Enter (memory_seen c.args.self.now) (memory_seen c.begin.new.self) c.begin.result c.from_residual-in_err-from_str.result (ok_no_fault c.begin.result _ c.in_ok-begin.was) (memory_no_fault c.from_residual-in_err-from_str.result c.from_residual-in_err-from_str.ensures.1) c.begin.ensures.due
