use Rattle.std.proofs.Common.{◌≡◌, drop}
use Rattle.co_serial.specs.Family.{family_of}
use Rattle.co_serial.specs.SerialRun.{after_whole}
use Rattle.co_trial.proofs.deciding.Decisions.run.Given as goal

abbrev pub invariant-loop-operation : goal.invariant-loop-operation
invariant-loop-operation l = record {
  left : after_whole (family_of l.self.serial) (drop l.operation-index l.operations) ≡ after_whole (family_of l.fn.self.serial) l.operations;
  count : l.self.txns.items ≡ l.fn.self.txns.items;
}
