use Rattle.std.proofs.Common.{List, ◌+◌, drop, sym, ap, ◌∙◌}
use Rattle.co_serial.specs.Family.{family_of}
use Rattle.co_serial.specs.SerialRun.{after_whole}
use Rattle.co_serial.specs.declared.site.Site.{Site}
use Rattle.co_trial.proofs.Runs.{drop_at}
use Rattle.co_trial.proofs.deciding.Decisions.run.Goals as goal

pub loop-operation-preserved : goal.loop-operation-preserved
loop-operation-preserved c =
    let d = drop_at c.args.operations.now c.loop-operation.operation-index c.operation-item.result c.loop-operation-test.true c.operation-item.is in
    record {
      left = ap (λ r. after_whole r (drop (c.loop-operation.operation-index + 1) c.args.operations.now)) c.in_ok-apply.ensures.ok
          ∙ ap (λ (xs : List Site). after_whole (family_of c.loop-operation.self.serial) xs) (sym d) ∙ c.loop-operation.invariant.left;
      count = c.loop-operation.invariant.count;
    }
