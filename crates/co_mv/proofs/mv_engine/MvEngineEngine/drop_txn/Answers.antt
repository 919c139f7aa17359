use Rattle.co_mv.proofs.Standing.{stands_drop}
use Rattle.co_mv.proofs.mv_engine.MvEngineEngine.drop_txn.Goals as goal

pub returns-clause-state : goal.returns-clause-state
returns-clause-state c = λ b s h.
    stands_drop c.args.self.now _ b c.args.t s c.leave.ensures.snapshots (c.leave.ensures.keeps b.base b.installed s.keeps) c.remove.ensures.rest
