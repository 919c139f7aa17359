use Rattle.co_lock.proofs.Standing.{never_stale}
use Rattle.co_lock.proofs.engine.LockEngineEngine.stale.Goals as goal

pub returns : goal.returns
returns c = λ b s h. never_stale c.args.self.now b c.args.t s
