use Rattle.std.proofs.Common.{refl}
use Rattle.co_mv.proofs.Standing.{stands_cast}
use Rattle.co_mv.proofs.mv_engine.MvEngineEngine.cast.Goals as goal

pub returns-clause-state : goal.returns-clause-state
returns-clause-state c = λ b coord count s h. stands_cast c.args.self.now _ b c.args.t coord count s h c.leave.ensures.snapshots (c.leave.ensures.keeps b.base b.installed s.keeps) refl
