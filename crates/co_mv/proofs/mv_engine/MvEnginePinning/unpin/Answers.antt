use Rattle.std.proofs.Common.{refl, ap}
use Rattle.co_mv.proofs.Standing.{stands_still}
use Rattle.co_mv.proofs.mv_engine.MvEnginePinning.unpin.Goals as goal

pub returns-clause-state : goal.returns-clause-state
returns-clause-state c = λ b s. stands_still c.args.self.now _ b s (ap (λ x. x.stamps) c.unpin.ensures.snapshots) (c.unpin.ensures.keeps b.base b.installed s.keeps) refl
