use Rattle.co_mv.proofs.Outcomes.{on_both}
use Rattle.co_mv.proofs.Standing.{stands_with}
use Rattle.co_mv.proofs.mv_engine.MvEngine.add.Goals as goal

pub returns-clause-state : goal.returns-clause-state
returns-clause-state c = λ b s h.
    on_both c.enter.result (λ es k. stands_with c.args.self.now _ b c.args.t c.args.op.now s h es k c.in_ok-grow.ensures) c.enter.ensures.snapshots (c.enter.ensures.keeps b.base b.installed s.keeps)
