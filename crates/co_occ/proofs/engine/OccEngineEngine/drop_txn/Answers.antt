use Rattle.std.proofs.Common.{sym, subst}
use Rattle.co_state.specs.Effects.{after_drop}
use Rattle.co_occ.specs.declared.engine.OccEngine.{OccEngine}
use Rattle.co_occ.specs.Stands.{StandsFor}
use Rattle.co_occ.proofs.Standing.{stands_drop}
use Rattle.co_occ.proofs.engine.OccEngineEngine.drop_txn.Goals as goal

pub returns-clause-state : goal.returns-clause-state
returns-clause-state c = λ b s h.
    subst (λ (o : OccEngine). StandsFor o (after_drop b c.args.t)) (sym c.forget_old.ensures.rest)
    (stands_drop c.args.self.now b c.args.t _ _ _ s c.take.ensures.rest c.remove.ensures.rest (c.forget_old.ensures.lasts s.lasts_are))
