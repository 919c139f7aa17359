use Rattle.std.proofs.Common.{sym, subst}
use Rattle.co_state.specs.Effects.{after_cast}
use Rattle.co_occ.specs.declared.engine.OccEngine.{OccEngine}
use Rattle.co_occ.specs.Stands.{StandsFor}
use Rattle.co_occ.proofs.Standing.{stands_cast}
use Rattle.co_occ.proofs.engine.OccEngineEngine.cast.Goals as goal

pub returns-clause-state : goal.returns-clause-state
returns-clause-state c = λ b coord count s h.
    subst (λ (o : OccEngine). StandsFor o (after_cast b c.args.t coord count)) (sym c.forget_old.ensures.rest)
    (stands_cast c.args.self.now b c.args.t coord count _ _ s h c.take.ensures.rest (c.forget_old.ensures.lasts s.lasts_are))
