use Rattle.std.proofs.Common.{subst}
use Rattle.co_any.proofs.any_engine.AnyEngineEngine.cast.Goals as goal
use Rattle.co_any.specs.Standing.{StandsFor}
use Rattle.co_any.specs.declared.any_engine.AnyEngine.{AnyEngine}

pub returns-in-Lock-clause-state : goal.returns-in-Lock-clause-state
returns-in-Lock-clause-state c = λ b coord count s h. c.cast.ensures.state b coord count (subst (λ (e : AnyEngine). StandsFor e b) c.in-Lock.is s) h

pub returns-in-Occ-clause-state : goal.returns-in-Occ-clause-state
returns-in-Occ-clause-state c = λ b coord count s h. c.cast-in-Occ.ensures.state b coord count (subst (λ (e : AnyEngine). StandsFor e b) c.in-Occ.is s) h

pub returns-in-Mv-clause-state : goal.returns-in-Mv-clause-state
returns-in-Mv-clause-state c = λ b coord count s h. c.cast-in-Mv.ensures.state b coord count (subst (λ (e : AnyEngine). StandsFor e b) c.in-Mv.is s) h
