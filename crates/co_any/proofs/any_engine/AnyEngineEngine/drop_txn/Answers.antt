use Rattle.std.proofs.Common.{subst}
use Rattle.co_any.proofs.any_engine.AnyEngineEngine.drop_txn.Goals as goal
use Rattle.co_any.specs.Standing.{StandsFor}
use Rattle.co_any.specs.declared.any_engine.AnyEngine.{AnyEngine}

pub returns-in-Lock-clause-state : goal.returns-in-Lock-clause-state
returns-in-Lock-clause-state c = λ b s h. c.drop_txn.ensures.state b (subst (λ (e : AnyEngine). StandsFor e b) c.in-Lock.is s) h
