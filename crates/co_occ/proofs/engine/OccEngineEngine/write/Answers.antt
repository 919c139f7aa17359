use Rattle.std.proofs.Common.{option_copied}
use Rattle.co_engine.specs.Calls.{writing}
use Rattle.co_occ.proofs.Standing.{stands_after}
use Rattle.co_occ.proofs.engine.OccEngineEngine.write.Goals as goal

pub returns-clause-state : goal.returns-clause-state
returns-clause-state c = λ b s h.
    stands_after c.args.self.now _ b c.args.t (writing c.args.key.now (option_copied c.args.value)) _ s c.in_ok-op.ensures (c.in_ok-add.ensures b s h)
