use Rattle.std.proofs.Common.{◌≤◌, length, drop}
use Rattle.co_base.specs.declared.head.Kind.TheVariants.{Lock}
use Rattle.co_state.specs.Effects.{restored, records_from}
use Rattle.co_engine.specs.Calls.{votes_of}
use Rattle.co_lock.specs.Standing.{StandsFor}
use Rattle.co_lock.proofs.engine.LockEngineEngine.restore.Given as goal

abbrev pub invariant-loop-place : goal.invariant-loop-place
invariant-loop-place l = record {
  within : l.place ≤ length l.voted;
  laid : StandsFor l.engine (restored Lock (records_from l.fn.rows) (votes_of (drop l.place l.voted)));
}

abbrev pub decreases-loop-place : goal.decreases-loop-place
decreases-loop-place l = l.place
