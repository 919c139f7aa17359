use Rattle.std.proofs.Common.{sym, ◌∙◌}
use Rattle.co_durable.proofs.Pairs.{first_at}
use Rattle.co_opening.specs.Versions.{IsLatest, IsOldAt}
use Rattle.co_opening.proofs.judging.refuse_old.Goals as goal

pub returns-then-version-eq1-clause-old : goal.returns-then-version-eq1-clause-old
returns-then-version-eq1-clause-old c =
    first_at IsLatest (IsOldAt c.spot.result) c.args.logs.now c.loop-log.log-index c.log-item.result c.log-item.result c.loop-log-test.true c.log-item.is c.loop-log.invariant
    (c.spot.ensures, sym c.version.ensures ∙ c.if-version-eq1.true)
