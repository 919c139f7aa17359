use Rattle.std.proofs.Common.{◌++◌}
use Rattle.std.specs.Prelude.{Err}
use Rattle.co_log.proofs.Spelled.{fits, forced_fits}
use Rattle.co_log.specs.Appending.{IsTooLong}
use Rattle.co_node.proofs.Ended.{force_done, force_ended}
use Rattle.co_node.proofs.Forced.{forced_answered}
use Rattle.co_node.proofs.forcing.force_batch.Goals as goal

pub returns-in-Ok-clause-written : goal.returns-in-Ok-clause-written
returns-in-Ok-clause-written g c = λ owner l more s is. force_done owner c.args.log.now c.force_batch.new.self l more _ _ _ c.in-Ok.marks s (c.in-Ok.ensures more is)

pub returns-in-Err-clause-written : goal.returns-in-Err-clause-written
returns-in-Err-clause-written g c = λ owner l more s is. force_ended owner c.args.log.now c.force_batch.new.self l more _ _ _ c.in-Err.fault c.stopped.result s (c.in-Err.ensures more is) c.stopped.ensures

pub returns-in-Err-clause-answered : goal.returns-in-Err-clause-answered
returns-in-Err-clause-answered g c = λ owner l more s is.
    let log = c.args.log.now in
    let after = c.force_batch.new.self in
    let old = g.H.Home.seen c.args.home.now in
    let new = g.H.Home.seen c.force_batch.new.home in
    let never = fits log more c.args.batch is in
    forced_answered owner log after l more old new c.in-Err.fault c.stopped.result s c.requires.held (λ long. absurd (never long))
    (forced_fits (IsTooLong log.gate (log.waiting ++ more)) log after more old new (Err c.in-Err.fault) never (c.in-Err.ensures more is)) c.stopped.ensures
