use Rattle.std.proofs.Common.{◌∷◌, [], ap, arith}
use Rattle.co_node.proofs.Ended.{force_done, force_ended}
use Rattle.co_node.proofs.Forced.{forced_answered}
use Rattle.co_node.proofs.Sizes.{forced_is_overlong}
use Rattle.co_node.proofs.forcing.force_prepare.Goals as goal

pub returns-in-Ok-clause-written : goal.returns-in-Ok-clause-written
returns-in-Ok-clause-written g c = λ owner l s. force_done owner c.args.log.now c.force_prepare.new.self l (c.args.item ∷ []) _ _ _ c.in-Ok.marks s c.in-Ok.ensures.called

pub returns-in-Err-clause-written : goal.returns-in-Err-clause-written
returns-in-Err-clause-written g c = λ owner l s. force_ended owner c.args.log.now c.force_prepare.new.self l (c.args.item ∷ []) _ _ _ c.in-Err.fault c.stopped.result s c.in-Err.ensures.called c.stopped.ensures

pub returns-in-Err-clause-answered : goal.returns-in-Err-clause-answered
returns-in-Err-clause-answered g c = λ owner l s.
    forced_answered owner c.args.log.now c.force_prepare.new.self l (c.args.item ∷ []) (g.H.Home.seen c.args.home.now) (g.H.Home.seen c.force_prepare.new.home) c.in-Err.fault c.stopped.result s c.requires.held
    (λ long. (forced_is_overlong owner c.args.log.now l (c.args.item ∷ []) s (omega arith) long, ap g.H.Home.seen (c.in-Err.ensures.untouched long).1))
    c.in-Err.ensures.called c.stopped.ensures
