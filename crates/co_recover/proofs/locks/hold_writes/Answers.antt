use Rattle.std.proofs.Common.{List, subst, arith}
use Rattle.std.proofs.lemmas.List.{take_all}
use Rattle.co_base.specs.declared.written.Written.{Written}
use Rattle.co_recover.proofs.Holding.{no_writes, writes_more}
use Rattle.co_recover.specs.Locked.{Holds, with_writes}
use Rattle.co_recover.proofs.locks.hold_writes.Goals as goal

pub loop-change-init : goal.loop-change-init
loop-change-init c = λ held h. no_writes c.args.locks.now held c.args.t h

pub loop-change-preserved : goal.loop-change-preserved
loop-change-preserved c = λ held h.
    writes_more c.loop-change.locks c.add_write.new.self held c.args.t c.args.changes.now c.loop-change.change-index c.change-item.result c.loop-change-test.true c.change-item.is
    (c.loop-change.invariant held h) c.in_ok-add_write.ensures

pub returns : goal.returns
returns c = λ held h.
    let f = c.loop-change-test.false in
    subst (λ (ws : List Written). Holds c.loop-change.locks (with_writes held c.args.t ws)) (take_all c.loop-change.change-index c.args.changes.now (omega (arith, f))) (c.loop-change.invariant held h)
