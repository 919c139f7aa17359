use Rattle.std.proofs.Common.{List, subst, arith}
use Rattle.std.proofs.lemmas.List.{take_all}
use Rattle.co_base.specs.Span.{Span}
use Rattle.co_recover.proofs.Holding.{no_reads, reads_more}
use Rattle.co_recover.specs.Locked.{Holds, with_reads}
use Rattle.co_recover.proofs.locks.hold_reads.Goals as goal

pub loop-range-init : goal.loop-range-init
loop-range-init c = λ held h. no_reads c.args.locks.now held c.args.t h

pub loop-range-preserved : goal.loop-range-preserved
loop-range-preserved c = λ held h.
    reads_more c.loop-range.locks c.add_read.new.self held c.args.t c.args.ranges.now c.loop-range.range-index c.range-item.result c.loop-range-test.true c.range-item.is
    (c.loop-range.invariant held h) c.in_ok-add_read.ensures

pub returns : goal.returns
returns c = λ held h.
    let f = c.loop-range-test.false in
    subst (λ (ss : List Span). Holds c.loop-range.locks (with_reads held c.args.t ss)) (take_all c.loop-range.range-index c.args.ranges.now (omega (arith, f))) (c.loop-range.invariant held h)
