use Rattle.std.proofs.Common.{Some, not, sym, ◌∙◌, arith}
use Rattle.std.specs.Prelude.{◌==◌}
use Rattle.co_recover.proofs.Meeting.{none_found, read_found, read_hit, read_missed, reads_end}
use Rattle.co_recover.specs.Locked.{sets_at}
use Rattle.co_recover.proofs.locks.writer_within.Goals as goal

pub returns-in-Some : goal.returns-in-Some
returns-in-Some c = λ voted h.
    let u = c.in-Some.u in
    let s = c.range-item.result in
    sym
    (sym (read_hit (not (u == c.args.t)) c.args.ranges.now c.loop-range.range-index s (sets_at voted u).writes c.loop-range-test.true c.range-item.is
    (read_found c.args.locks.now voted c.args.t s (Some u) h c.in-Some.ensures))
    ∙ c.loop-range.invariant voted h u)

pub loop-range-preserved : goal.loop-range-preserved
loop-range-preserved c = λ voted h u.
    let s = c.range-item.result in
    read_missed (not (u == c.args.t)) c.args.ranges.now c.loop-range.range-index s (sets_at voted u).writes c.loop-range-test.true c.range-item.is
    (none_found _ c.blocker_read.result c.in_default.not-Some (read_found c.args.locks.now voted c.args.t s c.blocker_read.result h c.blocker_read.ensures) u)
    ∙ c.loop-range.invariant voted h u

pub returns : goal.returns
returns c = λ voted h u.
    let f = c.loop-range-test.false in
    sym (c.loop-range.invariant voted h u) ∙ reads_end (not (u == c.args.t)) c.args.ranges.now c.loop-range.range-index (sets_at voted u).writes (omega (arith, f))
