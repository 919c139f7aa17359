use Rattle.std.proofs.Common.{Some, not, sym, ◌∙◌, arith}
use Rattle.std.specs.Prelude.{◌==◌}
use Rattle.co_recover.proofs.Meeting.{none_found, write_found, write_hit, write_missed, writes_end}
use Rattle.co_recover.specs.Locked.{sets_at}
use Rattle.co_recover.proofs.locks.holder_of.Goals as goal

pub returns-in-Some : goal.returns-in-Some
returns-in-Some c = λ voted h.
    let u = c.in-Some.u in
    let w = c.change-item.result in
    sym
    (sym (write_hit (not (u == c.args.t)) c.args.changes.now c.loop-change.change-index w (sets_at voted u) c.loop-change-test.true c.change-item.is
    (write_found c.args.locks.now voted c.args.t w.key (Some u) h c.in-Some.ensures))
    ∙ c.loop-change.invariant voted h u)

pub loop-change-preserved : goal.loop-change-preserved
loop-change-preserved c = λ voted h u.
    let w = c.change-item.result in
    write_missed (not (u == c.args.t)) c.args.changes.now c.loop-change.change-index w (sets_at voted u) c.loop-change-test.true c.change-item.is
    (none_found _ c.blocker_write.result c.in_default.not-Some (write_found c.args.locks.now voted c.args.t w.key c.blocker_write.result h c.blocker_write.ensures) u)
    ∙ c.loop-change.invariant voted h u

pub returns : goal.returns
returns c = λ voted h u.
    let f = c.loop-change-test.false in
    sym (c.loop-change.invariant voted h u) ∙ writes_end (not (u == c.args.t)) c.args.changes.now c.loop-change.change-index (sets_at voted u) (omega (arith, f))
