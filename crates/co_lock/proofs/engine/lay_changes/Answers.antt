use Rattle.std.proofs.Common.{List, take, ap, subst, ◌∙◌, arith}
use Rattle.std.proofs.lemmas.List.{take_all}
use Rattle.co_base.specs.declared.written.Written.{Written}
use Rattle.co_lock.specs.Locked.{IsLocked}
use Rattle.co_lock.specs.LockedState.{LockedState, with_writes, with_write}
use Rattle.co_lock.proofs.Restoring.{writes_more, clear_still, key_listed}
use Rattle.co_lock.proofs.engine.lay_changes.Goals as goal

pub loop-change-preserved : goal.loop-change-preserved
loop-change-preserved c = λ g s clear.
    let ws = c.args.changes.now in
    let t = c.args.t in
    let i = c.loop-change.change-index in
    let w = c.change-item.result in
    let before = with_writes g t (take i ws) in
    let at = c.loop-change.invariant g s clear in
    let done = c.in_ok-write.ensures before at (clear_still g t (take i ws) w.key (clear w.key (key_listed ws i w c.loop-change-test.true c.change-item.is))) in
    subst (λ (n : LockedState). IsLocked c.write.new.self n) (ap (with_write before t w.key) c.lent.ensures ∙ writes_more g t ws i w c.loop-change-test.true c.change-item.is) done

pub returns : goal.returns
returns c = λ g s clear.
    let f = c.loop-change-test.false in
    subst (λ (ws : List Written). IsLocked c.loop-change.place (with_writes g c.args.t ws)) (take_all c.loop-change.change-index c.args.changes.now (omega (arith, f))) (c.loop-change.invariant g s clear)
