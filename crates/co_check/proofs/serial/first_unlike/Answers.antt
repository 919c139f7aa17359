use Rattle.std.proofs.Common.{sym, subst}
use Rattle.co_serial.specs.Family.{family_of}
use Rattle.co_check.specs.Runs.{IsUnlike}
use Rattle.co_check.specs.declared.serial.Unlike.{Unlike}
use Rattle.co_check.proofs.Running.{turn, stops}
use Rattle.co_check.proofs.serial.first_unlike.Goals as goal

pub loop-operation-preserved : goal.loop-operation-preserved
loop-operation-preserved c =
    turn _ _ _ c.args.told.items c.loop-operation.yielded _ c.next.new.self.rest.items c.in-Some.operation c.in_ok-serial.serial c.loop-operation.invariant c.in-Some.ensures.steps.0
    c.in_ok-serial.ensures.reply c.in_ok-serial.ensures.ok (c.is_same.ensures.same c.if-not-is_same.false)

pub returns-then-not-is_same : goal.returns-then-not-is_same
returns-then-not-is_same c =
    subst {A = Unlike} (λ u. IsUnlike (family_of c.args.map.now) c.args.told.items u.number u.told u.serial) (sym c.differing.ensures)
    (stops _ _ c.args.told.items c.loop-operation.yielded _ c.next.new.self.rest.items c.in-Some.operation c.in_ok-serial.serial c.loop-operation.invariant
    c.in-Some.ensures.steps.0 c.in_ok-serial.ensures.reply (c.is_same.ensures.differs c.if-not-is_same.true))

pub loop-operation-preserved-else-not-is_same : goal.loop-operation-preserved-else-not-is_same
loop-operation-preserved-else-not-is_same c =
    turn _ _ _ c.args.told.items c.loop-operation.yielded _ c.next.new.self.rest.items c.in-Some.operation c.in_ok-serial.serial c.loop-operation.invariant c.in-Some.ensures.steps.0
    c.in_ok-serial.ensures.reply c.in_ok-serial.ensures.ok (c.is_same.ensures.same c.if-not-is_same.false)

pub loop-operation-preserved-else-not-is_same-2 : goal.loop-operation-preserved-else-not-is_same-2
loop-operation-preserved-else-not-is_same-2 c =
    turn _ _ _ c.args.told.items c.loop-operation.yielded _ c.next.new.self.rest.items c.in-Some.operation c.in_ok-serial.serial c.loop-operation.invariant c.in-Some.ensures.steps.0
    c.in_ok-serial.ensures.reply c.in_ok-serial.ensures.ok (c.is_same.ensures.same c.if-not-is_same.false)

pub loop-operation-preserved-else-not-is_same-3 : goal.loop-operation-preserved-else-not-is_same-3
loop-operation-preserved-else-not-is_same-3 c =
    turn _ _ _ c.args.told.items c.loop-operation.yielded _ c.next.new.self.rest.items c.in-Some.operation c.in_ok-serial.serial c.loop-operation.invariant c.in-Some.ensures.steps.0
    c.in_ok-serial.ensures.reply c.in_ok-serial.ensures.ok (c.is_same.ensures.same c.if-not-is_same.false)
