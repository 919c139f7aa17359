use Rattle.std.proofs.Common.{sym, subst, Result, ℕ}
use Rattle.co_migrate.specs.Refilling.{AreRefilledAs}
use Rattle.co_migrate.specs.declared.fault.MigrateFault.{MigrateFault}
use Rattle.co_migrate.proofs.Refills.{filled_to, cut_at, is_fault, counted_on}
use Rattle.co_migrate.proofs.filling.refill_all.Goals as goal

pub returns-in_err-refill-clause-refilled : goal.returns-in_err-refill-clause-refilled
returns-in_err-refill-clause-refilled g c =
    let old = g.H.Home.seen c.args.home.now in
    let mid = g.H.Home.seen c.loop-next.home in
    let new = g.H.Home.seen c.refill.new.home in
    subst (λ (r : Result ℕ MigrateFault). AreRefilledAs c.args.plan.items old new r) (sym (is_fault c.in_err-refill.field-0.0 c.from_residual.result c.from_residual.ensures.1))
    (cut_at c.args.plan.items c.loop-next.yielded c.loop-next.next-iterator.rest.items c.next.new.self.rest.items c.in-Some.next old mid new c.in-Some.ensures.steps.0 c.requires.apart c.requires.may c.loop-next.invariant.filled c.refill.ensures.others
    c.in_err-refill.field-0.0 c.in_err-refill.ensures.filled)

pub loop-next-preserved : goal.loop-next-preserved
loop-next-preserved g c =
    let old = g.H.Home.seen c.args.home.now in
    let mid = g.H.Home.seen c.loop-next.home in
    let new = g.H.Home.seen c.refill.new.home in
    record {
      filled = filled_to c.args.plan.items c.loop-next.yielded c.loop-next.next-iterator.rest.items c.next.new.self.rest.items c.in-Some.next old mid new c.in-Some.ensures.steps.0 c.requires.apart c.requires.may c.loop-next.invariant.filled c.refill.ensures.others
          c.in_ok-refill.ensures.filled;
      counted = counted_on c.loop-next.count c.loop-next.yielded c.in-Some.next c.loop-next.invariant.counted;
    }
