use Rattle.std.proofs.Common.{◌≡◌, length}
use Rattle.co_migrate.proofs.Refills.{AreFilledTo}
use Rattle.co_migrate.proofs.filling.refill_all.Given as goal

abbrev pub invariant-loop-next : goal.invariant-loop-next
invariant-loop-next g l = record {
  filled : AreFilledTo l.fn.plan.items l.yielded l.next-iterator.rest.items (g.H.Home.seen l.initial.home) (g.H.Home.seen l.home);
  counted : l.count ≡ length l.yielded;
}
