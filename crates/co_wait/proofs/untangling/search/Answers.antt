-- The search goes on up to the end of all chains, or to a transaction that comes again.
use Rattle.std.proofs.Common.{◌≡◌, ◌<◌, ◌^◌, inl, rules, sym, subst}
use Rattle.std.specs.Prelude.{Any}
use Rattle.co_wait.specs.Searching.{KeepsEnded, StepsOn, IsRingOf, work_left}
use Rattle.co_wait.specs.Knots.{IsTurned}
use Rattle.co_wait.specs.declared.search.Progress.TheVariants.{Open}
use Rattle.co_wait.proofs.Known.{keeps, none_not_ended, still}
use Rattle.co_wait.proofs.Moves.{begin_with}
use Rattle.co_wait.proofs.Cycles.{cycle_from}
use Rattle.co_wait.proofs.untangling.search.Goals as goal

pub loop-path-init : goal.loop-path-init
loop-path-init c = record {
  searching =
      let small : c.args.first < 2 ^ 32 = search rules in
      begin_with c.args.waits.now c.args.known.now c.enter.new.known c.args.first c.new-path.result.items c.in_ok-visit.visit c.requires.next small c.in_ok-visit.ensures.opened c.new-path.ensures.items c.in_ok-visit.ensures.visit;
  kept = subst (KeepsEnded c.args.known.now) (sym c.in_ok-visit.ensures.opened) (keeps c.args.known.now c.args.first Open (none_not_ended c.args.known.now c.args.first c.requires.next.unknown));
}

pub go_on-requires-clause-searching : goal.go_on-requires-clause-searching
go_on-requires-clause-searching c = (c.args.first, c.loop-path.invariant.searching)

pub loop-path-smaller : goal.loop-path-smaller
loop-path-smaller c =
    (subst (StepsOn c.args.waits.now c.args.first c.go_on.new.known c.go_on.new.path.items (work_left c.args.waits.now c.loop-path.known c.loop-path.path.items c.loop-path.visit.place)) c.in-Visit.is
    (c.in_ok-next.ensures.next c.args.first c.loop-path.invariant.searching)).1

pub loop-path-preserved : goal.loop-path-preserved
loop-path-preserved c = record {
  searching =
      (subst (StepsOn c.args.waits.now c.args.first c.go_on.new.known c.go_on.new.path.items (work_left c.args.waits.now c.loop-path.known c.loop-path.path.items c.loop-path.visit.place)) c.in-Visit.is
      (c.in_ok-next.ensures.next c.args.first c.loop-path.invariant.searching)).0;
  kept = λ t rank e. c.in_ok-next.ensures.kept t rank (c.loop-path.invariant.kept t rank e);
}

pub returns-in-Ended-clause-found : goal.returns-in-Ended-clause-found
returns-in-Ended-clause-found c =
    subst (StepsOn c.args.waits.now c.args.first c.go_on.new.known c.go_on.new.path.items (work_left c.args.waits.now c.loop-path.known c.loop-path.path.items c.loop-path.visit.place)) c.in-Ended.is
    (c.in_ok-next.ensures.next c.args.first c.loop-path.invariant.searching)

pub returns-in-Ended-clause-kept : goal.returns-in-Ended-clause-kept
returns-in-Ended-clause-kept c = λ t rank e. c.in_ok-next.ensures.kept t rank (c.loop-path.invariant.kept t rank e)

pub ring_of-requires : goal.ring_of-requires
ring_of-requires c =
    subst (λ list. Any (λ p. p.wait.held ≡ c.in-Again.txn) list) (sym c.as_slice.ensures.value)
    (subst (StepsOn c.args.waits.now c.args.first c.go_on.new.known c.go_on.new.path.items (work_left c.args.waits.now c.loop-path.known c.loop-path.path.items c.loop-path.visit.place)) c.in-Again.is
    (c.in_ok-next.ensures.next c.args.first c.loop-path.invariant.searching)).again

pub returns-in-Again-clause-found : goal.returns-in-Again-clause-found
returns-in-Again-clause-found c =
    cycle_from c.args.waits.now c.args.first c.go_on.new.known c.go_on.new.path.items c.in-Again.txn c.in_ok-ring-in-Again.ring.items c.in_ok-turned-in-Again.field-0 c.requires.ordered
    (subst (StepsOn c.args.waits.now c.args.first c.go_on.new.known c.go_on.new.path.items (work_left c.args.waits.now c.loop-path.known c.loop-path.path.items c.loop-path.visit.place)) c.in-Again.is
    (c.in_ok-next.ensures.next c.args.first c.loop-path.invariant.searching))
    (c.requires.next.one.0, c.requires.next.one.1, c.requires.next.one.2, c.requires.next.one.3, inl c.requires.next.one.4)
    (λ w one lt. still c.args.known.now c.go_on.new.known w.held (λ t rank e. c.in_ok-next.ensures.kept t rank (c.loop-path.invariant.kept t rank e)) (c.requires.next.before w one lt))
    (subst (λ list. IsRingOf list c.in-Again.txn c.in_ok-ring-in-Again.ring.items) c.as_slice.ensures.value c.in_ok-ring-in-Again.ensures)
    (subst (λ list. IsTurned list c.in_ok-turned-in-Again.field-0) c.as_slice-in-Again.ensures.value c.in_ok-turned-in-Again.ensures)

pub returns-in-Again-clause-kept : goal.returns-in-Again-clause-kept
returns-in-Again-clause-kept c = λ t rank e. c.in_ok-next.ensures.kept t rank (c.loop-path.invariant.kept t rank e)
