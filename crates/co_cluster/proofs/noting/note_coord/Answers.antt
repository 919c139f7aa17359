use Rattle.std.proofs.Common.{◌<◌, Option, None, Some, sym, subst}
use Rattle.std.specs.Prelude.{ℕ}
use Rattle.co_state.specs.Table.{holds}
use Rattle.co_cluster.proofs.NotedSets.{IsNext, AreNotedTo, noting_starts, noting_goes_on, noting_ends, noting_rises, tabled_next}
use Rattle.co_cluster.proofs.Walks.{room}
use Rattle.co_cluster.proofs.noting.note_coord.Goals as goal

pub loop-next-init : goal.loop-next-init
loop-next-init c = λ y r.
    let test = holds y.table in
    noting_starts test c.args.found.now c.open_after-next.result (subst (IsNext test None) (sym (c.open_after-next.ensures y r)) (tabled_next y.table None))

pub loop-next-smaller : goal.loop-next-smaller
loop-next-smaller c =
    let y = c.requires.stands.0 in
    let t = c.in-Some.t in
    let next = c.tabled_above-next.result in
    let test = holds y.table in
    subst (λ (o : Option ℕ). room next < room o) (sym c.in-Some.is)
    (noting_rises test t next (subst (IsNext test (Some t)) (sym (c.tabled_above-next.ensures.next y c.requires.stands.1)) (tabled_next y.table (Some t))) c.tabled_above-next.ensures.number)

pub loop-next-preserved : goal.loop-next-preserved
loop-next-preserved c = λ y r.
    let t = c.in-Some.t in
    let next = c.tabled_above-next.result in
    let test = holds y.table in
    noting_goes_on test c.args.found.now c.loop-next.found c.insert.new.self t next c.in_ok-insert.ensures.ok
    (subst (λ (o : Option ℕ). AreNotedTo test c.args.found.now c.loop-next.found o) c.in-Some.is (c.loop-next.invariant y r))
    (subst (IsNext test (Some t)) (sym (c.tabled_above-next.ensures.next y r)) (tabled_next y.table (Some t)))

pub returns : goal.returns
returns c = λ y r.
    let test = holds y.table in
    noting_ends test c.args.found.now c.loop-next.found (subst (λ (o : Option ℕ). AreNotedTo test c.args.found.now c.loop-next.found o) c.in_default.is (c.loop-next.invariant y r))
