use Rattle.std.proofs.Common.{◌<◌, Option, None, Some, sym, subst}
use Rattle.std.specs.Prelude.{ℕ}
use Rattle.co_cluster.specs.Listed.{is_undecided}
use Rattle.co_cluster.proofs.NotedSets.{IsNext, AreNotedTo, noting_starts, noting_goes_on, noting_ends, noting_rises, undecided_next}
use Rattle.co_cluster.proofs.Walks.{room}
use Rattle.co_cluster.proofs.noting.note_member.Goals as goal

pub loop-next-init : goal.loop-next-init
loop-next-init g c = λ x r.
    let test = is_undecided x.engine in
    noting_starts test c.args.found.now c.open_after-next.result (subst (IsNext test None) (sym (c.open_after-next.ensures x r)) (undecided_next x.engine None))

pub loop-next-smaller : goal.loop-next-smaller
loop-next-smaller g c =
    let x = c.requires.stands.0 in
    let t = c.in-Some.t in
    let next = c.undecided_above-next.result in
    let test = is_undecided x.engine in
    subst (λ (o : Option ℕ). room next < room o) (sym c.in-Some.is)
    (noting_rises test t next (subst (IsNext test (Some t)) (sym (c.undecided_above-next.ensures.next x c.requires.stands.1)) (undecided_next x.engine (Some t))) c.undecided_above-next.ensures.number)

pub loop-next-preserved : goal.loop-next-preserved
loop-next-preserved g c = λ x r.
    let t = c.in-Some.t in
    let next = c.undecided_above-next.result in
    let test = is_undecided x.engine in
    noting_goes_on test c.args.found.now c.loop-next.found c.insert.new.self t next c.in_ok-insert.ensures.ok
    (subst (λ (o : Option ℕ). AreNotedTo test c.args.found.now c.loop-next.found o) c.in-Some.is (c.loop-next.invariant x r))
    (subst (IsNext test (Some t)) (sym (c.undecided_above-next.ensures.next x r)) (undecided_next x.engine (Some t)))

pub returns : goal.returns
returns g c = λ x r.
    let test = is_undecided x.engine in
    noting_ends test c.args.found.now c.loop-next.found (subst (λ (o : Option ℕ). AreNotedTo test c.args.found.now c.loop-next.found o) c.in_default.is (c.loop-next.invariant x r))
