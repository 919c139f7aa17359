use Rattle.std.proofs.Common.{◌≡◌, suc, ◌+◌, arith}
use Rattle.co_state.specs.Table.{holds}
use Rattle.co_cluster.proofs.NotedSets.{none_noted_yet, one_noted_more, all_noted}
use Rattle.co_cluster.proofs.cluster.Cluster.note_coords.Goals as goal

pub loop-place-init : goal.loop-place-init
loop-place-init g c = λ s r. none_noted_yet (λ i t. holds (s.coord i).table t) c.args.found.now

pub loop-place-preserved : goal.loop-place-preserved
loop-place-preserved g c = λ s r.
    let p = c.loop-place.place in
    let next : p + 1 ≡ suc p = omega arith in
    one_noted_more (λ i t. holds (s.coord i).table t) p (p + 1) c.args.found.now c.loop-place.found c.note_tabled.new.found next (c.loop-place.invariant s r) (c.in_ok-note_tabled.ensures s r)

pub returns : goal.returns
returns g c = λ s r.
    let p = c.loop-place.place in
    let n = c.coord_count-place-end.ensures.count in
    let a = c.loop-place.auto.place-end in
    let t = c.loop-place-test.false in
    let k = r.coordinators in
    all_noted (λ i t. holds (s.coord i).table t) p (s.coordinators) c.args.found.now c.loop-place.found (omega (arith, n, a, t, k)) (c.loop-place.invariant s r)
