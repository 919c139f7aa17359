use Rattle.std.proofs.Common.{◌≡◌, suc, ◌+◌, length, arith}
use Rattle.co_cluster.specs.Listed.{is_undecided_up}
use Rattle.co_cluster.proofs.NotedSets.{none_noted_yet, one_noted_more, all_noted}
use Rattle.co_cluster.proofs.cluster.Cluster.note_all_running.Goals as goal

pub loop-place-init : goal.loop-place-init
loop-place-init g c = λ s r. none_noted_yet (λ m t. is_undecided_up (s.member m) t) c.args.found.now

pub loop-place-preserved : goal.loop-place-preserved
loop-place-preserved g c = λ s r.
    let p = c.loop-place.place in
    let next : p + 1 ≡ suc p = omega arith in
    one_noted_more (λ m t. is_undecided_up (s.member m) t) p (p + 1) c.args.found.now c.loop-place.found c.note_running.new.found next (c.loop-place.invariant s r) (c.in_ok-note_running.ensures s r)

pub returns : goal.returns
returns g c = λ s r.
    let p = c.loop-place.place in
    let n = c.member_count-place-end.ensures.count in
    let a = c.loop-place.auto.place-end in
    let t = c.loop-place-test.false in
    let k = r.kinds in
    all_noted (λ m t. is_undecided_up (s.member m) t) p (length s.kinds) c.args.found.now c.loop-place.found (omega (arith, n, a, t, k)) (c.loop-place.invariant s r)
