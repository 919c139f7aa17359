use Rattle.std.proofs.Common.{◌-◌, ◌<◌, length, get_or, arith}
use Rattle.std.proofs.lemmas.List.{get_or_default}
use Rattle.std.proofs.lemmas.List.Edits.{map_over_more}
use Rattle.co_outside.proofs.failing.is_due.Goals as goal

pub loop-n-preserved : goal.loop-n-preserved
loop-n-preserved c =
    let place = c.loop-n.n-index in
    let number = get_or c.loop-n.calls place 0 in
    let within : place < length c.args.calls.now = omega arith in
    let inside : place < length c.loop-n.calls = omega arith in
    let more = map_over_more (λ n. n - 1) c.args.calls.now c.loop-n.calls place number within c.loop-n.invariant (get_or_default c.loop-n.calls place 0 number inside) in
    cc
