use Rattle.std.proofs.Common.{arith, ◌∙◌, ◌<◌, ◌-◌, ◌≡◌, true, eq-eqb}
use Rattle.co_locktab.specs.Forks.{one_block}
use Rattle.co_locktab.proofs.Forking.{height_down}
use Rattle.co_locktab.proofs.fork.shared_height.Goals as goal

pub loop-height-preserved : goal.loop-height-preserved
loop-height-preserved c =
    let n = c.loop-height.height in
    let small : n < 8 = c.loop-height.invariant.1 in
    let above : 0 < n = omega arith in
    let one : one_block (n - 1) c.args.one c.args.other ≡ true = eq-eqb _ _ c.if-one-height.true in
    (height_down n c.args.one c.args.other above one ∙ c.loop-height.invariant.0, omega arith)
