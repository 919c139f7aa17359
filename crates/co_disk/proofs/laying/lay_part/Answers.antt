use Rattle.std.proofs.Common.{◌≡◌, ◌+◌, ◌-◌, ap, take, drop, length, arith, ℕ}
use Rattle.std.specs.Prelude.{min}
use Rattle.co_disk.proofs.Lays.{part_skipped, part_laid, part_torn, at_ok, at_err}
use Rattle.co_disk.proofs.laying.lay_part.Goals as goal

pub returns-then-from-image-clause-laid : goal.returns-then-from-image-clause-laid
returns-then-from-image-clause-laid g c disk done w same_at same_count touched short laid =
    part_skipped disk c.args.image.now w c.args.at c.args.count same_at same_count touched short done _ _ c.if-from-image.true laid

pub returns-clause-laid : goal.returns-clause-laid
returns-clause-laid g c disk done w same_at same_count touched short laid =
    let image = c.args.image.now in
    let at = c.args.at in
    let is : at + c.min-inside.result - at ≡ min c.args.count (length image - at) = omega arith in
    let part = ap (λ (n : ℕ). take n (drop at image)) is in
    at_ok c.write_at.result c.write_at.ensures.written c.write_at.ensures.reach (λ changed reached.
    part_laid disk image w at c.args.count same_at same_count touched short done _ _ _ _ _ part (omega arith) c.requires.at (λ f told. g.met.H.Home.told_reach c.args.home.now c.args.spot f told) changed reached laid)

pub returns-clause-failed : goal.returns-clause-failed
returns-clause-failed g c disk w same_at same_count touched short images =
    let image = c.args.image.now in
    let at = c.args.at in
    let is : at + c.min-inside.result - at ≡ min c.args.count (length image - at) = omega arith in
    let part = ap (λ (n : ℕ). take n (drop at image)) is in
    at_err c.write_at.result c.write_at.ensures.torn c.write_at.ensures.untold (λ torn untold.
    part_torn disk image w at c.args.count same_at same_count touched short _ _ _ part (omega arith) torn untold images)
