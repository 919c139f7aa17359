use Rattle.std.proofs.Common.{◌<◌, length, get_or, arith}
use Rattle.std.proofs.lemmas.List.{get_or_default}
use Rattle.std.proofs.lemmas.List.Edits.{map_over_more}
use Rattle.co_outside.specs.Home.{nearer}
use Rattle.co_outside.specs.declared.home.FailAt.{FailAt}
use Rattle.co_outside.specs.declared.home.HomeCall.TheVariants.{Enter}
use Rattle.co_outside.proofs.failing.is_call_due.Goals as goal

pub loop-at-preserved : goal.loop-at-preserved
loop-at-preserved c =
    let place = c.loop-at.at-index in
    let none : FailAt = record { spot = record { node = 0; part = 0 }; call = Enter; number = 0 } in
    let item = get_or c.loop-at.calls place none in
    let within : place < length c.args.calls.now = omega arith in
    let inside : place < length c.loop-at.calls = omega arith in
    let more = map_over_more (nearer c.args.spot c.args.call) c.args.calls.now c.loop-at.calls place item within c.loop-at.invariant (get_or_default c.loop-at.calls place none item inside) in
    cc
