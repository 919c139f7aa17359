use Rattle.std.proofs.Common.{◌-◌, ◌<◌, ap, length, arith}
use Rattle.co_disk.specs.Kept.{entry_of}
use Rattle.co_disk.proofs.Fill.{fit_here, fit_front}
use Rattle.co_disk.proofs.image.take_back_touched.Goals as goal

pub take_back-len-requires-clause-within : goal.take_back-len-requires-clause-within
take_back-len-requires-clause-within c =
    let t = c.index-touched-left.result in
    let fit = fit_here c.args.bytes.now c.args.touched.now (c.loop-left.left - 1) c.loop-left.left t c.requires (omega arith) (omega arith) c.index-touched-left.is in
    let front = fit_front c.loop-left.bytes _ (entry_of t) c.loop-left.len fit c.loop-left.invariant.back c.loop-left.invariant.less in
    omega (arith, front.0, t.piece.ok, c.len.ensures)

pub take_back-len-requires-clause-no_longer : goal.take_back-len-requires-clause-no_longer
take_back-len-requires-clause-no_longer c =
    let t = c.index-touched-left.result in
    let fit = fit_here c.args.bytes.now c.args.touched.now (c.loop-left.left - 1) c.loop-left.left t c.requires (omega arith) (omega arith) c.index-touched-left.is in
    let front = fit_front c.loop-left.bytes _ (entry_of t) c.loop-left.len fit c.loop-left.invariant.back c.loop-left.invariant.less in
    omega (arith, front.1, t.piece.ok, c.len.ensures, ap length c.deref.ensures.value)

pub take_back-len-requires-clause-short : goal.take_back-len-requires-clause-short
take_back-len-requires-clause-short c shorter =
    let t = c.index-touched-left.result in
    let fit = fit_here c.args.bytes.now c.args.touched.now (c.loop-left.left - 1) c.loop-left.left t c.requires (omega arith) (omega arith) c.index-touched-left.is in
    let front = fit_front c.loop-left.bytes _ (entry_of t) c.loop-left.len fit c.loop-left.invariant.back c.loop-left.invariant.less in
    let few : length t.before.items < length t.piece.items = omega (arith, t.piece.ok, c.len.ensures, ap length c.deref.ensures.value) in
    omega (arith, front.2 few, t.piece.ok, c.len.ensures)
