use Rattle.std.proofs.Common.{rules, ◌≡◌, ◌+◌, ℕ, length, refl, sym, ap, ◌∙◌, arith}
use Rattle.std.specs.Prelude.{if◌then◌else◌}
use Rattle.co_log.specs.LogFile.{spelled}
use Rattle.co_log.proofs.Appends.{is_batch, behind_batch, whole_ends, stop_ends, told_ends}
use Rattle.co_log.proofs.Images.{batch_images}
use Rattle.co_log.proofs.append.lay.Goals as goal

pub returns-in-Ok-clause-ended : goal.returns-in-Ok-clause-ended
returns-in-Ok-clause-ended g c = λ items kept is ends.
    let one = is_batch c.args.gate items is.some is.short in
    (sym c.take-stop.ensures.value ∙ c.in-Ok.ensures.passed, omega (arith, behind_batch c.args.gate c.args.batch.now items is.text), whole_ends c.args.disk.now.state.stable c.args.batch.now c.args.gate kept items c.write_batch.new.disk.state is.text c.in-Ok.ensures.done is.each one ends)

pub returns-in-Err-Stopped-clause-ended : goal.returns-in-Err-Stopped-clause-ended
returns-in-Err-Stopped-clause-ended g c = λ items kept is ends.
    let one = is_batch c.args.gate items is.some is.short in
    let stopped = c.in-Err-Stopped.ensures.stopped c.in-Err-Stopped.call (search rules) in
    let behind : c.args.gate + length c.args.batch.now ≡ c.args.gate + 5 + length (spelled items) = omega (arith, behind_batch c.args.gate c.args.batch.now items is.text) in
    let e = stop_ends c.args.disk.now.state.stable c.args.batch.now c.bytes.result.now (spelled items) c.args.gate kept items c.take-stop.result c.in-Err-Stopped.call c.write_batch.new.disk c.is_opened-stable.result is.text stopped
    c.bytes.ensures.read c.is_opened-stable.ensures is.each one ends c.gate_after.result (c.gate_after.ensures ∙ ap (λ (n : ℕ). if c.is_opened-stable.result then n else c.args.gate) behind) refl in
    (e.0, sym c.take-stop.ensures.value ∙ e.1, e.2, e.3, e.4)

pub returns-in-Err-Stopped-clause-stable : goal.returns-in-Err-Stopped-clause-stable
returns-in-Err-Stopped-clause-stable g c = (c.in-Err-Stopped.ensures.stopped c.in-Err-Stopped.call (search rules)).left.stable

pub returns-in-Err-Device-clause-told : goal.returns-in-Err-Device-clause-told
returns-in-Err-Device-clause-told g c = λ items kept is ends f told.
    let one = is_batch c.args.gate items is.some is.short in
    told_ends c.args.disk.now.state.stable c.args.batch.now f.bytes c.args.gate kept items is.text is.each one ends (c.in-Err-Device.ensures.image f told)

pub returns-in-Err-Memory-clause-told : goal.returns-in-Err-Memory-clause-told
returns-in-Err-Memory-clause-told g c = λ items kept is ends f told.
    let one = is_batch c.args.gate items is.some is.short in
    told_ends c.args.disk.now.state.stable c.args.batch.now f.bytes c.args.gate kept items is.text is.each one ends (c.in-Err-Memory.ensures.image f told)

pub returns-in-Err-Memory-clause-memory : goal.returns-in-Err-Memory-clause-memory
returns-in-Err-Memory-clause-memory g c = λ kept ends is f told. batch_images c.args.disk.now.state.stable f.bytes c.args.gate kept c.args.batch.now ends (c.in-Err-Memory.ensures.memory (search rules) f told)
