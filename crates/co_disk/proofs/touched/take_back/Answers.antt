use Rattle.std.proofs.Common.{◌≡◌, ◌∙◌, ◌+◌, ◌-◌, ◌++◌, ap, List, ℕ, length, take, drop, arith}
use Rattle.co_disk.proofs.Gets.{overlaid_front, part_overlaid}
use Rattle.co_disk.proofs.touched.take_back.Goals as goal

pub returns-else-before-count-clause-back : goal.returns-else-before-count-clause-back
returns-else-before-count-clause-back c =
    let bytes = c.args.bytes.now in
    let before = c.args.before.now in
    let at = c.args.at in
    let same : at + length before ≡ at + c.args.count = omega arith in
    ap (λ (l : List ℕ). take c.args.len l) (part_overlaid bytes at (at + length before - at) c.copy_from_slice.new.self before c.copy_from_slice.ensures.after (omega arith))
    ∙ overlaid_front bytes before c.args.len at (omega arith) (omega arith)
    ∙ ap (λ (n : ℕ). take at (take c.args.len bytes) ++ before ++ drop n (take c.args.len bytes)) same
