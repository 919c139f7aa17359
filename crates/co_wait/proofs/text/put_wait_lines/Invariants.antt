use Rattle.std.proofs.Common.{◌≡◌, ◌++◌, flat_map, take}
use Rattle.co_wait.specs.Text.{wait_line}
use Rattle.co_wait.proofs.text.put_wait_lines.Given as goal

abbrev pub invariant-loop-wait : goal.invariant-loop-wait
invariant-loop-wait l = l.into.items ≡ l.fn.into.items ++ flat_map wait_line (take l.wait-index l.waits)
