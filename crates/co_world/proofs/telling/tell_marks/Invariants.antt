use Rattle.std.proofs.Common.{◌≡◌, ◌++◌, drop, map}
use Rattle.co_message.specs.declared.item.ItemKind.TheVariants as item
use Rattle.co_plain.specs.Runs.{numbered}
use Rattle.co_world.proofs.telling.tell_marks.Given as goal

abbrev pub invariant-loop-mark : goal.invariant-loop-mark
invariant-loop-mark l = l.items ++ numbered l.number (map item.Log (drop l.mark-index l.marks)) ≡ l.fn.items ++ numbered l.number (map item.Log l.marks)
