use Rattle.std.proofs.Common.{◌≡◌, ◌++◌, drop, map}
use Rattle.co_message.specs.declared.item.ItemKind.TheVariants as item
use Rattle.co_plain.specs.Runs.{numbered}
use Rattle.co_world.proofs.telling.tell_sent.Given as goal

abbrev pub invariant-loop-message : goal.invariant-loop-message
invariant-loop-message l = l.items ++ numbered l.number (map item.Sent (drop l.message-index l.messages)) ≡ l.fn.items ++ numbered l.number (map item.Sent l.messages)
