use Rattle.std.proofs.Common.{◌≡◌, ◌++◌, drop}
use Rattle.co_table.specs.Entry.{escaped}
use Rattle.co_table.proofs.words.append_escaped.Given as goal

abbrev pub invariant-loop-letter : goal.invariant-loop-letter
invariant-loop-letter l = l.into.items ++ escaped (drop l.letter-index l.text) ≡ l.initial.into.items ++ escaped l.text
