use Rattle.std.proofs.Common.{◌≡◌, ◌++◌}
use Rattle.co_table.specs.Table.{rules_text}
use Rattle.co_table.proofs.telling.append_rules.Given as goal

abbrev pub invariant-loop-ruled : goal.invariant-loop-ruled
invariant-loop-ruled l = l.into.items ≡ l.initial.into.items ++ rules_text l._ruled
