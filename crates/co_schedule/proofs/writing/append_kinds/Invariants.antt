use Rattle.std.proofs.Common.{◌≡◌, ◌++◌, map, drop}
use Rattle.co_base.specs.Lent.{Begins}
use Rattle.co_schedule.specs.Words.{behind}
use Rattle.co_schedule.specs.Spelling.{kind_word}
use Rattle.co_schedule.proofs.writing.append_kinds.Given as goal

abbrev pub invariant-loop-kind : goal.invariant-loop-kind
invariant-loop-kind l = record {
  text : l.out.items ++ behind (map kind_word (drop l.kind-index l.kinds)) ≡ l.initial.out.items ++ behind (map kind_word l.kinds);
  begins : Begins l.initial.out.items l.out.items;
}
