use Rattle.std.proofs.Common.{◌≡◌, ◌++◌, drop}
use Rattle.co_base.specs.Lent.{Begins}
use Rattle.co_replay.specs.Transcript.{items_text}
use Rattle.co_replay.proofs.texts.put_items.Given as goal

abbrev pub invariant-loop-item : goal.invariant-loop-item
invariant-loop-item l = record {
  text : l.into.items ++ items_text (drop l.item-index l.items) ≡ l.initial.into.items ++ items_text l.items;
  begins : Begins l.initial.into.items l.into.items;
}
