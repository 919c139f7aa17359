-- Which lines are the front of a transcript.
use Rattle.std.specs.Prelude.{true, ◌≡◌, List, ◌++◌, Some}
use Rattle.std.specs.List.{AllByRecursion}
use Rattle.co_message.specs.declared.item.Item.{Item}
use Rattle.co_transcript.specs.Items.{IsItem}
use Rattle.co_check.specs.Shape.{Read, read, is_whole}

-- other items, each of which has a line, make a whole transcript of these
pub record CanBeWhole (items : List Item) : Type 0 where
  pub more : List Item
  pub lines : AllByRecursion IsItem more
  pub end : Read
  pub shaped : read (items ++ more) ≡ Some end
  pub whole : is_whole end.place ≡ true
