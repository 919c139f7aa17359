-- What is told: answers, messages, marks and items whose numbers, keys and values are in their sets, and the replies to scans, whose rows
-- are of such keys.
use Rattle.std.proofs.Common.{ℕ, ◌≤◌, List, length}
use Rattle.std.specs.List.{AllByRecursion}
use Rattle.co_base.specs.declared.mark.Mark.{Mark}
use Rattle.co_base.specs.Limits.{most_coordinators, most_members}
use Rattle.co_message.specs.declared.answer.Answer.{Answer}
use Rattle.co_message.specs.declared.answer.Answer.TheVariants as answer
use Rattle.co_message.specs.declared.item.ItemKind.{ItemKind}
use Rattle.co_message.specs.declared.item.ItemKind.TheVariants as item
use Rattle.co_message.specs.declared.message.Message.{Message}
use Rattle.co_schedule.specs.Limits.{longest_line}
use Rattle.co_schedule.specs.Spelling.{line_text}
use Rattle.co_schedule.specs.View.{IsMessageFor, IsEventFor}
use Rattle.co_transcript.specs.Items.{IsAnswer, IsMark}
use Rattle.co_plain.specs.Federation.{items_of}
use Rattle.co_law_items.proofs.Named.{all_append, all_map}
use Rattle.co_law_items.proofs.Engines.{IsReplyOf}

module _ (P : List ℕ → Type 0) where
  abbrev pub IsAnswerOf : Answer → Type 0
  IsAnswerOf (answer.Replied reply) = IsReplyOf P reply
  IsAnswerOf (answer.NoStale key) = P key
  IsAnswerOf a = IsAnswer a

  abbrev pub IsKindOf : ItemKind → Type 0
  IsKindOf (item.Head head) = Unit {0}
  IsKindOf (item.Event event) = IsEventFor most_members most_coordinators event × (length (line_text event) ≤ longest_line)
  IsKindOf (item.Log mark) = IsMark mark
  IsKindOf (item.Sent message) = IsMessageFor most_members most_coordinators message
  IsKindOf (item.Answered a) = IsAnswerOf a

  pub items_named : (marks : List Mark) (messages : List Message) (a : Answer) → AllByRecursion IsMark marks → AllByRecursion (IsMessageFor most_members most_coordinators) messages → IsAnswerOf a →
      AllByRecursion IsKindOf (items_of marks messages a)
  items_named marks messages a h k n =
      all_append IsKindOf _ _ (all_map IsMark IsKindOf item.Log (λ mark p. p) marks h)
      (all_append IsKindOf _ _ (all_map (IsMessageFor most_members most_coordinators) IsKindOf item.Sent (λ message p. p) messages k) (n, tt))
