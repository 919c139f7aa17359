-- What an answer claims of the committed transactions, and of a text that tells them.
use Rattle.std.specs.Prelude.{ℕ, ◌≡◌, true, List, [], reverse, Some, Result, Ok, Err}
use Rattle.co_message.specs.declared.item.Item.{Item}
use Rattle.co_check.specs.Account.{Account}
use Rattle.co_check.specs.Checked.{StandsBehind, IsTextFault, IsLineFault}
use Rattle.co_check.specs.Shape.{read, is_whole}
use Rattle.co_check.specs.declared.client.Committed.{Committed}
use Rattle.co_check.specs.declared.fault.CheckFault.TheVariants as check
use Rattle.co_check.specs.declared.place.Place.{Place}
use Rattle.co_check.specs.declared.writing.VerdictFault.{VerdictFault}
use Rattle.co_check.specs.declared.writing.VerdictFault.TheVariants as fault
use Rattle.co_order.specs.declared.answer.Answer.{Answer}
use Rattle.co_order.specs.declared.answer.Answer.TheVariants as answer
use Rattle.co_order.specs.declared.solve.Settled.{Settled}
use Rattle.co_order.specs.declared.solve.Settled.TheVariants as settled
use Rattle.co_order_check.specs.Order.{IsSerialOrder, HasNoOrder}
use Rattle.co_order_check.specs.Paths.{RepeatsAt}

-- `Order`: in that order they run serially. `Refuted`: in no order they do. `Repeat`: that read has two sources. `Undecided` claims nothing.
abbrev pub IsAnswer : List Committed → Answer → Type 0
IsAnswer ds (answer.Order order) = IsSerialOrder ds order.items
IsAnswer ds (answer.Refuted told) = HasNoOrder ds
IsAnswer ds (answer.Repeat txn line) = RepeatsAt ds txn line
IsAnswer ds answer.Undecided = Unit {0}

abbrev pub IsSettled : List Committed → Settled → Type 0
IsSettled ds (settled.Answer found) = IsAnswer ds found
IsSettled ds _ = Unit {0}

-- All lines are items, and well shaped; the answer is one to their committed transactions, the first decided one first.
pub record IsAnswerTo (text : List ℕ) (found : Answer) : Type 0 where
  pub items : List Item
  pub account : Account
  pub place : Place
  pub all : StandsBehind text items []
  pub shaped : read items ≡ Some (record { place = place; account = account })
  pub whole : is_whole place ≡ true
  pub is_answer : IsAnswer (reverse account.committed) found

-- The answer to a text, or the first fault in the order of the text; the source, the sink and the memory fail by themselves.
abbrev pub IsOrdered : List ℕ → Result Answer VerdictFault → Type 0
IsOrdered text (Ok found) = IsAnswerTo text found
IsOrdered text (Err (fault.Text line)) = IsTextFault text line
IsOrdered text (Err (fault.Long line)) = IsLineFault text (check.Long line)
IsOrdered text (Err fault.Many) = IsLineFault text check.Many
IsOrdered text (Err _) = Unit {0}

-- an answer to these transactions; or the sink or the memory failed
abbrev pub IsAnswered : List Committed → Result Answer VerdictFault → Type 0
IsAnswered ds (Ok found) = IsAnswer ds found
IsAnswered ds (Err fault.Write) = Unit {0}
IsAnswered ds (Err fault.Memory) = Unit {0}
IsAnswered ds (Err _) = ⊥

abbrev pub IsWriting : Result (Unit {0}) VerdictFault → Type 0
IsWriting (Ok written) = Unit {0}
IsWriting (Err fault.Write) = Unit {0}
IsWriting (Err fault.Memory) = Unit {0}
IsWriting (Err _) = ⊥

abbrev pub exit_code : Answer → ℕ
exit_code (answer.Order order) = 0
exit_code (answer.Refuted told) = 14
exit_code (answer.Repeat txn line) = 16
exit_code answer.Undecided = 17
