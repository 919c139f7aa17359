-- Answers to a text.
use Rattle.std.proofs.Common.{◌≡◌, ℕ, List, reverse, Some, Result, Ok, Err, subst}
use Rattle.co_check.specs.Checked.{IsEnding}
use Rattle.co_check.specs.Kept.{IsKept}
use Rattle.co_check.specs.declared.client.Committed.{Committed}
use Rattle.co_check.specs.declared.verdict.Ending.{Ending}
use Rattle.co_check.specs.declared.writing.VerdictFault.{VerdictFault}
use Rattle.co_check.specs.declared.writing.VerdictFault.TheVariants as fault
use Rattle.co_order.specs.Answer.{IsAnswered, IsOrdered}
use Rattle.co_order.specs.declared.answer.Answer.{Answer}

pub answered : (text : List ℕ) (ending : Ending) (h : IsEnding text ending) (result : Result Answer VerdictFault) → IsAnswered (reverse h.account.committed) result → IsOrdered text result
answered text ending h (Ok found) a = record { items = h.items; account = h.account; place = h.place; all = h.all; shaped = h.shaped; whole = h.whole; is_answer = a }
answered text ending h (Err fault.Write) a = tt
answered text ending h (Err fault.Memory) a = tt
answered text ending h (Err fault.Read) a = absurd a
answered text ending h (Err (fault.Text line)) a = absurd a
answered text ending h (Err (fault.Long line)) a = absurd a
answered text ending h (Err fault.Many) a = absurd a

pub kept_is : (text : List ℕ) (ending : Ending) (h : IsEnding text ending) (kept : List Committed) → ending.kept ≡ Some kept → kept ≡ h.account.committed
kept_is text ending h kept e = subst (λ o. IsKept o h.account.committed) e h.kept
