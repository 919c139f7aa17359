-- A view stands for an event whose words it was lent from.
use Rattle.std.proofs.Common.{◌≡◌, ℕ, List, refl, sym, ap}
use Rattle.std.specs.Prelude.{decimal, codes, ◌∷◌, []}
use Rattle.co_base.specs.Letters.{most_key_bytes, most_value_bytes}
use Rattle.co_schedule.specs.Words.{Word}
use Rattle.co_schedule.specs.Spelling.{event_words, node_word}
use Rattle.co_schedule.specs.View.{event_of, view_words, view_word, leaves_of, IsViewFor, IsEventFor, IsLent, IsSpelledLeaves, IsLeaves}
use Rattle.co_schedule.specs.declared.view.LineView.{LineView}
use Rattle.co_schedule.specs.declared.view.LineView.TheVariants as view
use Rattle.co_schedule.specs.declared.view.LeavesView.{LeavesView}
use Rattle.co_schedule.specs.declared.view.LeavesView.TheVariants as lent
use Rattle.co_schedule.specs.Spelling.{leaves_word}
use Rattle.co_schedule.proofs.Texts.{IsText-is_text}
use Rattle.co_schedule.proofs.Hex.{encode_lower-decoded, IsBytes-decoded}

pub view_word-leaves : (leaves : LeavesView) → IsSpelledLeaves leaves → view_word leaves ≡ leaves_word (leaves_of leaves)
view_word-leaves lent.Old it = refl
view_word-leaves lent.New it = refl
view_word-leaves (lent.Digits digits) it = ap (λ (d : List ℕ). 120 ∷ d) (sym (encode_lower-decoded digits.now it))

pub IsLeaves-view : (leaves : LeavesView) → IsSpelledLeaves leaves → IsLeaves (leaves_of leaves)
IsLeaves-view lent.Old it = tt
IsLeaves-view lent.New it = tt
IsLeaves-view (lent.Digits digits) it = IsBytes-decoded digits.now it

-- the words of a view are those of its event
pub view_words-event : (members coords : ℕ) (v : LineView) → IsViewFor members coords v → view_words v ≡ event_words (event_of v)
view_words-event members coords (view.Arm node call leaves) it = ap (λ (w : Word). codes "arm" ∷ node_word node ∷ decimal call ∷ w ∷ []) (view_word-leaves leaves it.2)
view_words-event members coords (view.Begin txn coord) it = refl
view_words-event members coords (view.Local txn member) it = refl
view_words-event members coords (view.Read txn member key) it = refl
view_words-event members coords (view.Write txn member key value) it = refl
view_words-event members coords (view.Erase txn member key) it = refl
view_words-event members coords (view.Scan txn member lo hi) it = refl
view_words-event members coords (view.Commit txn) it = refl
view_words-event members coords (view.Abort txn) it = refl
view_words-event members coords (view.Deliver message) it = refl
view_words-event members coords (view.Vote txn member) it = refl
view_words-event members coords (view.Timer txn node) it = refl
view_words-event members coords (view.Ask txn member) it = refl
view_words-event members coords (view.Resend txn coord) it = refl
view_words-event members coords (view.Crash node) it = refl
view_words-event members coords (view.Restart node) it = refl
view_words-event members coords (view.Checkpoint node) it = refl

-- its fields are in their sets
pub IsEventFor-view : (members coords : ℕ) (v : LineView) → IsViewFor members coords v → IsEventFor members coords (event_of v)
IsEventFor-view members coords (view.Arm node call leaves) it = (it.0, it.1, IsLeaves-view leaves it.2)
IsEventFor-view members coords (view.Begin txn coord) it = it
IsEventFor-view members coords (view.Local txn member) it = it
IsEventFor-view members coords (view.Read txn member key) it = (it.0, it.1, IsText-is_text most_key_bytes key.now it.2)
IsEventFor-view members coords (view.Write txn member key value) it = (it.0, it.1, IsText-is_text most_key_bytes key.now it.2, IsText-is_text most_value_bytes value.now it.3)
IsEventFor-view members coords (view.Erase txn member key) it = (it.0, it.1, IsText-is_text most_key_bytes key.now it.2)
IsEventFor-view members coords (view.Scan txn member lo hi) it = (it.0, it.1, IsText-is_text most_key_bytes lo.now it.2, IsText-is_text most_key_bytes hi.now it.3, it.4)
IsEventFor-view members coords (view.Commit txn) it = it
IsEventFor-view members coords (view.Abort txn) it = it
IsEventFor-view members coords (view.Deliver message) it = it
IsEventFor-view members coords (view.Vote txn member) it = it
IsEventFor-view members coords (view.Timer txn node) it = it
IsEventFor-view members coords (view.Ask txn member) it = it
IsEventFor-view members coords (view.Resend txn coord) it = it
IsEventFor-view members coords (view.Crash node) it = it
IsEventFor-view members coords (view.Restart node) it = it
IsEventFor-view members coords (view.Checkpoint node) it = it

-- what it lends is what an event can be made of
pub IsLent-view : (members coords : ℕ) (v : LineView) → IsViewFor members coords v → IsLent v
IsLent-view members coords (view.Read txn member key) it = IsText-is_text most_key_bytes key.now it.2
IsLent-view members coords (view.Write txn member key value) it = (IsText-is_text most_key_bytes key.now it.2, IsText-is_text most_value_bytes value.now it.3)
IsLent-view members coords (view.Erase txn member key) it = IsText-is_text most_key_bytes key.now it.2
IsLent-view members coords (view.Scan txn member lo hi) it = (IsText-is_text most_key_bytes lo.now it.2, IsText-is_text most_key_bytes hi.now it.3, it.4)
IsLent-view members coords (view.Arm node call leaves) it = it.2
IsLent-view members coords (view.Begin txn coord) it = tt
IsLent-view members coords (view.Local txn member) it = tt
IsLent-view members coords (view.Commit txn) it = tt
IsLent-view members coords (view.Abort txn) it = tt
IsLent-view members coords (view.Deliver message) it = tt
IsLent-view members coords (view.Vote txn member) it = tt
IsLent-view members coords (view.Timer txn node) it = tt
IsLent-view members coords (view.Ask txn member) it = tt
IsLent-view members coords (view.Resend txn coord) it = tt
IsLent-view members coords (view.Crash node) it = tt
IsLent-view members coords (view.Restart node) it = tt
IsLent-view members coords (view.Checkpoint node) it = tt
