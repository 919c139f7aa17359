-- How items are read.
use Rattle.std.proofs.Common.{◌≡◌, ℕ, suc, ◌+◌, ◌-◌, ◌<◌, List, [], ◌++◌, length, Option, None, Some, Ok, refl, sym, ap, ◌∙◌, arith}
use Rattle.co_base.specs.declared.row.Row.{Row}
use Rattle.co_base.specs.RowOrder.{IsInKeyOrder}
use Rattle.co_schedule.specs.Words.{Word}
use Rattle.co_schedule.specs.Places.{Want, Places, place, step, first_fault, go_on}
use Rattle.co_schedule.specs.Faults.{IsFirstFault}
use Rattle.co_schedule.specs.declared.fault.ReadFault.{ReadFault}
use Rattle.co_schedule.specs.declared.fault.ReadFault.TheVariants as read
use Rattle.co_transcript.specs.Spelling.{row_words}
use Rattle.co_transcript.specs.Grammar.{row_places, rows_places}
use Rattle.co_transcript.specs.Items.{AreRows}
use Rattle.co_transcript.specs.Rows.{last_key, IsReadingRows}

-- the first fault of other words is the same one
pub same_fault : (p q : Places) (a b : List Word) (fault : ReadFault) → first_fault p a ≡ first_fault q b → IsFirstFault q b fault → IsFirstFault p a fault
same_fault p q a b (read.Mistake mistake) e it = e ∙ it
same_fault p q a b read.Memory e it = tt

-- a word that is taken leaves the faults of those behind it
pub step_taken : (want : Want) (next : Word → Places) (words : List Word) (word : Word) (rest : List Word) → step want words ≡ Ok (word, rest) → first_fault (place want next) words ≡ first_fault (next word) rest
step_taken want next words word rest e = ap (λ r. go_on r (λ w ws. first_fault (next w) ws)) e

-- nothing was read yet
pub rows_begin : (count : ℕ) (words : List Word) → IsInKeyOrder [] → IsReadingRows count words words [] None
rows_begin count words order = record { words = refl; few = omega arith; last = refl; texts = tt; order = order; faults = ap (λ n. first_fault (rows_places n None) words) (omega arith) }

one_more : (count : ℕ) (rows rows_new : List Row) → length rows < count → length rows_new ≡ length rows + 1 → count - length rows ≡ suc (count - length rows_new)
one_more count rows rows_new some more = omega (arith, more)

pub rows_places-more : (count : ℕ) (rows rows_new : List Row) (before : Option Word) → length rows < count → length rows_new ≡ length rows + 1 → rows_places (count - length rows) before ≡ row_places before (rows_places (count - length rows_new))
rows_places-more count rows rows_new before some more = ap (λ n. rows_places n before) (one_more count rows rows_new some more)

-- one more record was read
pub rows_step : (count : ℕ) (old mid new : List Word) (rows rows_new : List Row) (before : Option Word) (name : Word) → IsReadingRows count old mid rows before → length rows < count → row_words rows_new ++ new ≡ row_words rows ++ mid → last_key rows_new ≡ Some name → length rows_new ≡ length rows + 1 → (AreRows rows → AreRows rows_new) → IsInKeyOrder rows_new → first_fault (row_places before (rows_places (count - length rows_new))) mid ≡ first_fault (rows_places (count - length rows_new) (Some name)) new → IsReadingRows count old new rows_new (Some name)
rows_step count old mid new rows rows_new before name it some same last more texts order taken = record {
  words = same ∙ it.words;
  few = omega (arith, more);
  last = last;
  texts = texts it.texts;
  order = order;
  faults = sym taken ∙ ap (λ p. first_fault p mid) (sym (rows_places-more count rows rows_new before some more)) ∙ it.faults;
}

-- the first fault of the next record is that of all
pub rows_fault : (count : ℕ) (old mid : List Word) (rows : List Row) (before : Option Word) (fault : ReadFault) → IsReadingRows count old mid rows before → length rows < count → ((next : Option Word → Places) → IsFirstFault (row_places before next) mid fault) → IsFirstFault (rows_places count None) old fault
rows_fault count old mid rows before fault it some all =
    let more : count - length rows ≡ suc (count - length rows - 1) = omega arith in
    same_fault (rows_places count None) (row_places before (rows_places (count - length rows - 1))) old mid fault
    (sym it.faults ∙ ap (λ n. first_fault (rows_places n before) mid) more)
    (all (rows_places (count - length rows - 1)))
