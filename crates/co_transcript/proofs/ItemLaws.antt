-- Each item has one line, and each line of an item has no fault.
use Rattle.std.proofs.Common.{◌≡◌, ℕ, List, map, None, Some, sym, ap, ◌∙◌}
use Rattle.co_message.specs.declared.item.Item.{Item}
use Rattle.co_schedule.specs.Words.{Word, words_of}
use Rattle.co_schedule.specs.Places.{number, place, one_of, first_fault}
use Rattle.co_schedule.specs.declared.fault.Mistake.{Mistake}
use Rattle.co_schedule.proofs.Fitting.{words_of-fit, fits_first_fault}
use Rattle.co_transcript.specs.Spelling.{item_words, item_text}
use Rattle.co_transcript.specs.Grammar.{told_word, all_told, told_chosen, told_named, item_places}
use Rattle.co_transcript.specs.Items.{IsItem}
use Rattle.co_transcript.proofs.ItemFits.{item_fits}
use Rattle.co_transcript.proofs.ItemUnique.{item_same}

-- the line of an item has its words
pub words_of_item : (i : Item) (line : List ℕ) → IsItem i → line ≡ item_text i → words_of line ≡ item_words i
words_of_item i line it h = ap words_of h ∙ words_of-fit (number 0 4294967295) (λ _. place (one_of (map told_word all_told)) (λ word. told_chosen (told_named word))) (item_words i) (item_fits i it)

pub same_item : (a b : Item) → IsItem a → IsItem b → item_words a ≡ item_words b → a ≡ b
same_item = item_same

-- two items of the same line are the same
pub one_line : (a b : Item) → IsItem a → IsItem b → item_text a ≡ item_text b → a ≡ b
one_line a b p q e = item_same a b p q (sym (words_of_item a (item_text a) p Rattle.std.proofs.Common.refl) ∙ words_of_item b (item_text a) q e)

-- the words of an item have no fault
pub no_item_fault : (i : Item) (words : List Word) (mistake : Mistake) → IsItem i → words ≡ item_words i → first_fault item_places words ≡ Some mistake → ⊥
no_item_fault i words mistake it h fault =
    let none : first_fault item_places (item_words i) ≡ None = fits_first_fault item_places (item_words i) (item_fits i it) in
    let other : None ≡ Some mistake = sym none ∙ ap (first_fault item_places) (sym h) ∙ fault in
    absurd cc
