-- What is read is spelled so, and what is spelled so is read.
use Rattle.std.proofs.Common.{◌≡◌, ℕ, ◌≤◌, List, None, Some, Result, Ok, Err, sym, ap, ◌∙◌, subst}
use Rattle.std.specs.Prelude.{IfOk}
use Rattle.co_message.specs.declared.event.Event.{Event}
use Rattle.co_schedule.specs.Words.{Word, spaced, words_of}
use Rattle.co_schedule.specs.Spelling.{event_words, line_text}
use Rattle.co_schedule.specs.Places.{first_fault}
use Rattle.co_schedule.specs.Grammar.{event_places}
use Rattle.co_schedule.specs.View.{IsEventFor, IsLent, IsViewFor, event_of, view_words}
use Rattle.co_schedule.specs.declared.fault.Mistake.{Mistake}
use Rattle.co_schedule.specs.declared.view.LineView.{LineView}
use Rattle.co_schedule.proofs.Cutting.{spaced-words_of}
use Rattle.co_schedule.proofs.Fitting.{words_of-fit, fits_first_fault}
use Rattle.co_schedule.proofs.Complete.{event_fits}
use Rattle.co_schedule.proofs.Unique.{event_back, event_back-words}
use Rattle.co_schedule.proofs.Views.{view_words-event, IsEventFor-view, IsLent-view}

-- a line of these words is their text
pub line_of_words : (line : List ℕ) (words : List Word) → words_of line ≡ words → line ≡ spaced words
line_of_words line words h = sym (spaced-words_of line) ∙ ap spaced h

-- the line of an event has its words
pub words_of_line : (m c : ℕ) (e : Event) (line : List ℕ) → m ≤ 255 → c ≤ 255 → IsEventFor m c e → line ≡ line_text e → words_of line ≡ event_words e
words_of_line m c e line p q it h = ap words_of h ∙ words_of-fit _ _ (event_words e) (event_fits m c e p q it)

-- two events of the same words are the same
pub same_event : (m c : ℕ) (a b : Event) → m ≤ 255 → c ≤ 255 → IsEventFor m c a → IsEventFor m c b → event_words a ≡ event_words b → a ≡ b
same_event m c a b p q x y h =
    let both : Some a ≡ Some b = sym (event_back-words m c a p q x) ∙ ap event_back h ∙ event_back-words m c b p q y in
    cc

-- the words of an event have no fault
pub no_fault : (m c : ℕ) (e : Event) (words : List Word) (mistake : Mistake) → m ≤ 255 → c ≤ 255 → IsEventFor m c e → words ≡ event_words e → first_fault (event_places m c) words ≡ Some mistake → ⊥
no_fault m c e words mistake p q it h fault =
    let none : first_fault (event_places m c) (event_words e) ≡ None = fits_first_fault (event_places m c) (event_words e) (event_fits m c e p q it) in
    let other : None ≡ Some mistake = sym none ∙ ap (first_fault (event_places m c)) (sym h) ∙ fault in
    absurd cc

-- what a view was lent from is its event
pub event_found : {E : Type 0} (m c : ℕ) (r : Result LineView E) (words line : List Word) → words ≡ line → IfOk r (λ view. IsViewFor m c view × (words ≡ view_words view)) → IfOk r (λ view. IsEventFor m c (event_of view) × (line ≡ event_words (event_of view)))
event_found m c (Ok view) words line e it = (IsEventFor-view m c view it.0, sym e ∙ it.1 ∙ view_words-event m c view it.0)
event_found m c (Err x) words line e it = tt

-- what it lends is what a view lends
pub lent_found : {E : Type 0} (m c : ℕ) (r : Result LineView E) (words : List Word) → IfOk r (λ view. IsViewFor m c view × (words ≡ view_words view)) → IfOk r IsLent
lent_found m c (Ok view) words it = IsLent-view m c view it.0
lent_found m c (Err x) words it = tt

-- an event that was made of a view
pub event_made : (m c : ℕ) (v : LineView) (e : Event) (words : List Word) → IsViewFor m c v → words ≡ view_words v → e ≡ event_of v → IsEventFor m c e × (words ≡ event_words e)
event_made m c v e words it h same =
    (subst (IsEventFor m c) (sym same) (IsEventFor-view m c v it), h ∙ view_words-event m c v it ∙ ap event_words (sym same))
