-- One place of a line.
use Rattle.std.proofs.Common.{◌≡◌, Bool, true, false, cond, List, [], ◌∷◌, map, Option, None, Some, Ok, refl, sym, ap, ◌∙◌, ◌||◌}
use Rattle.std.specs.Prelude.{find, IfSome, is_some}
use Rattle.std.specs.List.{list_any}
use Rattle.std.specs.Str.{bytes_eq}
use Rattle.std.proofs.lemmas.Slice.Eq.{bytes_eq-Decides}
use Rattle.co_schedule.specs.Words.{Word}
use Rattle.co_schedule.specs.Places.{Want, is_in, step}

-- a word that is wanted is taken
pub step_takes : (want : Want) (word : Word) (words : List Word) → is_in want word ≡ true → step want (word ∷ words) ≡ Ok (word, words)
unfolding step
step_takes want word words e = rw e refl

found_here : {F : Type 0} (word_of : F → Word) (word : Word) (x : F) (xs : List F) (f : F) (b : Bool) → bytes_eq (word_of x) word ≡ b → cond b (Some x) (find (λ y. bytes_eq (word_of y) word) xs) ≡ Some f → (find (λ y. bytes_eq (word_of y) word) xs ≡ Some f → (word ≡ word_of f) × (list_any (λ known. bytes_eq known word) (map word_of xs) ≡ true)) → (word ≡ word_of f) × ((b || list_any (λ known. bytes_eq known word) (map word_of xs)) ≡ true)
found_here word_of word x xs f true same e others =
    let it : Some x ≡ Some f = e in
    let x-is : x ≡ f = cc in
    (sym ((bytes_eq-Decides (word_of x) word).0 same) ∙ ap word_of x-is, refl)
found_here word_of word x xs f false same e others = others e

-- what is found by its word has the word, which is one of the words
pub found_by_word : {F : Type 0} (word_of : F → Word) (word : Word) (all : List F) (f : F) → find (λ x. bytes_eq (word_of x) word) all ≡ Some f → (word ≡ word_of f) × (list_any (λ known. bytes_eq known word) (map word_of all) ≡ true)
found_by_word word_of word [] f e = absurd cc
found_by_word word_of word (x ∷ xs) f e = found_here word_of word x xs f (bytes_eq (word_of x) word) refl e (found_by_word word_of word xs f)

not_here : {F : Type 0} (word_of : F → Word) (word : Word) (x : F) (xs : List F) (b : Bool) → cond b (Some x) (find (λ y. bytes_eq (word_of y) word) xs) ≡ None → (find (λ y. bytes_eq (word_of y) word) xs ≡ None → list_any (λ known. bytes_eq known word) (map word_of xs) ≡ false) → (b || list_any (λ known. bytes_eq known word) (map word_of xs)) ≡ false
not_here word_of word x xs true e others = absurd cc
not_here word_of word x xs false e others = others e

-- what is not found has none of the words
pub not_found_by_word : {F : Type 0} (word_of : F → Word) (word : Word) (all : List F) → find (λ x. bytes_eq (word_of x) word) all ≡ None → list_any (λ known. bytes_eq known word) (map word_of all) ≡ false
not_found_by_word word_of word [] e = refl
not_found_by_word word_of word (x ∷ xs) e = not_here word_of word x xs (bytes_eq (word_of x) word) e (not_found_by_word word_of word xs)

-- what a table gives for a word has that word, and is what the table gives for its own
pub table_finds : {F : Type 0} (word_of : F → Word) (word : Word) (all : List F) (r : Option F) → r ≡ find (λ x. bytes_eq (word_of x) word) all → IfSome r (λ f. (word ≡ word_of f) × (find (λ x. bytes_eq (word_of x) (word_of f)) all ≡ Some f))
table_finds word_of word all None e = tt
table_finds word_of word all (Some f) e =
    let it = found_by_word word_of word all f (sym e) in
    (it.0, ap (λ (w : Word). find (λ x. bytes_eq (word_of x) w) all) (sym it.0) ∙ sym e)

-- a table gives something for its words alone
pub table_tests : {F : Type 0} (word_of : F → Word) (word : Word) (all : List F) (r : Option F) → r ≡ find (λ x. bytes_eq (word_of x) word) all → is_some r ≡ list_any (λ known. bytes_eq known word) (map word_of all)
table_tests word_of word all None e = sym (not_found_by_word word_of word all (sym e))
table_tests word_of word all (Some f) e = sym (found_by_word word_of word all f (sym e)).1
