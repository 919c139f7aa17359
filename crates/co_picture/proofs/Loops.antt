-- One more piece of a text that is appended piece by piece.
use Rattle.std.proofs.Common.{◌≡◌, ℕ, ◌+◌, ◌<◌, List, [], ◌∷◌, ◌++◌, length, drop, get_or, suc, refl, sym, ap, ◌∙◌, subst, append_assoc, add-one, drop-cons}

split : {A : Type 0} (xs : List A) (i : ℕ) (x : A) → i < length xs → x ≡ get_or xs i x → drop i xs ≡ x ∷ drop (i + 1) xs
split xs i x few is = drop-cons xs i x few ∙ ap (λ y. y ∷ drop (suc i) xs) (sym is) ∙ ap (λ n. x ∷ drop n xs) (sym (add-one i))

pub one_piece : {A : Type 0} (now then : List A → List ℕ) (one : List ℕ) (xs : List A) (i : ℕ) (x : A) (into new all : List ℕ) → i < length xs → x ≡ get_or xs i x →
    ((rest : List A) → now (x ∷ rest) ≡ one ++ then rest) → into ++ now (drop i xs) ≡ all → new ≡ into ++ one → new ++ then (drop (i + 1) xs) ≡ all
one_piece now then one xs i x into new all few is cons before made =
    ap (λ n. n ++ then (drop (i + 1) xs)) made ∙ append_assoc into one (then (drop (i + 1) xs))
    ∙ ap (λ t. into ++ t) (sym (cons (drop (i + 1) xs)) ∙ ap now (sym (split xs i x few is))) ∙ before
