-- Lists of elements as they are lent.
use Rattle.std.proofs.Common.{◌≡◌, ℕ, zero, suc, List, [], ◌∷◌, ◌++◌, map, Result, Ok, Err, refl, ap, ◌∙◌, append_assoc}
use Rattle.co_record.specs.declared.miss.Miss.{Miss}
use Rattle.std.specs.declared.cmp.Ordering.{Ordering}
use Rattle.co_base.specs.Lent.{Begins}
use Rattle.co_record.specs.Reading.{◌>>=◌, Reader, as_at, counted_at, elements, items_end, items_at}

one_more : {A B : Type 0} (f : A → B) (read : Reader A) (n : ℕ) (r : Result (A × List ℕ) Miss) → ((rest : List ℕ) → elements (as_at f read) n rest ≡ map f (elements read n rest))
    → elim (as_at f (λ _. r) []) [ Ok x ↦ x.0 ∷ elements (as_at f read) n x.1 | Err e ↦ [] ] ≡ map f (elim r [ Ok x ↦ x.0 ∷ elements read n x.1 | Err e ↦ [] ])
one_more f read n (Ok x) more = ap (λ ys. f x.0 ∷ ys) (more x.1)
one_more f read n (Err e) more = refl

-- elements that are read as something else
pub elements_as : {A B : Type 0} (f : A → B) (read : Reader A) (n : ℕ) (bytes : List ℕ) → elements (as_at f read) n bytes ≡ map f (elements read n bytes)
unfolding elements
elements_as f read zero bytes = refl
elements_as f read (suc n) bytes = one_more f read n (read bytes) (λ rest. elements_as f read n rest)

-- a list by its count, and what stands behind it
pub list_read : {A : Type 0} (count : Reader ℕ) (read : Reader A) (cmp : A → A → Ordering) (bytes : List ℕ) (n : ℕ) (first rest : List ℕ) → count bytes ≡ Ok (n, first) → items_end read cmp n first ≡ Ok rest
    → counted_at count (items_at read cmp) bytes ≡ Ok (elements read n first, rest)
list_read count read cmp bytes n first rest e h =
    ap (λ (r : Result (ℕ × List ℕ) Miss). r >>= λ x. items_at read cmp x.0 x.1) e ∙ ap (λ (r : Result (List ℕ) Miss). r >>= λ x. Ok (elements read n first, x)) h

-- what begins with more than the old bytes begins with the old ones
pub begins_more : (old x mid new : List ℕ) → mid ≡ old ++ x → Begins mid new → Begins old new
begins_more old x mid new e b = (x ++ b.0, b.1 ∙ ap (λ (t : List ℕ). t ++ b.0) e ∙ append_assoc old x b.0)
