-- Heads.
use Rattle.std.proofs.Common.{◌≡◌, ℕ, zero, suc, ◌-◌, ◌≤◌, List, [], ◌∷◌, length, map, None, Some, Result, Ok, Err, refl, sym, ap, ◌∙◌, arith}
use Rattle.std.specs.Prelude.{decimal, codes, IfErr, if◌then◌else◌}
use Rattle.std.specs.Str.{bytes_eq}
use Rattle.co_base.specs.declared.head.Head.{Head}
use Rattle.co_base.specs.declared.head.Kind.{Kind}
use Rattle.co_base.specs.declared.head.Kind.TheVariants.{Lock, Occ, Mv}
use Rattle.co_base.specs.Limits.{most_coordinators, most_members}
use Rattle.co_schedule.specs.Words.{Word, words_of}
use Rattle.co_schedule.specs.Spelling.{kind_word, head_words, head_text}
use Rattle.co_schedule.specs.Places.{one_of, step, first_fault, go_on, ◌▸◌}
use Rattle.co_schedule.specs.Grammar.{all_kinds, kinds_places, head_places, coords_places}
use Rattle.co_schedule.specs.Heads.{kind_or_coords_word, kinds_text}
use Rattle.co_schedule.specs.Faults.{IsFirstFault}
use Rattle.co_schedule.specs.declared.fault.ReadFault.{ReadFault}
use Rattle.co_schedule.specs.declared.fault.ReadFault.TheVariants as read
use Rattle.co_schedule.specs.declared.fault.Mistake.{Mistake}
use Rattle.co_schedule.proofs.Fitting.{Fits, number_taken, fits_first_fault, words_of-fit}

kind_goes_on : (more : ℕ) (kind : Kind) (rest : List Word) → first_fault (if bytes_eq (codes "coords") (kind_word kind) then coords_places else kinds_places more) rest ≡ first_fault (kinds_places more) rest
kind_goes_on more Lock rest = refl
kind_goes_on more Occ rest = refl
kind_goes_on more Mv rest = refl

-- behind the word of a kind, the places of the other kinds stand
pub kind_faults : (more : ℕ) (kind : Kind) (words rest : List Word) → step (one_of (codes "coords" ∷ map kind_word all_kinds)) words ≡ Ok (kind_or_coords_word (Some kind), rest) → first_fault (kinds_places (suc more)) words ≡ first_fault (kinds_places more) rest
kind_faults more kind words rest e =
    ap (λ r. go_on r (λ w ws. first_fault (if bytes_eq (codes "coords") w then coords_places else kinds_places more) ws)) e ∙ kind_goes_on more kind rest

same_fault : (a b : List Word) (m n : ℕ) (r : Result Head ReadFault) → first_fault (kinds_places m) a ≡ first_fault (kinds_places n) b → IfErr r (IsFirstFault (kinds_places n) b) → IfErr r (IsFirstFault (kinds_places m) a)
same_fault a b m n (Ok head) e it = tt
same_fault a b m n (Err (read.Mistake mistake)) e it = e ∙ it
same_fault a b m n (Err read.Memory) e it = tt

pub more_faults : (more : ℕ) (kind : Kind) (words rest : List Word) (r : Result Head ReadFault) → (more ≡ 0 → ⊥) → step (one_of (codes "coords" ∷ map kind_word all_kinds)) words ≡ Ok (kind_or_coords_word (Some kind), rest) → IfErr r (IsFirstFault (kinds_places (more - 1)) rest) → IfErr r (IsFirstFault (kinds_places more) words)
more_faults zero kind words rest r some e it = absurd (some refl)
more_faults (suc more) kind words rest r some e it =
    let less : suc more - 1 ≡ more = omega arith in
    same_fault words rest (suc more) more r (kind_faults more kind words rest e) (rw less at it)

kinds_fit : (more : ℕ) (kinds : List Kind) (coords : ℕ) → length kinds ≤ more → 1 ≤ coords → coords ≤ most_coordinators → Fits (kinds_places more) (kinds_text kinds (codes "coords" ∷ decimal coords ∷ []))
kinds_fit zero [] coords few low high = (record { wanted = refl; whole = refl }, (number_taken 1 8 coords low high (omega arith), tt))
kinds_fit zero (kind ∷ kinds) coords few low high = absurd (omega arith)
kinds_fit (suc more) [] coords few low high = (record { wanted = refl; whole = refl }, (number_taken 1 8 coords low high (omega arith), tt))
kinds_fit (suc more) (Lock ∷ kinds) coords few low high = (record { wanted = refl; whole = refl }, kinds_fit more kinds coords (omega arith) low high)
kinds_fit (suc more) (Occ ∷ kinds) coords few low high = (record { wanted = refl; whole = refl }, kinds_fit more kinds coords (omega arith) low high)
kinds_fit (suc more) (Mv ∷ kinds) coords few low high = (record { wanted = refl; whole = refl }, kinds_fit more kinds coords (omega arith) low high)

first_fits : (kinds : List Kind) (coords : ℕ) → 1 ≤ length kinds → length kinds ≤ most_members → 1 ≤ coords → coords ≤ most_coordinators → Fits head_places (codes "members" ∷ kinds_text kinds (codes "coords" ∷ decimal coords ∷ []))
first_fits [] coords some few low high = absurd (omega arith)
first_fits (Lock ∷ kinds) coords some few low high = (record { wanted = refl; whole = refl }, (record { wanted = refl; whole = refl }, kinds_fit (most_members - 1) kinds coords (omega arith) low high))
first_fits (Occ ∷ kinds) coords some few low high = (record { wanted = refl; whole = refl }, (record { wanted = refl; whole = refl }, kinds_fit (most_members - 1) kinds coords (omega arith) low high))
first_fits (Mv ∷ kinds) coords some few low high = (record { wanted = refl; whole = refl }, (record { wanted = refl; whole = refl }, kinds_fit (most_members - 1) kinds coords (omega arith) low high))

-- the words of each head fit the places of heads
pub head_fits : (head : Head) → Fits head_places (head_words head)
head_fits head = first_fits head.kinds head.coords head.some_member head.members head.some_coord head.coordinators

-- the words of a head have no fault
pub head_no_fault : (head : Head) (words : List Word) (mistake : Mistake) → words ≡ head_words head → first_fault head_places words ≡ Some mistake → ⊥
head_no_fault head words mistake h fault =
    let other : None ≡ Some mistake = sym (fits_first_fault head_places (head_words head) (head_fits head)) ∙ ap (first_fault head_places) (sym h) ∙ fault in
    absurd cc

pub words_of_head : (head : Head) (line : List ℕ) → line ≡ head_text head → words_of line ≡ head_words head
words_of_head head line h = ap words_of h ∙ words_of-fit (one_of (codes "members" ∷ [])) (λ _. one_of (map kind_word all_kinds) ▸ kinds_places (most_members - 1)) (head_words head) (head_fits head)
