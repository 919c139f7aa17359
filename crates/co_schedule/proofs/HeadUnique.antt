-- No two heads have the same words.
use Rattle.std.proofs.Common.{◌≡◌, ℕ, ◌≤◌, List, [], ◌∷◌, ◌++◌, get_or, drop, length, map, Option, Some, None, refl, sym, ap, subst, ◌∙◌, arith}
use Rattle.std.specs.Prelude.{decimal, codes}
use Rattle.std.proofs.Math.Bridge.{le_prop}
use Rattle.co_base.specs.declared.head.Head.{Head}
use Rattle.co_base.specs.declared.head.Kind.{Kind}
use Rattle.co_base.specs.declared.head.Kind.TheVariants.{Lock, Occ, Mv}
use Rattle.co_base.specs.Limits.{most_coordinators, most_members}
use Rattle.co_schedule.specs.Words.{Word}
use Rattle.co_schedule.specs.Spelling.{kind_word, head_words, head_text}
use Rattle.co_schedule.specs.Grammar.{kind_named}
use Rattle.co_schedule.proofs.Numbers.{value_of-decimal}
use Rattle.co_schedule.proofs.Unique.{amount}
use Rattle.co_schedule.proofs.Heads.{words_of_head}

abbrev kinds_onto : Option Kind → List Kind → List Kind
kinds_onto None kinds = []
kinds_onto (Some kind) kinds = kind ∷ kinds

-- the kinds in front of other words
abbrev kinds_back : List Word → List Kind
kinds_back [] = []
kinds_back (word ∷ words) = kinds_onto (kind_named word) (kinds_back words)

abbrev coords_onto : Option Kind → List Word → ℕ → ℕ
coords_onto None words coords = amount (get_or words 0 [])
coords_onto (Some kind) words coords = coords

-- the number behind the first word that is no kind
abbrev coords_back : List Word → ℕ
coords_back [] = 0
coords_back (word ∷ words) = coords_onto (kind_named word) words (coords_back words)

kinds_back-words : (kinds : List Kind) (rest : List Word) → kinds_back (map kind_word kinds ++ codes "coords" ∷ rest) ≡ kinds
kinds_back-words [] rest = refl
kinds_back-words (Lock ∷ kinds) rest = ap (λ (ks : List Kind). Lock ∷ ks) (kinds_back-words kinds rest)
kinds_back-words (Occ ∷ kinds) rest = ap (λ (ks : List Kind). Occ ∷ ks) (kinds_back-words kinds rest)
kinds_back-words (Mv ∷ kinds) rest = ap (λ (ks : List Kind). Mv ∷ ks) (kinds_back-words kinds rest)

coords_back-words : (kinds : List Kind) (n : ℕ) → coords_back (map kind_word kinds ++ codes "coords" ∷ decimal n ∷ []) ≡ amount (decimal n)
coords_back-words [] n = refl
coords_back-words (Lock ∷ kinds) n = coords_back-words kinds n
coords_back-words (Occ ∷ kinds) n = coords_back-words kinds n
coords_back-words (Mv ∷ kinds) n = coords_back-words kinds n

abbrev made : (kinds : List Kind) (coords : ℕ) → 1 ≤ length kinds → length kinds ≤ most_members → 1 ≤ coords → coords ≤ most_coordinators → Head
made kinds coords p q r s = record { kinds = kinds; coords = coords; some_member = p; members = q; some_coord = r; coordinators = s }

made_same : (kinds : List Kind) (coords : ℕ) (p p' : 1 ≤ length kinds) (q q' : length kinds ≤ most_members) (r r' : 1 ≤ coords) (s s' : coords ≤ most_coordinators) → made kinds coords p q r s ≡ made kinds coords p' q' r' s'
made_same kinds coords p p' q q' r r' s s' =
    ap (λ x. made kinds coords x q r s) (le_prop p p')
    ∙ ap (λ x. made kinds coords p' x r s) (le_prop q q')
    ∙ ap (λ x. made kinds coords p' q' x s) (le_prop r r')
    ∙ ap (λ x. made kinds coords p' q' r' x) (le_prop s s')

coords_made : (kinds : List Kind) (c d : ℕ) (p p' : 1 ≤ length kinds) (q q' : length kinds ≤ most_members) (r : 1 ≤ c) (r' : 1 ≤ d) (s : c ≤ most_coordinators) (s' : d ≤ most_coordinators) → c ≡ d → made kinds c p q r s ≡ made kinds d p' q' r' s'
coords_made kinds c d p p' q q' r r' s s' e =
    let P : ℕ → Type 0 = λ x. (u : 1 ≤ x) (v : x ≤ most_coordinators) → made kinds c p q r s ≡ made kinds x p' q' u v in
    subst P e (λ u v. made_same kinds c p p' q q' r u s v) r' s'

kinds_made : (a b : List Kind) (c d : ℕ) (p : 1 ≤ length a) (p' : 1 ≤ length b) (q : length a ≤ most_members) (q' : length b ≤ most_members) (r : 1 ≤ c) (r' : 1 ≤ d) (s : c ≤ most_coordinators) (s' : d ≤ most_coordinators) → a ≡ b → c ≡ d → made a c p q r s ≡ made b d p' q' r' s'
kinds_made a b c d p p' q q' r r' s s' e f =
    let P : List Kind → Type 0 = λ x. (u : 1 ≤ length x) (v : length x ≤ most_members) → made a c p q r s ≡ made x d u v r' s' in
    subst P e (λ u v. coords_made a c d p u q v r r' s s' f) p' q'

-- two heads of the same fields are the same
pub head_equal : (a b : Head) → a.kinds ≡ b.kinds → a.coords ≡ b.coords → a ≡ b
head_equal a b e f = kinds_made a.kinds b.kinds a.coords b.coords a.some_member b.some_member a.members b.members a.some_coord b.some_coord a.coordinators b.coordinators e f

pub head_same : (a b : Head) → head_words a ≡ head_words b → a ≡ b
head_same a b e =
    let kinds : a.kinds ≡ b.kinds = sym (kinds_back-words a.kinds (decimal a.coords ∷ [])) ∙ ap (λ (ws : List Word). kinds_back (drop 1 ws)) e ∙ kinds_back-words b.kinds (decimal b.coords ∷ []) in
    let digits : amount (decimal a.coords) ≡ amount (decimal b.coords) = sym (coords_back-words a.kinds a.coords) ∙ ap (λ (ws : List Word). coords_back (drop 1 ws)) e ∙ coords_back-words b.kinds b.coords in
    head_equal a b kinds (sym (value_of-decimal a.coords (omega (arith, a.coordinators))) ∙ digits ∙ value_of-decimal b.coords (omega (arith, b.coordinators)))

-- two heads of the same line are the same
pub head_line : (a b : Head) → head_text a ≡ head_text b → a ≡ b
head_line a b e = head_same a b (sym (words_of_head a (head_text a) refl) ∙ words_of_head b (head_text a) e)
