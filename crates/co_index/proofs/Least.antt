-- The least of some keys.
use Rattle.std.proofs.Common.{◌≡◌, ◌⊎◌, inl, inr, Bool, true, false, ◌||◌, ℕ, List, [], ◌∷◌, ◌++◌, if◌then◌else◌, Option, None, Some, refl, sym, ap, ◌∙◌, subst, true≢false}
use Rattle.std.specs.Ordering.{is_lt, ordering_reverse}
use Rattle.std.specs.declared.cmp.Ordering.{Ordering}
use Rattle.std.specs.declared.cmp.Ordering.TheVariants.{Less, Equal, Greater}
use Rattle.std.specs.FinMap.{slice_cmp-IsAntisymmetric, nat_cmp-IsAntisymmetric}
use Rattle.std.proofs.lemmas.Cmp.{nat_list_cmp_total}
use Rattle.co_index.specs.Listed.{has_key}
use Rattle.co_index.proofs.Keys.{tied, itself}
use Rattle.co_state.specs.Keys.{same_key}
use Rattle.co_base.specs.Order.{key_cmp}
use Rattle.co_state.specs.Keys.{least_from, least_key}
use Rattle.co_state.specs.Search.{least_with}

least_from-append : (key : List ℕ) (xs ys : List (List ℕ)) → least_from key (xs ++ ys) ≡ least_from (least_from key xs) ys
least_from-append key [] ys = refl
least_from-append key (x ∷ xs) ys =
    elim (is_lt (key_cmp x key))
    as (λ b. (if b then least_from x (xs ++ ys) else least_from key (xs ++ ys)) ≡ least_from (if b then least_from x xs else least_from key xs) ys)
    [ true ↦ least_from-append x xs ys | false ↦ least_from-append key xs ys ]

pub least_with-append : (found : Option (List ℕ)) (xs ys : List (List ℕ)) → least_with found (xs ++ ys) ≡ least_with (least_with found xs) ys
least_with-append None [] ys = refl
least_with-append None (x ∷ xs) ys = ap Some (least_from-append x xs ys)
least_with-append (Some key) xs ys = ap Some (least_from-append key xs ys)

-- ---- lists with the same keys have the same least one
abbrev pub AtMost : List ℕ → List ℕ → Type 0
AtMost x y = (x ≡ y) ⊎ (key_cmp x y ≡ Less)

at_most_trans : (x y z : List ℕ) → AtMost x y → AtMost y z → AtMost x z
at_most_trans x y z (inl e) h = subst (λ k. AtMost k z) (sym e) h
at_most_trans x y z (inr e) (inl f) = subst (λ k. AtMost x k) f (inr e)
at_most_trans x y z (inr e) (inr f) = inr (nat_list_cmp_total.trans x y z e f)

by_test : (k key : List ℕ) (r : Ordering) → key_cmp k key ≡ r → is_lt r ≡ false → AtMost key k
by_test k key Less e f = absurd (true≢false f)
by_test k key Equal e f = inl (sym (slice_cmp-IsAntisymmetric nat_cmp-IsAntisymmetric k key e))
by_test k key Greater e f = inr (nat_list_cmp_total.antisymm key k ∙ ap ordering_reverse e)

is_less : (r : Ordering) → is_lt r ≡ true → r ≡ Less
is_less Less e = refl
is_less Equal e = absurd (true≢false (sym e))
is_less Greater e = absurd (true≢false (sym e))

one_key : (x y : List ℕ) → AtMost x y → AtMost y x → x ≡ y
one_key x y (inl e) h = e
one_key x y (inr e) (inl f) = sym f
one_key x y (inr e) (inr f) = absurd (let g : Less ≡ Greater = sym e ∙ nat_list_cmp_total.antisymm x y ∙ ap ordering_reverse f in cc)

start_step : (key k : List ℕ) (ks : List (List ℕ)) (b : Bool) → is_lt (key_cmp k key) ≡ b → AtMost (least_from k ks) k → AtMost (least_from key ks) key → AtMost (if b then least_from k ks else least_from key ks) key
start_step key k ks true e f g = at_most_trans (least_from k ks) k key f (inr (is_less (key_cmp k key) e))
start_step key k ks false e f g = g

least_start : (key : List ℕ) (ks : List (List ℕ)) → AtMost (least_from key ks) key
least_start key [] = inl refl
least_start key (k ∷ ks) = start_step key k ks (is_lt (key_cmp k key)) refl (least_start k ks) (least_start key ks)

all_step : (key k x : List ℕ) (ks : List (List ℕ)) (b c : Bool) → is_lt (key_cmp k key) ≡ b → same_key k x ≡ c → (c || has_key ks x) ≡ true
    → (has_key ks x ≡ true → AtMost (least_from k ks) x) → (has_key ks x ≡ true → AtMost (least_from key ks) x) → AtMost (if b then least_from k ks else least_from key ks) x
all_step key k x ks true true e f h p q = subst (AtMost (least_from k ks)) (tied k x f) (least_start k ks)
all_step key k x ks true false e f h p q = p h
all_step key k x ks false true e f h p q = subst (AtMost (least_from key ks)) (tied k x f) (at_most_trans (least_from key ks) key k (least_start key ks) (by_test k key (key_cmp k key) refl e))
all_step key k x ks false false e f h p q = q h

least_all : (key x : List ℕ) (ks : List (List ℕ)) → has_key ks x ≡ true → AtMost (least_from key ks) x
least_all key x [] h = absurd (true≢false (sym h))
least_all key x (k ∷ ks) h = all_step key k x ks (is_lt (key_cmp k key)) (same_key k x) refl refl h (least_all k x ks) (least_all key x ks)

least_is : (key x : List ℕ) (ks : List (List ℕ)) → has_key (key ∷ ks) x ≡ true → AtMost (least_from key ks) x
least_is key x ks h = by (same_key key x) refl h
  where
    by : (b : Bool) → same_key key x ≡ b → (b || has_key ks x) ≡ true → AtMost (least_from key ks) x
    by true e h = subst (AtMost (least_from key ks)) (tied key x e) (least_start key ks)
    by false e h = least_all key x ks h

or_under : (a b c : Bool) → (a || c) ≡ true → (a || (b || c)) ≡ true
or_under true b c h = refl
or_under false true c h = refl
or_under false false c h = h

in_step : (key k : List ℕ) (ks : List (List ℕ)) (b : Bool) → has_key (k ∷ ks) (least_from k ks) ≡ true → has_key (key ∷ ks) (least_from key ks) ≡ true
    → has_key (key ∷ k ∷ ks) (if b then least_from k ks else least_from key ks) ≡ true
in_step key k ks true f g = or_last (same_key key (least_from k ks)) (has_key (k ∷ ks) (least_from k ks)) f
  where
    or_last : (a b : Bool) → b ≡ true → (a || b) ≡ true
    or_last true b e = refl
    or_last false b e = e
in_step key k ks false f g = or_under (same_key key (least_from key ks)) (same_key k (least_from key ks)) (has_key ks (least_from key ks)) g

least_in : (key : List ℕ) (ks : List (List ℕ)) → has_key (key ∷ ks) (least_from key ks) ≡ true
least_in key [] = ap (λ b. b || false) (itself key)
least_in key (k ∷ ks) = in_step key k ks (is_lt (key_cmp k key)) (least_in k ks) (least_in key ks)

first_there : (key : List ℕ) (ks : List (List ℕ)) → has_key (key ∷ ks) key ≡ true
first_there key ks = ap (λ b. b || has_key ks key) (itself key)

pub least_same : (ks js : List (List ℕ)) → ((k : List ℕ) → has_key ks k ≡ has_key js k) → least_key ks ≡ least_key js
least_same [] [] same = refl
least_same [] (j ∷ js) same = absurd (true≢false (sym (same j ∙ first_there j js)))
least_same (k ∷ ks) [] same = absurd (true≢false (sym (sym (same k) ∙ first_there k ks)))
least_same (k ∷ ks) (j ∷ js) same =
    ap Some (one_key (least_from k ks) (least_from j js)
    (least_is k (least_from j js) ks (same (least_from j js) ∙ least_in j js))
    (least_is j (least_from k ks) js (sym (same (least_from k ks)) ∙ least_in k ks)))
