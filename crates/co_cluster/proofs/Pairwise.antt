-- Lists that are put together node by node and transaction by transaction: what is in them, and their order.
use Rattle.std.proofs.Common.{◌≡◌, ◌⊎◌, inl, inr, ℕ, zero, suc, ◌<◌, ◌≤◌, Bool, true, false, List, [], ◌∷◌, ◌++◌, ◌||◌, length, get_or, take, ◌+◌, Option, None, Some, refl, sym, ap, subst, ◌∙◌, arith}
use Rattle.std.specs.Prelude.{flat_map, option_to_list, AllPairs, Contains}
use Rattle.std.specs.List.{AllByRecursion, list_any}
use Rattle.std.specs.List.Sorted.{IsStrictlySortedBy}
use Rattle.std.specs.Ordering.{nat_cmp, eq_by_cmp}
use Rattle.std.specs.declared.cmp.Ordering.TheVariants.{Less}
use Rattle.std.specs.FinMap.{keys, contains_key-keys}
use Rattle.std.proofs.lemmas.Bool.{cases_order, or_cases}
use Rattle.std.proofs.lemmas.Bool.Decides.{nat_tests}
use Rattle.std.proofs.lemmas.List.Elements.{Contains-append_left, Contains-append_right, Contains-push, Contains-push_cases, Contains-append_cases}
use Rattle.std.proofs.lemmas.Grind.{flat_map-append}
use Rattle.std.proofs.lemmas.List.{append-nil, take_more}
use Rattle.co_base.specs.Order.{IsAscending}
use Rattle.co_state.specs.Table.{holds}
use Rattle.co_plain.specs.MemberView.{Numbers}
use Rattle.co_cluster.specs.Listed.{any_to, found_to}

-- ---- the nodes of so many numbers

pub record IsAt (n : ℕ) (test : ℕ → Bool) : Type 0 where
  pub node : ℕ
  pub from : 1 ≤ node
  pub to : node ≤ n
  pub passes : test node ≡ true

pub any_at : (n : ℕ) (test : ℕ → Bool) → any_to n test ≡ true → IsAt n test
any_at zero test h = absurd (let z : false ≡ true = h in cc)
any_at (suc n) test h = by (any_at n test) (or_cases (any_to n test) (test (suc n)) h)
  where
    by : (any_to n test ≡ true → IsAt n test) → (any_to n test ≡ true) ⊎ (test (suc n) ≡ true) → IsAt (suc n) test
    by rest (inl e) = let x = rest e in record { node = x.node; from = x.from; to = let t = x.to in omega (arith, t); passes = x.passes }
    by rest (inr e) = record { node = suc n; from = omega arith; to = omega arith; passes = e }

pub any_there : (n : ℕ) (test : ℕ → Bool) (k : ℕ) → 1 ≤ k → k ≤ n → test k ≡ true → any_to n test ≡ true
any_there zero test k from to h = absurd (omega (arith, from, to))
any_there (suc n) test k from to h = by (any_there n test k from) (cases_order k (suc n))
  where
    left : (a b : Bool) → a ≡ true → (a || b) ≡ true
    left true b e = refl
    left false b e = absurd (let z : false ≡ true = e in cc)

    right : (a b : Bool) → b ≡ true → (a || b) ≡ true
    right true b e = refl
    right false b e = e

    by : (k ≤ n → test k ≡ true → any_to n test ≡ true) → (k ≡ suc n) ⊎ ((k < suc n) ⊎ (suc n < k)) → (any_to n test || test (suc n)) ≡ true
    by rest (inl e) = right (any_to n test) (test (suc n)) (ap test (sym e) ∙ h)
    by rest (inr (inl l)) = left (any_to n test) (test (suc n)) (rest (omega (arith, l)) h)
    by rest (inr (inr l)) = absurd (omega (arith, l, to))

-- ---- what is in a list

module _ {A : Type 0} where
  nothing_in : {B : Type 0} (x : A) → Contains [] x → B
  nothing_in x h = let l = h.1 in absurd (omega (arith, l))

  first_in : (x : A) (xs : List A) → Contains (x ∷ xs) x
  first_in x xs = Contains-append_left (x ∷ []) xs x (Contains-push [] x)

  later_in : (y : A) (xs : List A) (x : A) → Contains xs x → Contains (y ∷ xs) x
  later_in y xs x c = Contains-append_right (y ∷ []) xs x c

  in_cases : (y : A) (xs : List A) (x : A) → Contains (y ∷ xs) x → (y ≡ x) ⊎ Contains xs x
  in_cases y xs x c = by (Contains-append_cases (y ∷ []) xs x c)
    where
      one : Contains [] x ⊎ (y ≡ x) → (y ≡ x) ⊎ Contains xs x
      one (inl n) = nothing_in x n
      one (inr e) = inl e

      by : Contains (y ∷ []) x ⊎ Contains xs x → (y ≡ x) ⊎ Contains xs x
      by (inl c) = one (Contains-push_cases [] y x c)
      by (inr c) = inr c

  all_in : (P : A → Type 0) (xs : List A) → ((x : A) → Contains xs x → P x) → AllByRecursion P xs
  all_in P [] each = tt
  all_in P (x ∷ xs) each = (each x (first_in x xs), all_in P xs (λ y c. each y (later_in x xs y c)))

  in_all : (P : A → Type 0) (xs : List A) → AllByRecursion P xs → (x : A) → Contains xs x → P x
  in_all P [] all x c = nothing_in x c
  in_all P (y ∷ ys) all x c = by (in_all P ys all.1 x) (in_cases y ys x c)
    where
      by : (Contains ys x → P x) → (y ≡ x) ⊎ Contains ys x → P x
      by rest (inl e) = subst P e all.0
      by rest (inr d) = rest d

-- ---- what nodes give

module _ {A : Type 0} where
  pub record IsFound (n : ℕ) (f : ℕ → Option A) (x : A) : Type 0 where
    pub node : ℕ
    pub from : 1 ≤ node
    pub to : node ≤ n
    pub is : f node ≡ Some x

  pub found_in : (n : ℕ) (f : ℕ → Option A) (x : A) → Contains (found_to n f) x → IsFound n f x
  found_in zero f x c = nothing_in x c
  found_in (suc n) f x c = by (found_in n f x) (Contains-append_cases (found_to n f) (option_to_list (f (suc n))) x c)
    where
      at : (o : Option A) → f (suc n) ≡ o → Contains (option_to_list o) x → IsFound (suc n) f x
      at None e d = nothing_in x d
      at (Some y) e d = one (in_cases y [] x d)
        where
          one : (y ≡ x) ⊎ Contains [] x → IsFound (suc n) f x
          one (inl same) = record { node = suc n; from = omega arith; to = omega arith; is = e ∙ ap Some same }
          one (inr none) = nothing_in x none

      by : (Contains (found_to n f) x → IsFound n f x) → Contains (found_to n f) x ⊎ Contains (option_to_list (f (suc n))) x → IsFound (suc n) f x
      by rest (inl d) = let r = rest d in record { node = r.node; from = r.from; to = let t = r.to in omega (arith, t); is = r.is }
      by rest (inr d) = at (f (suc n)) refl d

  pub found_there : (n : ℕ) (f : ℕ → Option A) (x : A) (m : ℕ) → 1 ≤ m → m ≤ n → f m ≡ Some x → Contains (found_to n f) x
  found_there zero f x m from to is = absurd (omega (arith, from, to))
  found_there (suc n) f x m from to is = by (found_there n f x m from) (cases_order m (suc n))
    where
      by : (m ≤ n → f m ≡ Some x → Contains (found_to n f) x) → (m ≡ suc n) ⊎ ((m < suc n) ⊎ (suc n < m)) → Contains (found_to (suc n) f) x
      by rest (inl e) = Contains-append_right (found_to n f) (option_to_list (f (suc n))) x (subst (λ (o : Option A). Contains (option_to_list o) x) (sym (ap f (sym e) ∙ is)) (Contains-push [] x))
      by rest (inr (inl l)) = Contains-append_left (found_to n f) (option_to_list (f (suc n))) x (rest (omega (arith, l)) is)
      by rest (inr (inr l)) = absurd (omega (arith, l, to))

  -- ---- what transactions give

  pub record IsGiven (g : ℕ → List A) (ts : List ℕ) (x : A) : Type 0 where
    pub txn : ℕ
    pub among : Contains ts txn
    pub gives : Contains (g txn) x

  pub given_in : (g : ℕ → List A) (ts : List ℕ) (x : A) → Contains (flat_map g ts) x → IsGiven g ts x
  given_in g [] x c = nothing_in x c
  given_in g (t ∷ ts) x c = by (given_in g ts x) (Contains-append_cases (g t) (flat_map g ts) x c)
    where
      by : (Contains (flat_map g ts) x → IsGiven g ts x) → Contains (g t) x ⊎ Contains (flat_map g ts) x → IsGiven g (t ∷ ts) x
      by rest (inl d) = record { txn = t; among = first_in t ts; gives = d }
      by rest (inr d) = let r = rest d in record { txn = r.txn; among = later_in t ts r.txn r.among; gives = r.gives }

  pub given_there : (g : ℕ → List A) (ts : List ℕ) (x : A) (t : ℕ) → Contains ts t → Contains (g t) x → Contains (flat_map g ts) x
  given_there g [] x t among gives = nothing_in t among
  given_there g (u ∷ us) x t among gives = by (λ d. given_there g us x t d gives) (in_cases u us t among)
    where
      by : (Contains us t → Contains (flat_map g us) x) → (u ≡ t) ⊎ Contains us t → Contains (flat_map g (u ∷ us)) x
      by rest (inl e) = Contains-append_left (g u) (flat_map g us) x (subst (λ k. Contains (g k) x) (sym e) gives)
      by rest (inr d) = Contains-append_right (g u) (flat_map g us) x (rest d)

  -- what one transaction more gives
  pub one_given_more : (g : ℕ → List A) (ts : List ℕ) (i t : ℕ) (so_far new : List A) → i < length ts → t ≡ get_or ts i t → so_far ≡ flat_map g (take i ts) → new ≡ so_far ++ g t → new ≡ flat_map g (take (i + 1) ts)
  one_given_more g ts i t so_far new here item are is =
      is ∙ ap (λ (xs : List A). xs ++ g t) are
      ∙ ap (λ (xs : List A). flat_map g (take i ts) ++ xs) (sym (append-nil (g t))) ∙ sym (flat_map-append g (take i ts) (t ∷ []))
      ∙ ap (flat_map g) (sym (take_more ts i t here ∙ ap (λ u. take i ts ++ u ∷ []) (sym item)))

  -- ---- their order

  module _ (R : A → A → Type 0) where
    -- each element stands before all later ones
    abbrev pub Ascends : List A → Type 0
    Ascends [] = Unit {0}
    Ascends (x ∷ xs) = AllByRecursion (R x) xs × Ascends xs

    one_ascends : (o : Option A) → Ascends (option_to_list o)
    one_ascends None = tt
    one_ascends (Some x) = (tt, tt)

    append_ascends : (xs ys : List A) → Ascends xs → Ascends ys → ((x y : A) → Contains xs x → Contains ys y → R x y) → Ascends (xs ++ ys)
    append_ascends [] ys a b across = b
    append_ascends (x ∷ xs) ys a b across = (
      all_in (R x) (xs ++ ys) (λ y c. by y (Contains-append_cases xs ys y c)),
      append_ascends xs ys a.1 b (λ y z c d. across y z (later_in x xs y c) d),
    )
      where
        by : (y : A) → Contains xs y ⊎ Contains ys y → R x y
        by y (inl c) = in_all (R x) xs a.0 y c
        by y (inr d) = across x y (first_in x xs) d

    pub found_ascends : (n : ℕ) (f : ℕ → Option A) → ((m k : ℕ) (x y : A) → m < k → f m ≡ Some x → f k ≡ Some y → R x y) → Ascends (found_to n f)
    found_ascends zero f across = tt
    found_ascends (suc n) f across =
        append_ascends (found_to n f) (option_to_list (f (suc n))) (found_ascends n f across) (one_ascends (f (suc n))) (λ x y c d. by x y (found_in n f x c) (f (suc n)) refl d)
      where
        by : (x y : A) → IsFound n f x → (o : Option A) → f (suc n) ≡ o → Contains (option_to_list o) y → R x y
        by x y r None e d = nothing_in y d
        by x y r (Some z) e d = one (in_cases z [] y d)
          where
            one : (z ≡ y) ⊎ Contains [] y → R x y
            one (inl same) = let t = r.to in across r.node (suc n) x y (omega (arith, t)) r.is (e ∙ ap Some same)
            one (inr none) = nothing_in y none

    less_is : (t u : ℕ) → nat_cmp t u ≡ Less → t < u
    less_is t u e = grind (arith, nat_tests, e)

    pub given_ascends : (g : ℕ → List A) (ts : List ℕ) → IsAscending ts → ((t : ℕ) → Ascends (g t)) → ((t u : ℕ) (x y : A) → t < u → Contains (g t) x → Contains (g u) y → R x y) → Ascends (flat_map g ts)
    unfolding IsStrictlySortedBy
    given_ascends g [] up each across = tt
    given_ascends g (t ∷ ts) up each across =
        append_ascends (g t) (flat_map g ts) (each t) (given_ascends g ts up.1 each across)
        (λ x y c d. let r = given_in g ts y d in across t r.txn x y (less_is t r.txn (in_all (λ u. nat_cmp t u ≡ Less) ts up.0 r.txn r.among)) c r.gives)

    all_at : (P : A → Type 0) (xs : List A) → AllByRecursion P xs → (i : ℕ) (d : A) → i < length xs → P (get_or xs i d)
    all_at P [] all i d h = absurd (omega (arith, h))
    all_at P (x ∷ xs) all zero d h = all.0
    all_at P (x ∷ xs) all (suc i) d h = all_at P xs all.1 i d (omega (arith, h))

    pub pairs_ascend : (xs : List A) → Ascends xs → AllPairs R xs
    pairs_ascend [] a = λ i j d l h. absurd (omega (arith, h))
    pairs_ascend (x ∷ xs) a = λ i j d l h. by (pairs_ascend xs a.1) i j d l h
      where
        by : AllPairs R xs → (i j : ℕ) (d : A) → i < j → j < length (x ∷ xs) → R (get_or (x ∷ xs) i d) (get_or (x ∷ xs) j d)
        by rest i zero d l h = absurd (omega (arith, l))
        by rest zero (suc j) d l h = all_at (R x) xs a.0 j d (omega (arith, h))
        by rest (suc i) (suc j) d l h = rest i j d (omega (arith, l)) (omega (arith, h))

-- ---- the numbers of a set

same_number : (t u : ℕ) → eq_by_cmp nat_cmp t u ≡ true → u ≡ t
same_number t u e = grind (arith, nat_tests, e)

own_number : (t : ℕ) → eq_by_cmp nat_cmp t t ≡ true
own_number t = grind (arith, nat_tests)

any_in : (ts : List ℕ) (t : ℕ) → list_any (eq_by_cmp nat_cmp t) ts ≡ true → Contains ts t
any_in [] t h = absurd (let z : false ≡ true = h in cc)
any_in (u ∷ us) t h = by (any_in us t) (or_cases (eq_by_cmp nat_cmp t u) (list_any (eq_by_cmp nat_cmp t) us) h)
  where
    by : (list_any (eq_by_cmp nat_cmp t) us ≡ true → Contains us t) → (eq_by_cmp nat_cmp t u ≡ true) ⊎ (list_any (eq_by_cmp nat_cmp t) us ≡ true) → Contains (u ∷ us) t
    by rest (inl e) = subst (λ k. Contains (k ∷ us) t) (sym (same_number t u e)) (first_in t us)
    by rest (inr e) = later_in u us t (rest e)

in_any : (ts : List ℕ) (t : ℕ) → Contains ts t → list_any (eq_by_cmp nat_cmp t) ts ≡ true
in_any [] t c = nothing_in t c
in_any (u ∷ us) t c = by (in_any us t) (in_cases u us t c)
  where
    left : (a b : Bool) → a ≡ true → (a || b) ≡ true
    left true b e = refl
    left false b e = absurd (let z : false ≡ true = e in cc)

    right : (a b : Bool) → b ≡ true → (a || b) ≡ true
    right true b e = refl
    right false b e = e

    by : (Contains us t → list_any (eq_by_cmp nat_cmp t) us ≡ true) → (u ≡ t) ⊎ Contains us t → (eq_by_cmp nat_cmp t u || list_any (eq_by_cmp nat_cmp t) us) ≡ true
    by rest (inl e) = left (eq_by_cmp nat_cmp t u) _ (ap (eq_by_cmp nat_cmp t) e ∙ own_number t)
    by rest (inr d) = right (eq_by_cmp nat_cmp t u) _ (rest d)

pub key_in : (numbers : Numbers) (t : ℕ) → holds numbers t ≡ true → Contains (keys numbers) t
key_in numbers t h = any_in (keys numbers) t (sym (contains_key-keys numbers t) ∙ h)

pub in_key : (numbers : Numbers) (t : ℕ) → Contains (keys numbers) t → holds numbers t ≡ true
in_key numbers t c = contains_key-keys numbers t ∙ in_any (keys numbers) t c
