-- Whether some vote passes a test.
use Rattle.std.proofs.Common.{◌≡◌, ℕ, ◌<◌, Bool, true, false, cond, ◌&&◌, T, List, [], ◌∷◌, None, Some, refl, sym, ap, ◌∙◌, if◌then◌else◌, true≢false, arith}
use Rattle.std.specs.Prelude.{is_none}
use Rattle.std.proofs.lemmas.Bool.{eqb-true, eq-eqb}
use Rattle.std.proofs.lemmas.Bool.Decides.{nat_tests}
use Rattle.std.specs.Ordering.{nat_cmp, eq_by_cmp, is_lt}
use Rattle.std.specs.FinMap.{entries, entries_sorted, get-entries}
use Rattle.std.specs.FinMap.Entries.{find, is_sorted, below_all}
use Rattle.co_state.specs.Table.{Table, look, first_in, least_where}
use Rattle.co_state.proofs.Tables.{same_test}

same_number : (u k : ℕ) → eq_by_cmp nat_cmp u k ≡ true → u ≡ k
same_number u k e = eqb-true u k (sym (same_test u k) ∙ e)

own_number : (u : ℕ) → eq_by_cmp nat_cmp u u ≡ true
own_number u = same_test u u ∙ eq-eqb u u refl

left_true : (a b : Bool) → T (a && b) → a ≡ true
left_true true b h = refl
left_true false b h = absurd h

left_T : (a b : Bool) → T (a && b) → T a
left_T true b h = tt
left_T false b h = absurd h

right_T : (a b : Bool) → T (a && b) → T b
right_T true b h = h
right_T false b h = absurd h

in_some : {A : Type 0} (x y : A) → Some x ≡ Some y → x ≡ y
in_some x y e = cc

below_found : {X : Type 0} (k : ℕ) (es : List (ℕ × X)) (u : ℕ) (x : X) → T (below_all nat_cmp k es) → find nat_cmp u es ≡ Some x → k < u
below_found k [] u x b f = absurd (let q : None ≡ Some x = f in cc)
below_found {X} k (e ∷ es) u x b f = by (below_found k es u x) (eq_by_cmp nat_cmp u e.0) refl
  where
    by : (T (below_all nat_cmp k es) → find nat_cmp u es ≡ Some x → k < u) → (c : Bool) → eq_by_cmp nat_cmp u e.0 ≡ c → k < u
    by rest true g =
        let h : is_lt (nat_cmp k e.0) ≡ true = left_true (is_lt (nat_cmp k e.0)) (below_all nat_cmp k es) b in
        grind (arith, nat_tests, h, same_number u e.0 g)
    by rest false g = rest (right_T (is_lt (nat_cmp k e.0)) (below_all nat_cmp k es) b) (sym (ap (λ c. cond c (Some e.1) (find nat_cmp u es)) g) ∙ f)

-- no entry passes a test that each found one fails
none_passes : {X : Type 0} (test : ℕ → X → Bool) (es : List (ℕ × X)) → T (is_sorted nat_cmp es) → ((u : ℕ) (x : X) → find nat_cmp u es ≡ Some x → test u x ≡ false) → first_in test es ≡ None
none_passes test [] s h = refl
none_passes {X} test (e ∷ es) s h =
    ap (λ b. cond b (Some e.0) (first_in test es)) (h e.0 e.1 (ap (λ c. cond c (Some e.1) (find nat_cmp e.0 es)) (own_number e.0)))
    ∙ none_passes test es (right_T (below_all nat_cmp e.0 es) (is_sorted nat_cmp es) s)
    (λ u x f. h u x (ap (λ c. cond c (Some e.1) (find nat_cmp u es)) (other u (below_found e.0 es u x (left_T (below_all nat_cmp e.0 es) (is_sorted nat_cmp es) s) f)) ∙ f))
  where
    other : (u : ℕ) → e.0 < u → eq_by_cmp nat_cmp u e.0 ≡ false
    other u l = grind (arith, nat_tests, l)

pub none_where : {X : Type 0} (test : ℕ → X → Bool) (table : Table X) → ((u : ℕ) (x : X) → look table u ≡ Some x → test u x ≡ false) → least_where test table ≡ None
none_where test table h = none_passes test (entries table) (entries_sorted table) (λ u x f. h u x (get-entries table u ∙ f))

-- some entry passes a test that one which is found passes
some_passes : {X : Type 0} (test : ℕ → X → Bool) (es : List (ℕ × X)) (u : ℕ) (x : X) → find nat_cmp u es ≡ Some x → test u x ≡ true → is_none (first_in test es) ≡ false
some_passes test [] u x f h = absurd (let q : None ≡ Some x = f in cc)
some_passes {X} test (e ∷ es) u x f h = by (test e.0 e.1) refl (some_passes test es u x)
  where
    past : (c : Bool) → eq_by_cmp nat_cmp u e.0 ≡ c → test e.0 e.1 ≡ false → find nat_cmp u es ≡ Some x
    past true g off = absurd (true≢false (sym h ∙ ap (λ v. test v x) (same_number u e.0 g) ∙ ap (test e.0) (sym (in_some e.1 x (sym (ap (λ c. cond c (Some e.1) (find nat_cmp u es)) g) ∙ f))) ∙ off))
    past false g off = sym (ap (λ c. cond c (Some e.1) (find nat_cmp u es)) g) ∙ f

    by : (b : Bool) → test e.0 e.1 ≡ b → (find nat_cmp u es ≡ Some x → test u x ≡ true → is_none (first_in test es) ≡ false) → is_none (if b then Some e.0 else first_in test es) ≡ false
    by true g rest = refl
    by false g rest = rest (past (eq_by_cmp nat_cmp u e.0) refl g) h

pub some_where : {X : Type 0} (test : ℕ → X → Bool) (table : Table X) (u : ℕ) (x : X) → look table u ≡ Some x → test u x ≡ true → is_none (least_where test table) ≡ false
some_where test table u x is h = some_passes test (entries table) u x (sym (get-entries table u) ∙ is) h
