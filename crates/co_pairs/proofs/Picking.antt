-- Entries that are picked out by their numbers and what stands there.
use Rattle.std.proofs.Common.{◌≡◌, T, ℕ, Bool, true, false, cond, List, [], ◌∷◌, if◌then◌else◌, Option, None, Some, refl, sym, ap, ◌∙◌, subst, eqb→eq, eq-eqb}
use Rattle.std.specs.Prelude.{◌==◌}
use Rattle.std.specs.Ordering.{nat_cmp, eq_by_cmp, is_lt}
use Rattle.std.specs.Cmp.{nat_cmp_total, both_ways, eq_by_cmp_equiv}
use Rattle.std.specs.FinMap.{nat_cmp-IsAntisymmetric}
use Rattle.std.specs.FinMap.Entries.{find, below_all, is_sorted, same_entries}
use Rattle.co_state.specs.Table.{first_in}
pub use Rattle.co_state.proofs.Ties.{both, first, second, tied}
use Rattle.co_state.proofs.Ties.{nothing_below}

-- numbers that tie are equal
pub ties : (u t : ℕ) → eq_by_cmp nat_cmp u t ≡ (t == u)
ties u t = both_ways _ _
    (λ e. eq-eqb t u (sym (tied u t e)))
    (λ e. subst (λ k. eq_by_cmp nat_cmp u k ≡ true) (sym (eqb→eq t u (subst T (sym e) tt))) ((eq_by_cmp_equiv nat_cmp_total).refl u))

pub apart_tie : (t u : ℕ) → (t == u) ≡ false → eq_by_cmp nat_cmp u t ≡ false
apart_tie t u e = ties u t ∙ e

pub itself : (t : ℕ) → eq_by_cmp nat_cmp t t ≡ true
itself t = ties t t ∙ eq-eqb t t refl

-- a test of an entry, if there is one
abbrev pub passes : {X : Type 0} → (X → Bool) → Option X → Bool
passes test None = false
passes test (Some x) = test x

-- what is picked of an entry, if there is one
abbrev pub pick_in : {X Y : Type 0} → (ℕ → X → Option Y) → ℕ → Option X → Option Y
pick_in pick q None = None
pick_in pick q (Some x) = pick q x

abbrev pub with_picked : {Y : Type 0} → ℕ → Option Y → List (ℕ × Y) → List (ℕ × Y)
with_picked k None ys = ys
with_picked k (Some y) ys = (k, y) ∷ ys

abbrev pub picked : {X Y : Type 0} → (ℕ → X → Option Y) → List (ℕ × X) → List (ℕ × Y)
picked pick [] = []
picked pick (e ∷ es) = with_picked e.0 (pick e.0 e.1) (picked pick es)

below-with : {Y : Type 0} (k j : ℕ) (o : Option Y) (ys : List (ℕ × Y)) → T (is_lt (nat_cmp k j)) → T (below_all nat_cmp k ys) → T (below_all nat_cmp k (with_picked j o ys))
below-with k j None ys l h = h
below-with k j (Some y) ys l h = both _ _ l h

below-picked : {X Y : Type 0} (pick : ℕ → X → Option Y) (k : ℕ) (es : List (ℕ × X)) → T (below_all nat_cmp k es) → T (below_all nat_cmp k (picked pick es))
below-picked pick k [] h = tt
below-picked pick k (e ∷ es) h = below-with k e.0 (pick e.0 e.1) (picked pick es) (first _ _ h) (below-picked pick k es (second _ _ h))

sorted-with : {Y : Type 0} (k : ℕ) (o : Option Y) (ys : List (ℕ × Y)) → T (below_all nat_cmp k ys) → T (is_sorted nat_cmp ys) → T (is_sorted nat_cmp (with_picked k o ys))
sorted-with k None ys b h = h
sorted-with k (Some y) ys b h = both _ _ b h

sorted-picked : {X Y : Type 0} (pick : ℕ → X → Option Y) (es : List (ℕ × X)) → T (is_sorted nat_cmp es) → T (is_sorted nat_cmp (picked pick es))
sorted-picked pick [] h = tt
sorted-picked pick (e ∷ es) h = sorted-with e.0 (pick e.0 e.1) (picked pick es) (below-picked pick e.0 es (first _ _ h)) (sorted-picked pick es (second _ _ h))

find-with : {X Y : Type 0} (pick : ℕ → X → Option Y) (q k : ℕ) (x : X) (found : Option X) (ys : List (ℕ × Y)) → (b : Bool) → eq_by_cmp nat_cmp q k ≡ b → (eq_by_cmp nat_cmp q k ≡ true → found ≡ None)
    → find nat_cmp q ys ≡ pick_in pick q found → (o : Option Y) → pick k x ≡ o → find nat_cmp q (with_picked k o ys) ≡ pick_in pick q (cond b (Some x) found)
find-with pick q k x found ys true t none is None e = is ∙ ap (pick_in pick q) (none t) ∙ sym (ap (λ j. pick j x) (tied q k t) ∙ e)
find-with pick q k x found ys false t none is None e = is
find-with pick q k x found ys true t none is (Some y) e = ap (λ b. cond b (Some y) (find nat_cmp q ys)) t ∙ sym (ap (λ j. pick j x) (tied q k t) ∙ e)
find-with pick q k x found ys false t none is (Some y) e = ap (λ b. cond b (Some y) (find nat_cmp q ys)) t ∙ is

-- what is found among the picked ones is what was picked of what was found
find-picked : {X Y : Type 0} (pick : ℕ → X → Option Y) (q : ℕ) (es : List (ℕ × X)) → T (is_sorted nat_cmp es) → find nat_cmp q (picked pick es) ≡ pick_in pick q (find nat_cmp q es)
find-picked pick q [] h = refl
find-picked pick q (e ∷ es) h =
    find-with pick q e.0 e.1 (find nat_cmp q es) (picked pick es) (eq_by_cmp nat_cmp q e.0) refl
    (λ t. nothing_below nat_cmp q es (subst (λ k. T (below_all nat_cmp k es)) (sym (tied q e.0 t)) (first _ _ h)))
    (find-picked pick q es (second _ _ h)) (pick e.0 e.1) refl

first-with : {Y : Type 0} (test : ℕ → Y → Bool) (k : ℕ) (o : Option Y) (found : Option ℕ) (ys : List (ℕ × Y)) → found ≡ first_in test ys
    → (if passes (test k) o then Some k else found) ≡ first_in test (with_picked k o ys)
first-with test k None found ys is = is
first-with test k (Some y) found ys is = ap (λ r. if test k y then Some k else r) is

-- the first one that passes is the first picked one that passes
pub first-picked : {X Y : Type 0} (pick : ℕ → X → Option Y) (test : ℕ → Y → Bool) (es : List (ℕ × X)) → first_in (λ u x. passes (test u) (pick u x)) es ≡ first_in test (picked pick es)
first-picked pick test [] = refl
first-picked pick test (e ∷ es) = first-with test e.0 (pick e.0 e.1) (first_in (λ u x. passes (test u) (pick u x)) es) (picked pick es) (first-picked pick test es)

-- two lists of entries from which the same is picked at each number
pub same_picked : {X Y Z : Type 0} (f : ℕ → X → Option Z) (g : ℕ → Y → Option Z) (es : List (ℕ × X)) (fs : List (ℕ × Y)) → T (is_sorted nat_cmp es) → T (is_sorted nat_cmp fs)
    → ((q : ℕ) → pick_in f q (find nat_cmp q es) ≡ pick_in g q (find nat_cmp q fs)) → picked f es ≡ picked g fs
same_picked f g es fs s t is =
    same_entries nat_cmp nat_cmp_total nat_cmp-IsAntisymmetric (picked f es) (picked g fs) (sorted-picked f es s) (sorted-picked g fs t)
    (λ q. find-picked f q es s ∙ is q ∙ sym (find-picked g q fs t))
