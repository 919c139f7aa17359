-- Truth tables, and keys and numbers that tie: what every table and map is reasoned with.
use Rattle.std.proofs.Common.{◌≡◌, T, ℕ, Bool, true, false, cond, ◌&&◌, ◌||◌, List, [], ◌∷◌, None, Some, refl, sym, ap, ◌∙◌, subst, true≢false}
use Rattle.std.specs.Ordering.{nat_cmp, eq_by_cmp, is_eq, is_lt}
use Rattle.std.specs.declared.cmp.Ordering.{Ordering}
use Rattle.std.specs.declared.cmp.Ordering.TheVariants.{Less, Equal, Greater}
use Rattle.std.specs.Cmp.{nat_cmp_total, eq_by_cmp_equiv}
use Rattle.std.proofs.lemmas.Cmp.{nat_list_cmp_total}
use Rattle.std.specs.FinMap.{slice_cmp-IsAntisymmetric, nat_cmp-IsAntisymmetric}
use Rattle.std.specs.FinMap.Entries.{find, below_all}
use Rattle.co_base.specs.Order.{key_cmp}

-- ---- truth tables
pub both : (a b : Bool) → T a → T b → T (a && b)
both true b p q = q
both false b p q = p

pub first : (a b : Bool) → T (a && b) → T a
first true b p = tt
first false b p = p

pub second : (a b : Bool) → T (a && b) → T b
second true b p = p
second false b p = absurd p

pub left_true : (a b : Bool) → (a && b) ≡ true → a ≡ true
left_true true b e = refl
left_true false b e = e

pub right_true : (a b : Bool) → (a && b) ≡ true → b ≡ true
right_true true b e = e
right_true false b e = absurd (true≢false (sym e))

pub and_false : (b : Bool) → (b && false) ≡ false
and_false true = refl
and_false false = refl

pub or_true : (b : Bool) → (b || true) ≡ true
or_true true = refl
or_true false = refl

-- ---- orderings
pub less : (r : Ordering) → T (is_lt r) → r ≡ Less
less Less p = refl
less Equal p = absurd p
less Greater p = absurd p

pub tie : (r : Ordering) → is_eq r ≡ true → r ≡ Equal
tie Less e = absurd (subst T (sym e) tt)
tie Equal e = refl
tie Greater e = absurd (subst T (sym e) tt)

-- ---- numbers
pub tied : (q k : ℕ) → eq_by_cmp nat_cmp q k ≡ true → q ≡ k
tied q k e = nat_cmp-IsAntisymmetric q k (tie (nat_cmp q k) e)

pub ties-itself : (q : ℕ) → eq_by_cmp nat_cmp q q ≡ true
ties-itself q = (eq_by_cmp_equiv nat_cmp_total).refl q

-- ---- keys
abbrev pub key_ties : List ℕ → List ℕ → Bool
key_ties = eq_by_cmp key_cmp

pub tied_keys : (q k : List ℕ) → key_ties q k ≡ true → q ≡ k
tied_keys q k e = slice_cmp-IsAntisymmetric nat_cmp-IsAntisymmetric q k (tie (key_cmp q k) e)

pub key_ties-itself : (q : List ℕ) → key_ties q q ≡ true
key_ties-itself q = (eq_by_cmp_equiv nat_list_cmp_total).refl q

pub key_ties-swap : (q k : List ℕ) → key_ties q k ≡ key_ties k q
key_ties-swap q k = (eq_by_cmp_equiv nat_list_cmp_total).symm q k

-- ---- what is below all entries is in none
pub nothing_below : {K X : Type 0} (cmp : K → K → Ordering) (q : K) (es : List (K × X)) → T (below_all cmp q es) → find cmp q es ≡ None
nothing_below cmp q [] h = refl
nothing_below cmp q (e ∷ es) h = ap (λ r. cond (is_eq r) (Some e.1) (find cmp q es)) (less _ (first _ _ h)) ∙ nothing_below cmp q es (second _ _ h)
