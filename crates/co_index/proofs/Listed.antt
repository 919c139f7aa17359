-- Keys among others, and those of the entries of a table.
use Rattle.std.proofs.Common.{◌≡◌, T, ℕ, Bool, true, false, cond, ◌&&◌, ◌||◌, List, [], ◌∷◌, ◌++◌, map, filter, Option, None, Some, refl, sym, ap, ◌∙◌}
use Rattle.std.specs.Ordering.{is_eq}
use Rattle.std.specs.declared.cmp.Ordering.TheVariants.{Equal}
use Rattle.std.specs.FinMap.{slice_cmp-IsAntisymmetric, nat_cmp-IsAntisymmetric}
use Rattle.std.specs.FinMap.Entries.{find, below_all, is_sorted, find-where_key, is_sorted-where_key}
use Rattle.co_base.specs.Order.{key_cmp}
use Rattle.co_base.specs.Span.{Span, span_has}
use Rattle.co_state.specs.Keys.{same_key}
use Rattle.co_index.specs.Listed.{has_key, keys_that}
use Rattle.co_pairs.proofs.Picking.{passes, first, second}
use Rattle.co_index.proofs.Keys.{tied, swapped}
use Rattle.co_state.proofs.Ties.{less}

and-false : (b : Bool) → (b && false) ≡ false
and-false true = refl
and-false false = refl

or_assoc : (a b c : Bool) → (a || (b || c)) ≡ ((a || b) || c)
or_assoc true b c = refl
or_assoc false b c = refl

pub either : (a b c : Bool) → ((a && c) || (b && c)) ≡ ((a || b) && c)
either true true true = refl
either true true false = refl
either true false true = refl
either true false false = refl
either false b c = refl

pub has-append : (xs ys : List (List ℕ)) (k : List ℕ) → has_key (xs ++ ys) k ≡ (has_key xs k || has_key ys k)
has-append [] ys k = refl
has-append (x ∷ xs) ys k = ap (λ b. same_key x k || b) (has-append xs ys k) ∙ or_assoc (same_key x k) (has_key xs k) (has_key ys k)

filter_step : (span : Span) (x k : List ℕ) (whole : Bool) (xs : List (List ℕ)) (b c : Bool) → span_has span x ≡ b → same_key x k ≡ c → has_key xs k ≡ (span_has span k && whole)
    → has_key (cond b (x ∷ xs) xs) k ≡ (span_has span k && (c || whole))
filter_step span x k whole xs true true e f h = ap (λ c. c || has_key xs k) f ∙ sym (ap (λ b. b && true) (ap (span_has span) (sym (tied x k f)) ∙ e))
filter_step span x k whole xs true false e f h = ap (λ c. c || has_key xs k) f ∙ h
filter_step span x k whole xs false true e f h = h ∙ ap (λ b. b && whole) (ap (span_has span) (sym (tied x k f)) ∙ e) ∙ sym (ap (λ b. b && true) (ap (span_has span) (sym (tied x k f)) ∙ e))
filter_step span x k whole xs false false e f h = h

pub has-filter : (span : Span) (xs : List (List ℕ)) (k : List ℕ) → has_key (filter (span_has span) xs) k ≡ (span_has span k && has_key xs k)
has-filter span [] k = sym (and-false (span_has span k))
has-filter span (x ∷ xs) k = filter_step span x k (has_key xs k) (filter (span_has span) xs) (span_has span x) (same_key x k) refl refl (has-filter span xs k)

-- ---- the entries of a range
pub key-below : {X : Type 0} (q : List ℕ) (es : List (List ℕ × X)) → T (below_all key_cmp q es) → find key_cmp q es ≡ None
key-below q [] h = refl
key-below q (e ∷ es) h = ap (λ r. cond (is_eq r) (Some e.1) (find key_cmp q es)) (less _ (first _ _ h)) ∙ key-below q es (second _ _ h)

alike : (span : Span) (q x : List ℕ) → key_cmp q x ≡ Equal → span_has span x ≡ span_has span q
alike span q x e = ap (span_has span) (sym (slice_cmp-IsAntisymmetric nat_cmp-IsAntisymmetric q x e))

pub find-within : {X : Type 0} (span : Span) (q : List ℕ) (es : List (List ℕ × X)) → find key_cmp q (filter (λ e. span_has span e.0) es) ≡ cond (span_has span q) (find key_cmp q es) None
find-within span q es = find-where_key key_cmp (span_has span) q (alike span q) es

pub sorted-within : {X : Type 0} (span : Span) (es : List (List ℕ × X)) → T (is_sorted key_cmp es) → T (is_sorted key_cmp (filter (λ e. span_has span e.0) es))
sorted-within span es h = is_sorted-where_key key_cmp (span_has span) es h

-- ---- the keys of those that pass a test
module _ {X : Type 0} (test : X → Bool) where
  that_step : (e : List ℕ × X) (es : List (List ℕ × X)) (k : List ℕ) (b c : Bool) → test e.1 ≡ b → same_key k e.0 ≡ c → (c ≡ true → find key_cmp k es ≡ None)
      → has_key (keys_that test es) k ≡ passes test (find key_cmp k es)
      → has_key (map (λ x. x.0) (cond b (e ∷ filter (λ x. test x.1) es) (filter (λ x. test x.1) es))) k ≡ passes test (cond c (Some e.1) (find key_cmp k es))
  that_step e es k true true f g none rest = ap (λ c. c || has_key (keys_that test es) k) (swapped e.0 k ∙ g) ∙ sym f
  that_step e es k true false f g none rest = ap (λ c. c || has_key (keys_that test es) k) (swapped e.0 k ∙ g) ∙ rest
  that_step e es k false true f g none rest = rest ∙ ap (passes test) (none refl) ∙ sym f
  that_step e es k false false f g none rest = rest

  pub has-that : (es : List (List ℕ × X)) (k : List ℕ) → T (is_sorted key_cmp es) → has_key (keys_that test es) k ≡ passes test (find key_cmp k es)
  has-that [] k h = refl
  has-that (e ∷ es) k h =
      that_step e es k (test e.1) (same_key k e.0) refl refl (λ t. ap (λ q. find key_cmp q es) (tied k e.0 t) ∙ key-below e.0 es (first _ _ h)) (has-that es k (second _ _ h))

  passes_cond : (b : Bool) (o : Option X) → passes test (cond b o None) ≡ (b && passes test o)
  passes_cond true o = refl
  passes_cond false o = refl

  pub has-that-within : (span : Span) (es : List (List ℕ × X)) (k : List ℕ) → T (is_sorted key_cmp es)
      → has_key (keys_that test (filter (λ e. span_has span e.0) es)) k ≡ (span_has span k && passes test (find key_cmp k es))
  has-that-within span es k h =
      has-that (filter (λ e. span_has span e.0) es) k (sorted-within span es h) ∙ ap (passes test) (find-within span k es) ∙ passes_cond (span_has span k) (find key_cmp k es)
