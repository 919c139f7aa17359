-- A list of entries read as a table.
use Rattle.std.proofs.Common.{◌≡◌, ℕ, Bool, true, false, ◌||◌, cond, is_some, true≢false, ◌++◌, List, [], ◌∷◌, Option, None, Some, nat_eq, refl, sym, ap, ◌∙◌}
use Rattle.std.specs.FinMap.{from_entries, get-from_entries, get-insert, same_map, nat_cmp-IsAntisymmetric, find}
use Rattle.std.specs.Ordering.{nat_cmp, eq_by_cmp}
use Rattle.std.specs.Map.{lookup, keys_of}
use Rattle.std.proofs.lemmas.Cmp.{nat_cmp_total}
use Rattle.co_state.specs.Table.{look, put}
use Rattle.co_state.proofs.Tables.{same_test, swap_test}

module _ {X : Type 0} where
  found : (es : List (ℕ × X)) (t : ℕ) → find nat_cmp t es ≡ lookup (nat_eq t) es
  found [] t = refl
  found (e ∷ es) t =
      ap (cond (eq_by_cmp nat_cmp t e.0) (Some e.1)) (found es t)
      ∙ ap (λ b. cond b (Some e.1) (lookup (nat_eq t) es)) (same_test t e.0)

  -- the table has at each number what the first entry of that number has
  pub looked : (es : List (ℕ × X)) (t : ℕ) → look (from_entries {R = nat_cmp} es) t ≡ lookup (nat_eq t) es
  looked es t = get-from_entries nat_cmp_total es t ∙ found es t

  -- entries in which one number has another value, as a change of the table
  pub rewritten : (es fs : List (ℕ × X)) (k : ℕ) (w : X)
      → ((q : ℕ) → lookup (nat_eq q) fs ≡ cond (nat_eq k q) (Some w) (lookup (nat_eq q) es))
      → from_entries {R = nat_cmp} fs ≡ put (from_entries {R = nat_cmp} es) k w
  rewritten es fs k w says =
      same_map nat_cmp_total nat_cmp-IsAntisymmetric (from_entries fs) (put (from_entries es) k w)
      (λ q. looked fs q ∙ says q ∙ ap (λ b. cond b (Some w) (lookup (nat_eq q) es)) (swap_test k q)
      ∙ ap (cond (nat_eq q k) (Some w)) (sym (looked es q))
      ∙ ap (λ b. cond b (Some w) (look (from_entries {R = nat_cmp} es) q)) (sym (same_test q k))
      ∙ sym (get-insert nat_cmp_total (from_entries es) k w q))

pub none_from : {X : Type 0} {o : Option X} → is_some o ≡ false → o ≡ None
none_from {o = None} e = refl
none_from {o = Some x} e = absurd (true≢false e)

pub unused_absent : (a b : Bool) → (a || b) ≡ false → a ≡ false
unused_absent true b e = absurd (true≢false e)
unused_absent false b e = refl

pub keys_more : {X : Type 0} (es : List (ℕ × X)) (k : ℕ) (v : X) → keys_of (es ++ (k, v) ∷ []) ≡ keys_of es ++ k ∷ []
keys_more [] k v = refl
keys_more (e ∷ es) k v = ap (λ ks. e.0 ∷ ks) (keys_more es k v)
