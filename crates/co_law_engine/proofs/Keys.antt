-- Keys, and records under changes.
use Rattle.std.proofs.Common.{◌≡◌, ℕ, Bool, true, false, ◌||◌, if◌then◌else◌, List, [], ◌∷◌, Option, None, Some, refl, sym, ap, ◌∙◌}
use Rattle.std.specs.Ordering.{is_eq}
use Rattle.std.specs.declared.cmp.Ordering.{Ordering}
use Rattle.std.specs.declared.cmp.Ordering.TheVariants.{Less, Equal, Greater}
use Rattle.std.specs.Cmp.{eq_by_cmp_equiv}
use Rattle.std.proofs.lemmas.Cmp.{nat_list_cmp_total}
use Rattle.std.proofs.lemmas.Bool.{or_parts}
use Rattle.std.specs.FinMap.{get, get-insert, get-remove, slice_cmp-IsAntisymmetric, nat_cmp-IsAntisymmetric}
use Rattle.co_base.specs.Order.{key_cmp}
use Rattle.co_base.specs.declared.written.Written.{Written}
use Rattle.co_serial.specs.Records.{Records, with_change, with_changes}
use Rattle.co_state.specs.Keys.{same_key, writes_key}

equal_is : (r : Ordering) → is_eq r ≡ true → r ≡ Equal
equal_is Less h = absurd (let q : false ≡ true = h in cc)
equal_is Equal h = refl
equal_is Greater h = absurd (let q : false ≡ true = h in cc)

pub same_key_refl : (k : List ℕ) → same_key k k ≡ true
same_key_refl k = (eq_by_cmp_equiv nat_list_cmp_total).refl k

pub own_order : (k : List ℕ) → key_cmp k k ≡ Equal
own_order k = equal_is (key_cmp k k) (same_key_refl k)

pub same_key_sym : (a b : List ℕ) → same_key a b ≡ same_key b a
same_key_sym a b = (eq_by_cmp_equiv nat_list_cmp_total).symm a b

pub same_key_is : (a b : List ℕ) → same_key a b ≡ true → a ≡ b
same_key_is a b h = slice_cmp-IsAntisymmetric nat_cmp-IsAntisymmetric a b (equal_is (key_cmp a b) h)

pub equal_keys : (a b : List ℕ) → key_cmp a b ≡ Equal → a ≡ b
equal_keys a b h = slice_cmp-IsAntisymmetric nat_cmp-IsAntisymmetric a b h

pub get-change : (r : Records) (key : List ℕ) (v : Option (List ℕ)) (q : List ℕ) → get (with_change r key v) q ≡ (if same_key q key then v else get r q)
get-change r key None q = get-remove nat_list_cmp_total r key q
get-change r key (Some v) q = get-insert nat_list_cmp_total r key v q

chosen : {A : Type 0} (b : Bool) (x y z : A) → y ≡ z → (if b then x else y) ≡ (if b then x else z)
chosen true x y z e = refl
chosen false x y z e = e

-- changes keep agreement at a key
pub changes_agree : (ws : List Written) (r s : Records) (q : List ℕ) → get r q ≡ get s q → get (with_changes r ws) q ≡ get (with_changes s ws) q
changes_agree [] r s q e = e
changes_agree (w ∷ ws) r s q e =
    changes_agree ws (with_change r w.key w.value) (with_change s w.key w.value) q
    (get-change r w.key w.value q ∙ chosen (same_key q w.key) w.value (get r q) (get s q) e ∙ sym (get-change s w.key w.value q))

-- a key that is not changed keeps its value
pub unchanged : (ws : List Written) (r : Records) (q : List ℕ) → writes_key ws q ≡ false → get (with_changes r ws) q ≡ get r q
unchanged [] r q h = refl
unchanged (w ∷ ws) r q h =
    let p = or_parts (same_key w.key q) (writes_key ws q) h in
    unchanged ws (with_change r w.key w.value) q p.1
    ∙ get-change r w.key w.value q ∙ ap (λ b. if b then w.value else get r q) (same_key_sym q w.key ∙ p.0)

-- a key that is changed has the same value whatever the records were
pub overlaid : (ws : List Written) (r s : Records) (q : List ℕ) → writes_key ws q ≡ true → get (with_changes r ws) q ≡ get (with_changes s ws) q
overlaid [] r s q h = absurd (let f : false ≡ true = h in cc)
overlaid (w ∷ ws) r s q h = by (overlaid ws (with_change r w.key w.value) (with_change s w.key w.value) q) (same_key w.key q) refl
  where
    by : (writes_key ws q ≡ true → get (with_changes (with_change r w.key w.value) ws) q ≡ get (with_changes (with_change s w.key w.value) ws) q) → (b : Bool) → same_key w.key q ≡ b → get (with_changes r (w ∷ ws)) q ≡ get (with_changes s (w ∷ ws)) q
    by rest true e =
        let f : same_key q w.key ≡ true = same_key_sym q w.key ∙ e in
        changes_agree ws (with_change r w.key w.value) (with_change s w.key w.value) q
        (get-change r w.key w.value q ∙ ap (λ b. if b then w.value else get r q) f ∙ sym (get-change s w.key w.value q ∙ ap (λ b. if b then w.value else get s q) f))
    by rest false e = rest (sym (ap (λ b. b || writes_key ws q) e) ∙ h)
