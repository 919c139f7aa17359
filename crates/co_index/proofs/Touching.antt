-- Who touches a key after each change of who touches which keys.
use Rattle.std.proofs.Common.{◌≡◌, T, ℕ, Bool, true, false, cond, List, [], ◌∷◌, length, suc, if◌then◌else◌, Option, None, Some, refl, sym, ap, ◌∙◌, subst, true≢false, eqb→eq, arith}
use Rattle.std.specs.Prelude.{◌==◌}
use Rattle.std.specs.Ordering.{nat_cmp, eq_by_cmp}
use Rattle.std.proofs.lemmas.Cmp.{nat_list_cmp_total}
use Rattle.std.specs.FinMap.{entries, get, insert, remove, get-entries, get-empty, get-insert, get-remove}
use Rattle.std.specs.FinMap.Entries.{find}
use Rattle.co_state.specs.Table.{Table, no_entries, look, put, without}
use Rattle.co_state.proofs.Tables.{look-put, look-without}
use Rattle.co_state.proofs.Ties.{ties-itself, tied}
use Rattle.co_index.specs.Touching.{Touches, or_nobody, touch_at, with_touch, without_in, without_touch, is_nobody, settled, marked_from, marked, marked_in, with_mark}
use Rattle.co_index.proofs.Keys as key

-- a number ties with another one
abbrev pub same_txn : ℕ → ℕ → Bool
same_txn = eq_by_cmp nat_cmp

both_alike : {A : Type 0} (b : Bool) (x : A) → cond b x x ≡ x
both_alike true x = refl
both_alike false x = refl

module _ {X : Type 0} where
  pub nobody_at : (u : ℕ) → look (no_entries {X = X}) u ≡ None
  nobody_at u = get-empty nat_cmp u

  -- ---- one touch more
  got-touch : (m : Touches X) (k : List ℕ) (tab : Table X) (q : List ℕ) → get (insert (remove m k) k tab) q ≡ cond (key.ties q k) (Some tab) (cond (key.ties q k) None (get m q))
  got-touch m k tab q = get-insert nat_list_cmp_total (remove m k) k tab q ∙ ap (cond (key.ties q k) (Some tab)) (get-remove nat_list_cmp_total m k q)

  touched_in : (m : Touches X) (k : List ℕ) (t : ℕ) (mark : X) (q : List ℕ) (u : ℕ) (b : Bool) → key.ties q k ≡ b
      → look (or_nobody (cond b (Some (put (or_nobody (get m k)) t mark)) (cond b None (get m q)))) u ≡ cond b (cond (same_txn u t) (Some mark) (touch_at m q u)) (touch_at m q u)
  touched_in m k t mark q u true e = look-put (or_nobody (get m k)) t mark u ∙ ap (λ j. cond (same_txn u t) (Some mark) (touch_at m j u)) (sym (key.tied q k e))
  touched_in m k t mark q u false e = refl

  pub touched : (m : Touches X) (k : List ℕ) (t : ℕ) (mark : X) (q : List ℕ) (u : ℕ)
      → touch_at (with_touch m k t mark) q u ≡ cond (key.ties q k) (cond (same_txn u t) (Some mark) (touch_at m q u)) (touch_at m q u)
  touched m k t mark q u = ap (λ o. look (or_nobody o) u) (got-touch m k (put (or_nobody (get m k)) t mark) q) ∙ touched_in m k t mark q u (key.ties q k) refl

  -- ---- one touch less
  left_in : (m : Touches X) (k : List ℕ) (t : ℕ) (q : List ℕ) (u : ℕ) (tab : Table X) → get m k ≡ Some tab → (b : Bool) → key.ties q k ≡ b
      → look (or_nobody (cond b (Some (without tab t)) (get m q))) u ≡ cond b (cond (same_txn u t) None (touch_at m q u)) (touch_at m q u)
  left_in m k t q u tab g true e = look-without tab t u ∙ ap (λ o. cond (same_txn u t) None (look (or_nobody o) u)) (sym (ap (get m) (key.tied q k e) ∙ g))
  left_in m k t q u tab g false e = refl

  none_in : (m : Touches X) (k : List ℕ) (t : ℕ) (q : List ℕ) (u : ℕ) → get m k ≡ None → (b : Bool) → key.ties q k ≡ b → touch_at m q u ≡ cond b (cond (same_txn u t) None (touch_at m q u)) (touch_at m q u)
  none_in m k t q u g true e =
      let none : touch_at m q u ≡ None = ap (λ o. look (or_nobody o) u) (ap (get m) (key.tied q k e) ∙ g) ∙ nobody_at u in
      none ∙ sym (both_alike (same_txn u t) None) ∙ ap (cond (same_txn u t) None) (sym none)
  none_in m k t q u g false e = refl

  left_from : (m : Touches X) (k : List ℕ) (t : ℕ) (q : List ℕ) (u : ℕ) (o : Option (Table X)) → get m k ≡ o
      → touch_at (without_in m k t o) q u ≡ cond (key.ties q k) (cond (same_txn u t) None (touch_at m q u)) (touch_at m q u)
  left_from m k t q u None g = none_in m k t q u g (key.ties q k) refl
  left_from m k t q u (Some tab) g = ap (λ o. look (or_nobody o) u) (get-insert nat_list_cmp_total m k (without tab t) q) ∙ left_in m k t q u tab g (key.ties q k) refl

  no_length : (es : List (ℕ × X)) (u : ℕ) → (length es == 0) ≡ true → find nat_cmp u es ≡ None
  no_length [] u h = refl
  no_length (e ∷ es) u h = let z : suc (length es) ≡ 0 = eqb→eq (suc (length es)) 0 (subst T (sym h) tt) in absurd (omega (arith, z))

  nobody_holds : (o : Option (Table X)) (u : ℕ) → is_nobody o ≡ true → look (or_nobody o) u ≡ None
  nobody_holds None u h = absurd (true≢false (sym h))
  nobody_holds (Some tab) u h = get-entries tab u ∙ no_length (entries tab) u h

  settled_in : (m : Touches X) (k : List ℕ) (q : List ℕ) (u : ℕ) (c : Bool) → is_nobody (get m k) ≡ c → touch_at (if c then remove m k else m) q u ≡ touch_at m q u
  settled_in m k q u false e = refl
  settled_in m k q u true e = ap (λ o. look (or_nobody o) u) (get-remove nat_list_cmp_total m k q) ∙ by (key.ties q k) refl
    where
      by : (b : Bool) → key.ties q k ≡ b → look (or_nobody (cond b None (get m q))) u ≡ touch_at m q u
      by false t = refl
      by true t = nobody_at u ∙ sym (ap (λ j. touch_at m j u) (key.tied q k t) ∙ nobody_holds (get m k) u e)

  pub forgotten : (m : Touches X) (k : List ℕ) (t : ℕ) (q : List ℕ) (u : ℕ)
      → touch_at (settled (without_touch m k t) k) q u ≡ cond (key.ties q k) (cond (same_txn u t) None (touch_at m q u)) (touch_at m q u)
  forgotten m k t q u = settled_in (without_touch m k t) k q u (is_nobody (get (without_touch m k t) k)) refl ∙ left_from m k t q u (get m k) refl

-- ---- one mark
abbrev pub with_true : Option Bool → Option Bool
with_true None = None
with_true (Some mark) = Some true

marked_one : (tab : Table Bool) (t u : ℕ) (o : Option Bool) → look tab t ≡ o → look (marked_from tab t o) u ≡ cond (same_txn u t) (with_true (look tab u)) (look tab u)
marked_one tab t u None g = by (same_txn u t) refl
  where
    by : (c : Bool) → same_txn u t ≡ c → look tab u ≡ cond c (with_true (look tab u)) (look tab u)
    by false e = refl
    by true e = let none : look tab u ≡ None = ap (look tab) (tied u t e) ∙ g in none ∙ ap with_true (sym none)
marked_one tab t u (Some mark) g = look-put tab t true u ∙ by (same_txn u t) refl
  where
    by : (c : Bool) → same_txn u t ≡ c → cond c (Some true) (look tab u) ≡ cond c (with_true (look tab u)) (look tab u)
    by false e = refl
    by true e = sym (ap with_true (ap (look tab) (tied u t e) ∙ g))

marked_at : (m : Touches Bool) (k : List ℕ) (t : ℕ) (q : List ℕ) (u : ℕ) (tab : Table Bool) → get m k ≡ Some tab → (b : Bool) → key.ties q k ≡ b
    → look (or_nobody (cond b (Some (marked tab t)) (get m q))) u ≡ cond b (cond (same_txn u t) (with_true (touch_at m q u)) (touch_at m q u)) (touch_at m q u)
marked_at m k t q u tab g true e =
    marked_one tab t u (look tab t) refl ∙ ap (λ o. cond (same_txn u t) (with_true (look (or_nobody o) u)) (look (or_nobody o) u)) (sym (ap (get m) (key.tied q k e) ∙ g))
marked_at m k t q u tab g false e = refl

unmarked_at : (m : Touches Bool) (k : List ℕ) (t : ℕ) (q : List ℕ) (u : ℕ) → get m k ≡ None → (b : Bool) → key.ties q k ≡ b
    → touch_at m q u ≡ cond b (cond (same_txn u t) (with_true (touch_at m q u)) (touch_at m q u)) (touch_at m q u)
unmarked_at m k t q u g true e =
    let none : touch_at m q u ≡ None = ap (λ o. look (or_nobody o) u) (ap (get m) (key.tied q k e) ∙ g) ∙ nobody_at u in
    none ∙ sym (both_alike (same_txn u t) None) ∙ ap (λ o. cond (same_txn u t) (with_true o) o) (sym none)
unmarked_at m k t q u g false e = refl

marked_by : (m : Touches Bool) (k : List ℕ) (t : ℕ) (q : List ℕ) (u : ℕ) (o : Option (Table Bool)) → get m k ≡ o
    → touch_at (marked_in m k t o) q u ≡ cond (key.ties q k) (cond (same_txn u t) (with_true (touch_at m q u)) (touch_at m q u)) (touch_at m q u)
marked_by m k t q u None g = unmarked_at m k t q u g (key.ties q k) refl
marked_by m k t q u (Some tab) g = ap (λ o. look (or_nobody o) u) (get-insert nat_list_cmp_total m k (marked tab t) q) ∙ marked_at m k t q u tab g (key.ties q k) refl

pub marks : (m : Touches Bool) (k : List ℕ) (t : ℕ) (q : List ℕ) (u : ℕ)
    → touch_at (with_mark m k t) q u ≡ cond (key.ties q k) (cond (same_txn u t) (with_true (touch_at m q u)) (touch_at m q u)) (touch_at m q u)
marks m k t q u = marked_by m k t q u (get m k) refl

-- ---- the transaction itself, and the others
pub own_of : {A : Type 0} (t : ℕ) (b : Bool) (x y : A) → cond b (cond (same_txn t t) x y) y ≡ cond b x y
own_of t b x y = ap (λ c. cond b (cond c x y) y) (ties-itself t)

pub other_of : {A : Type 0} (u t : ℕ) (b : Bool) (x y : A) → same_txn u t ≡ false → cond b (cond (same_txn u t) x y) y ≡ y
other_of u t b x y e = ap (λ c. cond b (cond c x y) y) e ∙ both_alike b y
