-- Numbers and who bears them, after each call.
use Rattle.std.proofs.Common.{◌≡◌, T, ℕ, suc, Bool, true, false, cond, List, [], ◌∷◌, length, if◌then◌else◌, is_some, Option, None, Some, Result, Ok, Err, OnErr, refl, sym, ap, ◌∙◌, subst, true≢false, eqb→eq, arith}
use Rattle.std.specs.Prelude.{◌==◌}
use Rattle.std.specs.Ordering.{nat_cmp, eq_by_cmp}
use Rattle.std.specs.Cmp.{nat_cmp_total, eq_by_cmp_equiv}
use Rattle.std.specs.FinMap.{entries, get-empty, get-entries}
use Rattle.std.specs.FinMap.Entries.{find}
use Rattle.co_state.specs.Table.{Table, no_entries, look, put, without, holds}
use Rattle.co_state.proofs.Tables.{look-put, look-without, same_table}
use Rattle.co_stamps.specs.Bearing.{Bearers, or_nobody, bears, with_bearer, without_in, without_bearer, is_nobody, settled, is_number, Agree}
pub use Rattle.co_state.proofs.Ties.{tied, ties-itself}

ties-symm : (q k : ℕ) → eq_by_cmp nat_cmp q k ≡ eq_by_cmp nat_cmp k q
ties-symm q k = (eq_by_cmp_equiv nat_cmp_total).symm q k

-- ---- who bears a number
held-put : (tab : Table (Unit {0})) (t u : ℕ) → holds (put tab t tt) u ≡ cond (eq_by_cmp nat_cmp u t) true (holds tab u)
held-put tab t u = ap is_some (look-put tab t tt u) ∙ by (eq_by_cmp nat_cmp u t)
  where
    by : (b : Bool) → is_some (cond b (Some tt) (look tab u)) ≡ cond b true (holds tab u)
    by true = refl
    by false = refl

held-without : (tab : Table (Unit {0})) (t u : ℕ) → holds (without tab t) u ≡ cond (eq_by_cmp nat_cmp u t) false (holds tab u)
held-without tab t u = ap is_some (look-without tab t u) ∙ by (eq_by_cmp nat_cmp u t)
  where
    by : (b : Bool) → is_some (cond b None (look tab u)) ≡ cond b false (holds tab u)
    by true = refl
    by false = refl

held-nobody : (u : ℕ) → holds (or_nobody None) u ≡ false
held-nobody u = ap is_some (get-empty nat_cmp u)

bears-put : (m : Bearers) (n : ℕ) (tab : Table (Unit {0})) (k u : ℕ) → bears (put m n tab) k u ≡ cond (eq_by_cmp nat_cmp k n) (holds tab u) (bears m k u)
bears-put m n tab k u = ap (λ o. holds (or_nobody o) u) (look-put m n tab k) ∙ by (eq_by_cmp nat_cmp k n)
  where
    by : (b : Bool) → holds (or_nobody (cond b (Some tab) (look m k))) u ≡ cond b (holds tab u) (bears m k u)
    by true = refl
    by false = refl

bears-with : (m : Bearers) (n t k u : ℕ) → bears (with_bearer m n t) k u ≡ cond (eq_by_cmp nat_cmp k n) (cond (eq_by_cmp nat_cmp u t) true (bears m n u)) (bears m k u)
bears-with m n t k u = bears-put m n (put (or_nobody (look m n)) t tt) k u ∙ ap (λ b. cond (eq_by_cmp nat_cmp k n) b (bears m k u)) (held-put (or_nobody (look m n)) t u)

bears-without : (m : Bearers) (n t k u : ℕ) → bears (without_bearer m n t) k u ≡ cond (eq_by_cmp nat_cmp k n) (cond (eq_by_cmp nat_cmp u t) false (bears m n u)) (bears m k u)
bears-without m n t k u = by (look m n) refl
  where
    none : (b c : Bool) → (b ≡ true → bears m k u ≡ bears m n u) → bears m n u ≡ false → bears m k u ≡ cond b (cond c false (bears m n u)) (bears m k u)
    none true true f g = f refl ∙ g
    none true false f g = f refl
    none false c f g = refl

    by : (o : Option (Table (Unit {0}))) → look m n ≡ o → bears (without_in m n t o) k u ≡ cond (eq_by_cmp nat_cmp k n) (cond (eq_by_cmp nat_cmp u t) false (bears m n u)) (bears m k u)
    by None e = none (eq_by_cmp nat_cmp k n) (eq_by_cmp nat_cmp u t) (λ y. ap (λ j. bears m j u) (tied k n y)) (ap (λ o. holds (or_nobody o) u) e ∙ held-nobody u)
    by (Some tab) e = bears-put m n (without tab t) k u
        ∙ ap (λ b. cond (eq_by_cmp nat_cmp k n) b (bears m k u)) (held-without tab t u ∙ ap (λ o. cond (eq_by_cmp nat_cmp u t) false (holds (or_nobody o) u)) (sym e))

no_length : (es : List (ℕ × Unit {0})) (u : ℕ) → (length es == 0) ≡ true → find nat_cmp u es ≡ None
no_length [] u h = refl
no_length (e ∷ es) u h = let z : suc (length es) ≡ 0 = eqb→eq (suc (length es)) 0 (subst T (sym h) tt) in absurd (omega (arith, z))

nobody_holds : (o : Option (Table (Unit {0}))) (u : ℕ) → is_nobody o ≡ true → holds (or_nobody o) u ≡ false
nobody_holds None u h = absurd (true≢false (sym h))
nobody_holds (Some tab) u h = ap is_some (get-entries tab u ∙ no_length (entries tab) u h)

bears-settled : (m : Bearers) (n k u : ℕ) → bears (settled m n) k u ≡ bears m k u
bears-settled m n k u = by (is_nobody (look m n)) refl
  where
    other : (b : Bool) → eq_by_cmp nat_cmp k n ≡ b → is_nobody (look m n) ≡ true → holds (or_nobody (cond b None (look m k))) u ≡ bears m k u
    other true y e = held-nobody u ∙ sym (ap (λ j. bears m j u) (tied k n y) ∙ nobody_holds (look m n) u e)
    other false y e = refl

    by : (b : Bool) → is_nobody (look m n) ≡ b → bears (if b then without m n else m) k u ≡ bears m k u
    by true e = ap (λ o. holds (or_nobody o) u) (look-without m n k) ∙ other (eq_by_cmp nat_cmp k n) refl e
    by false e = refl

-- ---- no number without a transaction
some_length : (es : List (ℕ × Unit {0})) (u : ℕ) → is_some (find nat_cmp u es) ≡ true → (length es == 0) ≡ false
some_length es u h = by (length es == 0) refl
  where
    by : (b : Bool) → (length es == 0) ≡ b → b ≡ false
    by true e = absurd (true≢false (sym h ∙ ap is_some (no_length es u e)))
    by false e = refl

pub held_somebody : (tab : Table (Unit {0})) (u : ℕ) → holds tab u ≡ true → is_nobody (Some tab) ≡ false
held_somebody tab u h = some_length (entries tab) u (ap is_some (sym (get-entries tab u)) ∙ h)

borne-with : (m : Bearers) (n t : ℕ) → ((k : ℕ) → is_nobody (look m k) ≡ false) → (k : ℕ) → is_nobody (look (with_bearer m n t) k) ≡ false
borne-with m n t h k = ap is_nobody (look-put m n (put (or_nobody (look m n)) t tt) k) ∙ by (eq_by_cmp nat_cmp k n)
  where
    by : (b : Bool) → is_nobody (cond b (Some (put (or_nobody (look m n)) t tt)) (look m k)) ≡ false
    by true = held_somebody (put (or_nobody (look m n)) t tt) t (held-put (or_nobody (look m n)) t t ∙ ap (λ b. cond b true (holds (or_nobody (look m n)) t)) (ties-itself t))
    by false = h k

borne-without : (m : Bearers) (n t : ℕ) → ((k : ℕ) → is_nobody (look m k) ≡ false) → (k : ℕ) → eq_by_cmp nat_cmp k n ≡ false → is_nobody (look (without_bearer m n t) k) ≡ false
borne-without m n t h k apart = by (look m n)
  where
    by : (o : Option (Table (Unit {0}))) → is_nobody (look (without_in m n t o) k) ≡ false
    by None = h k
    by (Some tab) = ap is_nobody (look-put m n (without tab t) k ∙ ap (λ b. cond b (Some (without tab t)) (look m k)) apart) ∙ h k

borne-settled : (m : Bearers) (n : ℕ) → ((k : ℕ) → eq_by_cmp nat_cmp k n ≡ false → is_nobody (look m k) ≡ false) → (k : ℕ) → is_nobody (look (settled m n) k) ≡ false
borne-settled m n h k = by (is_nobody (look m n)) refl
  where
    at : (b : Bool) → eq_by_cmp nat_cmp k n ≡ b → is_nobody (cond b None (look m k)) ≡ false
    at true y = refl
    at false y = h k y

    stay : (b : Bool) → eq_by_cmp nat_cmp k n ≡ b → is_nobody (look m n) ≡ false → is_nobody (look m k) ≡ false
    stay true y e = ap (λ j. is_nobody (look m j)) (tied k n y) ∙ e
    stay false y e = h k y

    by : (b : Bool) → is_nobody (look m n) ≡ b → is_nobody (look (if b then without m n else m) k) ≡ false
    by true e = ap is_nobody (look-without m n k) ∙ at (eq_by_cmp nat_cmp k n) refl
    by false e = stay (eq_by_cmp nat_cmp k n) refl e

-- ---- after each call
pub agree_none : (numbers : Table ℕ) (m : Bearers) → numbers ≡ no_entries → m ≡ no_entries → Agree numbers m
agree_none numbers m e f = record {
  same = λ n t. ap (λ x. bears x n t) f ∙ ap (λ o. holds (or_nobody o) t) (get-empty nat_cmp n) ∙ held-nobody t ∙ sym (ap (λ x. is_number n (look x t)) e ∙ ap (is_number n) (get-empty nat_cmp t));
  borne = λ n. ap (λ x. is_nobody (look x n)) f ∙ ap is_nobody (get-empty nat_cmp n);
}

pub agree_absent : (numbers after : Table ℕ) (m : Bearers) (t : ℕ) → Agree numbers m → None ≡ look numbers t → after ≡ without numbers t → Agree after m
agree_absent numbers after m t a none is =
    subst (λ x. Agree x m) (sym (is ∙ same_table _ _ (λ u. look-without numbers t u ∙ by u (eq_by_cmp nat_cmp u t) refl))) a
  where
    by : (u : ℕ) (b : Bool) → eq_by_cmp nat_cmp u t ≡ b → cond b None (look numbers u) ≡ look numbers u
    by u true y = none ∙ sym (ap (look numbers) (tied u t y))
    by u false y = refl

pub agree_gone : (numbers after : Table ℕ) (m left : Bearers) (n t : ℕ) → Agree numbers m → Some n ≡ look numbers t → after ≡ without numbers t → left ≡ settled (without_bearer m n t) n → Agree after left
agree_gone numbers after m left n t a some is gone = record {
  same = λ k u.
      ap (λ x. bears x k u) gone ∙ bears-settled (without_bearer m n t) n k u ∙ bears-without m n t k u ∙ by k u (eq_by_cmp nat_cmp k n) (eq_by_cmp nat_cmp u t) refl refl
      ∙ sym (ap (λ x. is_number k (look x u)) is ∙ ap (is_number k) (look-without numbers t u));
  borne = λ k. ap (λ x. is_nobody (look x k)) gone ∙ borne-settled (without_bearer m n t) n (borne-without m n t a.borne) k;
}
  where
    by : (k u : ℕ) (b c : Bool) → eq_by_cmp nat_cmp k n ≡ b → eq_by_cmp nat_cmp u t ≡ c → cond b (cond c false (bears m n u)) (bears m k u) ≡ is_number k (cond c None (look numbers u))
    by k u true true x y = refl
    by k u true false x y = ap (λ j. bears m j u) (sym (tied k n x)) ∙ a.same k u
    by k u false true x y = a.same k u ∙ ap (λ j. is_number k (look numbers j)) (tied u t y) ∙ ap (is_number k) (sym some) ∙ ties-symm n k ∙ x
    by k u false false x y = a.same k u

pub agree_added : (numbers after : Table ℕ) (m more : Bearers) (n t : ℕ) → Agree numbers m → look numbers t ≡ None → after ≡ put numbers t n → more ≡ with_bearer m n t → Agree after more
agree_added numbers after m more n t a none is added = record {
  same = λ k u.
      ap (λ x. bears x k u) added ∙ bears-with m n t k u ∙ by k u (eq_by_cmp nat_cmp k n) (eq_by_cmp nat_cmp u t) refl refl
      ∙ sym (ap (λ x. is_number k (look x u)) is ∙ ap (is_number k) (look-put numbers t n u));
  borne = λ k. ap (λ x. is_nobody (look x k)) added ∙ borne-with m n t a.borne k;
}
  where
    by : (k u : ℕ) (b c : Bool) → eq_by_cmp nat_cmp k n ≡ b → eq_by_cmp nat_cmp u t ≡ c → cond b (cond c true (bears m n u)) (bears m k u) ≡ is_number k (cond c (Some n) (look numbers u))
    by k u true true x y = sym (ties-symm n k ∙ x)
    by k u true false x y = ap (λ j. bears m j u) (sym (tied k n x)) ∙ a.same k u
    by k u false true x y = a.same k u ∙ ap (λ j. is_number k (look numbers j)) (tied u t y) ∙ ap (is_number k) none ∙ sym (ties-symm n k ∙ x)
    by k u false false x y = a.same k u

-- one that was added and taken away again
pub agree_undone : (numbers : Table ℕ) (m more left : Bearers) (n t : ℕ) → Agree numbers m → look numbers t ≡ None → more ≡ with_bearer m n t → left ≡ settled (without_bearer more n t) n → Agree numbers left
agree_undone numbers m more left n t a none added gone = record {
  same = λ k u.
      ap (λ x. bears x k u) (gone ∙ ap (λ x. settled (without_bearer x n t) n) added) ∙ bears-settled (without_bearer (with_bearer m n t) n t) n k u ∙ bears-without (with_bearer m n t) n t k u
      ∙ (λ i. cond (eq_by_cmp nat_cmp k n) (cond (eq_by_cmp nat_cmp u t) false (bears-with m n t n u i)) (bears-with m n t k u i))
      ∙ by k u (eq_by_cmp nat_cmp k n) (eq_by_cmp nat_cmp u t) (eq_by_cmp nat_cmp n n) refl refl (ties-itself n) ∙ a.same k u;
  borne = λ k. ap (λ x. is_nobody (look x k)) (gone ∙ ap (λ x. settled (without_bearer x n t) n) added)
      ∙ borne-settled (without_bearer (with_bearer m n t) n t) n (borne-without (with_bearer m n t) n t (borne-with m n t a.borne)) k;
}
  where
    by : (k u : ℕ) (b c d : Bool) → eq_by_cmp nat_cmp k n ≡ b → eq_by_cmp nat_cmp u t ≡ c → d ≡ true
        → cond b (cond c false (cond d (cond c true (bears m n u)) (bears m n u))) (cond b (cond c true (bears m n u)) (bears m k u)) ≡ bears m k u
    by k u true true true x y z = sym (a.same k u ∙ ap (λ j. is_number k (look numbers j)) (tied u t y) ∙ ap (is_number k) none)
    by k u true false true x y z = ap (λ j. bears m j u) (sym (tied k n x))
    by k u false c true x y z = refl
    by k u b c false x y z = absurd (true≢false (sym z))

-- what stands there already
pub put-same : {X : Type 0} (m : Table X) (n : ℕ) (x : X) → Some x ≡ look m n → put m n x ≡ m
put-same m n x e = same_table _ _ (λ k. look-put m n x k ∙ by k (eq_by_cmp nat_cmp k n) refl)
  where
    by : (k : ℕ) (b : Bool) → eq_by_cmp nat_cmp k n ≡ b → cond b (Some x) (look m k) ≡ look m k
    by k true y = e ∙ sym (ap (look m) (tied k n y))
    by k false y = refl

pub on_err : {X E : Type 0} (r : Result X E) {A B : Type 0} → (A → B) → OnErr r A → OnErr r B
on_err (Ok x) f h = tt
on_err (Err e) f h = f h

pub gone_without : (numbers after : Table ℕ) (t : ℕ) → after ≡ without numbers t → look after t ≡ None
gone_without numbers after t e = ap (λ m. look m t) e ∙ look-without numbers t t ∙ ap (λ b. cond b None (look numbers t)) (ties-itself t)
