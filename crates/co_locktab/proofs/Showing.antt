-- Locks stand where they are looked for, after one more and after the end of some.
use Rattle.std.proofs.Common.{◌≡◌, ℕ, Bool, true, false, cond, not, ◌&&◌, ◌||◌, List, [], ◌∷◌, ◌++◌, if◌then◌else◌, refl, sym, ap, ◌∙◌, subst, Result, Ok, Err, OnOk}
use Rattle.std.specs.declared.cmp.Ordering.{Ordering}
use Rattle.std.specs.List.{list_any}
use Rattle.std.specs.Ordering.{eq_by_cmp}
use Rattle.std.specs.Cmp.{IsTotalOrder}
use Rattle.std.specs.FinMap.{FinMap, IsAntisymmetric}
use Rattle.co_base.specs.Span.{Span}
use Rattle.co_state.specs.Table.{Table, look, put, without}
use Rattle.co_locktab.specs.declared.holders.Holders.{Holders}
use Rattle.co_locktab.specs.Holding.{is_held, with_holder, without_all}
use Rattle.co_locktab.specs.declared.lock_table.LockTable.{LockTable}
use Rattle.co_locktab.specs.Locks.{Locks, or_none, same_span}
use Rattle.co_locktab.specs.Shown.{Shows, is_wide}
use Rattle.co_locktab.proofs.Holding.{held-with, held-without_all}
use Rattle.co_locktab.proofs.Least.{and_false}
use Rattle.co_locktab.proofs.Locking.{any_more, any_gone, ended_by}
use Rattle.co_locktab.proofs.Orders.{same_number, tied, spans_total, spans_apart}

joins : (c p s l : Bool) → (((c && p) && s) || (c && l)) ≡ (c && ((s && p) || l))
joins true true true l = refl
joins true true false l = refl
joins true false true l = refl
joins true false false l = refl
joins false p s l = refl

module _ {K A : Type 0} {R : K → K → Ordering} (o : IsTotalOrder R) (same : IsAntisymmetric R) (m : FinMap R Holders) (table : Table (List A)) (t : ℕ) (c : K → Bool) (p : K → A → Bool)
    (stands : (k : K) (u : ℕ) → is_held m k u ≡ (c k && list_any (p k) (or_none (look table u)))) where
  -- one lock more
  pub stands_more : (k : K) (x : A) → ((q : K) → eq_by_cmp R q k ≡ (c q && p q x)) → (q : K) (u : ℕ)
      → is_held (with_holder m k t) q u ≡ (c q && list_any (p q) (or_none (look (put table t (or_none (look table t) ++ x ∷ [])) u)))
  stands_more k x is q u =
      held-with o same m k t q u ∙ (λ i. (is q i && same_number u t) || stands q u i)
      ∙ joins (c q) (p q x) (same_number u t) (list_any (p q) (or_none (look table u)))
      ∙ ap (λ b. c q && b) (sym (any_more (p q) table t x u))

  -- one more that is not looked for here
  pub stands_still : (x : A) → ((q : K) → (c q && p q x) ≡ false) → (q : K) (u : ℕ)
      → is_held m q u ≡ (c q && list_any (p q) (or_none (look (put table t (or_none (look table t) ++ x ∷ [])) u)))
  stands_still x none q u =
      stands q u ∙ sym (ap (λ b. (b && same_number u t) || (c q && list_any (p q) (or_none (look table u)))) (none q))
      ∙ joins (c q) (p q x) (same_number u t) (list_any (p q) (or_none (look table u)))
      ∙ ap (λ b. c q && b) (sym (any_more (p q) table t x u))

  ends : (q : K) (u : ℕ) (b f : Bool) → c q ≡ b → (list_any (p q) (or_none (look table t)) ≡ true → c q ≡ true → f ≡ true)
      → (not (f && same_number u t) && (b && list_any (p q) (or_none (look table u)))) ≡ (b && cond (same_number u t) false (list_any (p q) (or_none (look table u))))
  ends q u true f e h = ended_by table (p q) t u f (same_number u t) refl (λ l. h l e)
  ends q u false f e h = and_false (not (f && same_number u t))

  along : (q : K) (u : ℕ) (f : Bool) → (list_any (p q) (or_none (look table t)) ≡ true → c q ≡ true → f ≡ true)
      → (not (f && same_number u t) && (c q && list_any (p q) (or_none (look table u)))) ≡ (c q && cond (same_number u t) false (list_any (p q) (or_none (look table u))))
  along q u f h = ends q u (c q) f refl h

  -- the end of all that t holds
  pub stands_ended : (ks : List K) → ((q : K) → list_any (p q) (or_none (look table t)) ≡ true → c q ≡ true → list_any (eq_by_cmp R q) ks ≡ true) → (q : K) (u : ℕ)
      → is_held (without_all m ks t) q u ≡ (c q && list_any (p q) (or_none (look (without table t) u)))
  stands_ended ks all q u =
      held-without_all o same m ks t q u ∙ ap (λ b. not (list_any (eq_by_cmp R q) ks && same_number u t) && b) (stands q u)
      ∙ along q u (list_any (eq_by_cmp R q) ks) (all q)
      ∙ ap (λ b. c q && b) (sym (any_gone (p q) table t u))

and_comes : (a b : Bool) → (a ≡ true → b ≡ true) → a ≡ (b && a)
and_comes true b h = sym (ap (λ c. c && true) (h refl))
and_comes false b h = sym (and_false b)

-- a wide range is looked for among the wide ones alone
pub wide_ties : (s : Span) → is_wide s ≡ true → (q : Span) → same_span q s ≡ (is_wide q && same_span q s)
wide_ties s w q = and_comes (same_span q s) (is_wide q) (λ e. ap is_wide (tied spans_total spans_apart q s e) ∙ w)

pub not_wide_ties : (s : Span) → is_wide s ≡ false → (q : Span) → (is_wide q && same_span q s) ≡ false
not_wide_ties s w q = by (same_span q s) refl
  where
    by : (b : Bool) → same_span q s ≡ b → (is_wide q && b) ≡ false
    by true e = ap (λ c. c && true) (ap is_wide (tied spans_total spans_apart q s e) ∙ w)
    by false e = and_false (is_wide q)

-- a lock that was not held yet is taken
pub taken : (table : LockTable) (locks more : Locks) (held : Bool) → held ≡ false → Shows table more → Shows table (if held then locks else more)
taken table locks more held e s = subst (λ (b : Bool). Shows table (if b then locks else more)) (sym e) s

pub both_ok : {X E : Type 0} (r : Result X E) {A B C : Type 0} → (A → B → C) → OnOk r A → OnOk r B → OnOk r C
both_ok (Ok x) f h k = f h k
both_ok (Err e) f h k = tt
