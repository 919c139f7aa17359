-- Who holds a lock after calls, and what the entries of an index say of it.
use Rattle.std.proofs.Common.{◌≡◌, T, ℕ, Bool, true, false, cond, not, ◌&&◌, ◌||◌, List, [], ◌∷◌, filter, length, if◌then◌else◌, Option, None, Some, is_some, refl, sym, ap, ◌∙◌, true≢false, arith}
use Rattle.std.specs.Prelude.{◌==◌}
use Rattle.std.proofs.lemmas.Bool.Decides.{nat_tests}
use Rattle.std.specs.List.{list_any}
use Rattle.std.specs.Ordering.{eq_by_cmp, nat_cmp, is_eq, is_lt}
use Rattle.std.specs.declared.cmp.Ordering.{Ordering}
use Rattle.std.specs.declared.cmp.Ordering.TheVariants.{Less, Equal, Greater}
use Rattle.std.specs.Cmp.{IsTotalOrder, both_ways}
use Rattle.std.specs.FinMap.{FinMap, IsAntisymmetric, entries, entries_sorted, get, insert, remove, get-insert, get-remove, get-entries, get-empty, empty}
use Rattle.std.specs.FinMap.Entries.{find, below_all, is_sorted}
use Rattle.co_state.proofs.Tables.{look-put, look-without}
use Rattle.co_state.specs.Table.{no_entries, look, holds}
use Rattle.co_locktab.specs.declared.holders.Holders.{Holders}
use Rattle.co_locktab.specs.Holding.{joined, left, one_holder, holder_in, is_left, is_held, changed, left_at, held_by, with_holder, without_holder, without_all, first_in_lock}
use Rattle.co_locktab.specs.Locks.{IsLeast}
use Rattle.co_locktab.proofs.Orders.{tied, ties-itself, same_number}
use Rattle.co_locktab.proofs.Least.{first, second, left_true, right_true, and_false, or_true, least_other}

some_joined : (b : Bool) (o : Option (Unit {0})) → is_some (cond b (Some tt) o) ≡ (b || is_some o)
some_joined true o = refl
some_joined false o = refl

some_left : (b : Bool) (o : Option (Unit {0})) → is_some (cond b None o) ≡ (not b && is_some o)
some_left true o = refl
some_left false o = refl

holds_joined : (t : ℕ) (h : Holders) (u : ℕ) → holds (joined t h).txns u ≡ (same_number u t || holds h.txns u)
holds_joined t h u = ap is_some (look-put h.txns t tt u) ∙ some_joined (same_number u t) (look h.txns u)

holds_left : (t : ℕ) (h : Holders) (u : ℕ) → holds (left t h).txns u ≡ (not (same_number u t) && holds h.txns u)
holds_left t h u = ap is_some (look-without h.txns t u) ∙ some_left (same_number u t) (look h.txns u)

holds_none : (u : ℕ) → holds (no_entries {X = Unit {0}}) u ≡ false
holds_none u = ap is_some (get-empty nat_cmp u)

nothing_in : {X : Type 0} (es : List (ℕ × X)) (u : ℕ) → (length es == 0) ≡ true → is_some (find nat_cmp u es) ≡ false
nothing_in [] u e = refl
nothing_in (f ∷ es) u e = absurd (grind (arith, nat_tests))

left_alone : (o : Option Holders) (u : ℕ) → is_left o ≡ true → holder_in o u ≡ false
left_alone None u e = refl
left_alone (Some h) u e = ap is_some (get-entries h.txns u) ∙ nothing_in (entries h.txns) u e

taken_out : (o : Option Holders) (l x : Bool) → l ≡ false → (not (x && l)) ≡ true
taken_out o l true e = ap not e
taken_out o l false e = refl

module _ {K : Type 0} {R : K → K → Ordering} (o : IsTotalOrder R) (same : IsAntisymmetric R) where
  abbrev pub ties : K → K → Bool
  ties = eq_by_cmp R

  in_cond : (b : Bool) (h : Holders) (p : Option Holders) (u : ℕ) → holder_in (cond b (Some h) p) u ≡ cond b (holds h.txns u) (holder_in p u)
  in_cond true h p u = refl
  in_cond false h p u = refl

  held-insert : (m : FinMap R Holders) (k : K) (h : Holders) (q : K) (u : ℕ) → is_held (insert m k h) q u ≡ cond (ties q k) (holds h.txns u) (is_held m q u)
  held-insert m k h q u = ap (λ p. holder_in p u) (get-insert o m k h q) ∙ in_cond (ties q k) h (get m q) u

  -- the holder at a tied key
  at_tied : (m : FinMap R Holders) (k q : K) (p : Option Holders) (u : ℕ) → get m k ≡ p → ties q k ≡ true → is_held m q u ≡ holder_in p u
  at_tied m k q p u is t = ap (λ j. is_held m j u) (tied o same q k t) ∙ ap (λ j. holder_in j u) is

  with_at : (m : FinMap R Holders) (k : K) (t : ℕ) (q : K) (u : ℕ) (h : Holders) (p : Option Holders) (b : Bool) → get m k ≡ p → ties q k ≡ b → holder_in p u ≡ holds h.txns u
      → cond b (holds (joined t h).txns u) (is_held m q u) ≡ ((b && same_number u t) || is_held m q u)
  with_at m k t q u h p true is b e = holds_joined t h u ∙ ap (λ c. same_number u t || c) (sym (at_tied m k q p u is b ∙ e))
  with_at m k t q u h p false is b e = refl

  with_by : (m : FinMap R Holders) (k : K) (t : ℕ) (q : K) (u : ℕ) (p : Option Holders) → get m k ≡ p → is_held (held_by m k t p) q u ≡ ((ties q k && same_number u t) || is_held m q u)
  with_by m k t q u None is = held-insert m k (one_holder t) q u ∙ with_at m k t q u (record { txns = no_entries }) None (ties q k) is refl (sym (holds_none u))
  with_by m k t q u (Some h) is = held-insert m k (joined t h) q u ∙ with_at m k t q u h (Some h) (ties q k) is refl refl

  -- t holds one lock more
  pub held-with : (m : FinMap R Holders) (k : K) (t : ℕ) (q : K) (u : ℕ) → is_held (with_holder m k t) q u ≡ ((ties q k && same_number u t) || is_held m q u)
  held-with m k t q u = with_by m k t q u (get m k) refl

  left_none : (b x : Bool) (m : FinMap R Holders) (q k : K) (u : ℕ) → get m k ≡ None → ties q k ≡ b → is_held m q u ≡ (not (b && x) && is_held m q u)
  left_none true x m q k u is t = let e = at_tied m k q None u is t in e ∙ sym (ap (λ c. not x && c) e ∙ and_false (not x))
  left_none false x m q k u is t = refl

  left_some : (m : FinMap R Holders) (k : K) (t : ℕ) (q : K) (u : ℕ) (h : Holders) (b : Bool) → get m k ≡ Some h → ties q k ≡ b
      → cond b (holds (left t h).txns u) (is_held m q u) ≡ (not (b && same_number u t) && is_held m q u)
  left_some m k t q u h true is b = holds_left t h u ∙ ap (λ c. not (same_number u t) && c) (sym (at_tied m k q (Some h) u is b))
  left_some m k t q u h false is b = refl

  left_by : (m : FinMap R Holders) (k : K) (t : ℕ) (q : K) (u : ℕ) (p : Option Holders) → get m k ≡ p → is_held (changed m k (left t) p) q u ≡ (not (ties q k && same_number u t) && is_held m q u)
  left_by m k t q u None is = left_none (ties q k) (same_number u t) m q k u is refl
  left_by m k t q u (Some h) is = held-insert m k (left t h) q u ∙ left_some m k t q u h (ties q k) is refl

  gone : (b : Bool) (p : Option Holders) (u : ℕ) → (b ≡ true → holder_in p u ≡ false) → holder_in (cond b None p) u ≡ holder_in p u
  gone true p u h = sym (h refl)
  gone false p u h = refl

  settled_by : (m : FinMap R Holders) (k q : K) (u : ℕ) (b : Bool) → is_left (get m k) ≡ b → is_held (if b then remove m k else m) q u ≡ is_held m q u
  settled_by m k q u true e = ap (λ p. holder_in p u) (get-remove o m k q) ∙ gone (ties q k) (get m q) u (λ t. at_tied m k q (get m k) u refl t ∙ left_alone (get m k) u e)
  settled_by m k q u false e = refl

  -- t holds one lock less
  pub held-without : (m : FinMap R Holders) (k : K) (t : ℕ) (q : K) (u : ℕ) → is_held (without_holder m k t) q u ≡ (not (ties q k && same_number u t) && is_held m q u)
  held-without m k t q u = settled_by (left_at m k t) k q u (is_left (get (left_at m k t) k)) refl ∙ left_by m k t q u (get m k) refl

  less_twice : (a b s h : Bool) → (not (b && s) && (not (a && s) && h)) ≡ (not ((a || b) && s) && h)
  less_twice true true s h = by s
    where
      by : (x : Bool) → (not x && (not x && h)) ≡ (not x && h)
      by true = refl
      by false = refl
  less_twice true false s h = refl
  less_twice false true s h = refl
  less_twice false false s h = refl

  pub held-without_all : (m : FinMap R Holders) (ks : List K) (t : ℕ) (q : K) (u : ℕ) → is_held (without_all m ks t) q u ≡ (not (list_any (ties q) ks && same_number u t) && is_held m q u)
  held-without_all m [] t q u = refl
  held-without_all m (k ∷ ks) t q u =
      held-without_all (without_holder m k t) ks t q u ∙ ap (λ c. not (list_any (ties q) ks && same_number u t) && c) (held-without m k t q u)
      ∙ less_twice (ties q k) (list_any (ties q) ks) (same_number u t) (is_held m q u)

  pub held_nowhere : (q : K) (u : ℕ) → is_held (empty {X = Holders} {R = R}) q u ≡ false
  held_nowhere q u = ap (λ p. holder_in p u) (get-empty R q)

  -- ---- entries that pass a test
  module _ (p : K → Bool) (u : ℕ) where
    abbrev pub passing : List (K × Holders) → Bool
    passing es = list_any (λ (e : K × Holders). holds e.1.txns u) (filter (λ (e : K × Holders). p e.0) es)

    less : (r : Ordering) → T (is_lt r) → r ≡ Less
    less Less h = refl
    less Equal h = absurd h
    less Greater h = absurd h

    find_below : (q : K) (es : List (K × Holders)) → T (below_all R q es) → find R q es ≡ None
    find_below q [] h = refl
    find_below q (e ∷ es) h = ap (λ r. cond (is_eq r) (Some e.1) (find R q es)) (less _ (first _ _ h)) ∙ find_below q es (second _ _ h)

    pub record Passed (es : List (K × Holders)) : Type 0 where
      pub key : K
      pub passes : p key ≡ true
      pub held : holder_in (find R key es) u ≡ true

    not_first : (e : K × Holders) (es : List (K × Holders)) (k : K) (b : Bool) → ties k e.0 ≡ b → T (below_all R e.0 es) → holder_in (find R k es) u ≡ true → holder_in (cond b (Some e.1) (find R k es)) u ≡ true
    not_first e es k true t h is = absurd (true≢false (sym is ∙ ap (λ j. holder_in j u) (ap (λ j. find R j es) (tied o same k e.0 t) ∙ find_below e.0 es h)))
    not_first e es k false t h is = is

    later : (e : K × Holders) (es : List (K × Holders)) → T (below_all R e.0 es) → Passed es → Passed (e ∷ es)
    later e es h k = record { key = k.key; passes = k.passes; held = not_first e es k.key (ties k.key e.0) refl h k.held }

    here : (e : K × Holders) (es : List (K × Holders)) → p e.0 ≡ true → holds e.1.txns u ≡ true → Passed (e ∷ es)
    here e es is h = record { key = e.0; passes = is; held = ap (λ b. holder_in (cond b (Some e.1) (find R e.0 es)) u) (ties-itself o same e.0) ∙ h }

    passed_head : (e : K × Holders) (es : List (K × Holders)) (b : Bool) → holds e.1.txns u ≡ b → p e.0 ≡ true → T (below_all R e.0 es) → (b || passing es) ≡ true → (passing es ≡ true → Passed es) → Passed (e ∷ es)
    passed_head e es true h is k f g = here e es is h
    passed_head e es false h is k f g = later e es k (g f)

    passed_by : (e : K × Holders) (es : List (K × Holders)) (b : Bool) → p e.0 ≡ b → T (below_all R e.0 es) → list_any (λ (f : K × Holders). holds f.1.txns u) (cond b (e ∷ filter (λ (f : K × Holders). p f.0) es) (filter (λ (f : K × Holders). p f.0) es)) ≡ true
        → (passing es ≡ true → Passed es) → Passed (e ∷ es)
    passed_by e es true is k f g = passed_head e es (holds e.1.txns u) refl is k f g
    passed_by e es false is k f g = later e es k (g f)

    pub passed : (es : List (K × Holders)) → T (is_sorted R es) → passing es ≡ true → Passed es
    passed [] h e = absurd (true≢false (sym e))
    passed (f ∷ es) h e = passed_by f es (p f.0) refl (first _ _ h) e (passed es (second _ _ h))

    keeps : (e : K × Holders) (es : List (K × Holders)) (b : Bool) → p e.0 ≡ b → passing es ≡ true
        → list_any (λ (f : K × Holders). holds f.1.txns u) (cond b (e ∷ filter (λ (f : K × Holders). p f.0) es) (filter (λ (f : K × Holders). p f.0) es)) ≡ true
    keeps e es true is h = ap (λ b. holds e.1.txns u || b) h ∙ or_true (holds e.1.txns u)
    keeps e es false is h = h

    enters : (e : K × Holders) (es : List (K × Holders)) (b : Bool) → b ≡ true → holds e.1.txns u ≡ true
        → list_any (λ (f : K × Holders). holds f.1.txns u) (cond b (e ∷ filter (λ (f : K × Holders). p f.0) es) (filter (λ (f : K × Holders). p f.0) es)) ≡ true
    enters e es true is h = ap (λ b. b || passing es) h
    enters e es false is h = absurd (true≢false (sym is))

    pub passes_with : (es : List (K × Holders)) (k : K) → p k ≡ true → holder_in (find R k es) u ≡ true → passing es ≡ true
    passes_with [] k is e = absurd (true≢false (sym e))
    passes_with (f ∷ es) k is e = by (ties k f.0) refl e (passes_with es k is)
      where
        by : (b : Bool) → ties k f.0 ≡ b → holder_in (cond b (Some f.1) (find R k es)) u ≡ true → (holder_in (find R k es) u ≡ true → passing es ≡ true) → passing (f ∷ es) ≡ true
        by true t h rest = enters f es (p f.0) (ap p (sym (tied o same k f.0 t)) ∙ is) h
        by false t h rest = keeps f es (p f.0) refl (rest h)

  listed : (q : K → Bool) (k : K) (xs : List K) → list_any (ties k) xs ≡ true → q k ≡ true → list_any q xs ≡ true
  listed q k [] e h = absurd (true≢false (sym e))
  listed q k (x ∷ xs) e h = by (ties k x) refl e (λ f. listed q k xs f h)
    where
      by : (b : Bool) → ties k x ≡ b → (b || list_any (ties k) xs) ≡ true → (list_any (ties k) xs ≡ true → list_any q xs ≡ true) → (q x || list_any q xs) ≡ true
      by true t f rest = ap (λ b. b || list_any q xs) (ap q (sym (tied o same k x t)) ∙ h)
      by false t f rest = ap (λ b. q x || b) (rest f) ∙ or_true (q x)

  record Listed (q : K → Bool) (xs : List K) : Type 0 where
    pub key : K
    pub passes : q key ≡ true
    pub there : list_any (ties key) xs ≡ true

  lists : (q : K → Bool) (xs : List K) → list_any q xs ≡ true → Listed q xs
  lists q [] e = absurd (true≢false (sym e))
  lists q (x ∷ xs) e = by (q x) refl e (lists q xs)
    where
      by : (b : Bool) → q x ≡ b → (b || list_any q xs) ≡ true → (list_any q xs ≡ true → Listed q xs) → Listed q (x ∷ xs)
      by true is f rest = record { key = x; passes = is; there = ap (λ b. b || list_any (ties x) xs) (ties-itself o same x) }
      by false is f rest = let l = rest f in record { key = l.key; passes = l.passes; there = ap (λ b. ties l.key x || b) l.there ∙ or_true (ties l.key x) }

  -- the entries that pass a test, by the list of what is held
  pub held_there : (m : FinMap R Holders) (p c : K → Bool) (u : ℕ) (xs : List K) → ((k : K) → is_held m k u ≡ (c k && list_any (ties k) xs))
      → list_any (λ (e : K × Holders). holds e.1.txns u) (filter (λ (e : K × Holders). p e.0) (entries m)) ≡ list_any (λ k. c k && p k) xs
  held_there m p c u xs is = both_ways _ _
      (λ e. let k = passed p u (entries m) (entries_sorted m) e in
      let h : (c k.key && list_any (ties k.key) xs) ≡ true = sym (is k.key) ∙ ap (λ j. holder_in j u) (get-entries m k.key) ∙ k.held in
      listed (λ k. c k && p k) k.key xs (right_true (c k.key) (list_any (ties k.key) xs) h) (λ i. left_true (c k.key) (list_any (ties k.key) xs) h i && k.passes i))
      (λ e. let l = lists (λ k. c k && p k) xs e in
      passes_with p u (entries m) l.key (right_true (c l.key) (p l.key) l.passes)
      (ap (λ j. holder_in j u) (sym (get-entries m l.key)) ∙ is l.key ∙ (λ i. left_true (c l.key) (p l.key) l.passes i && l.there i)))

  -- the first other holder of one lock is the least
  pub least_in_lock : (m : FinMap R Holders) (k : K) (t : ℕ) → IsLeast (λ u. not (u == t) && is_held m k u) (first_in_lock t (get m k))
  least_in_lock m k t = by (get m k)
    where
      by : (p : Option Holders) → IsLeast (λ u. not (u == t) && holder_in p u) (first_in_lock t p)
      by None = λ u. and_false (not (u == t))
      by (Some h) = least_other t h
