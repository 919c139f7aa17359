-- Plain locks after one more and after the end of some, by the keys that they are of.
use Rattle.std.proofs.Common.{◌≡◌, ℕ, Bool, true, false, cond, ◌&&◌, ◌||◌, List, [], ◌∷◌, ◌++◌, if◌then◌else◌, refl, sym, ap, ◌∙◌, subst, T, true≢false, eqb→eq, eq-eqb}
use Rattle.std.specs.Prelude.{◌==◌}
use Rattle.std.specs.Cmp.{both_ways, eq_by_cmp_equiv}
use Rattle.std.specs.List.{list_any}
use Rattle.co_base.specs.Span.{Span, span_has}
use Rattle.co_locktab.proofs.Locking.{any_more, any_gone}
use Rattle.co_locktab.proofs.Orders.{keys_total, keys_apart, spans_total, spans_apart, tied, same_number, one_number, number_itself}
use Rattle.co_locktab.specs.Locks.{Locks, or_none, read_by, written_by, with_read, with_write, same_span}
use Rattle.co_state.specs.Keys.{same_key, reads_key}
use Rattle.co_state.specs.Table.{Table, look, put, without}

pub or_true : (b : Bool) → (b || true) ≡ true
or_true true = refl
or_true false = refl

pub same_as : (u t : ℕ) → same_number u t ≡ (u == t)
same_as u t = both_ways (same_number u t) (u == t) (λ e. eq-eqb u t (one_number u t e)) (λ e. subst (λ j. same_number u j ≡ true) (eqb→eq u t (subst T (sym e) tt)) (number_itself u))

pub one_of : (u t : ℕ) → (u == t) ≡ true → u ≡ t
one_of u t e = eqb→eq u t (subst T (sym e) tt)

pub same_key_is : (a b : List ℕ) → same_key a b ≡ true → a ≡ b
same_key_is = tied keys_total keys_apart

pub same_key_sym : (a b : List ℕ) → same_key a b ≡ same_key b a
same_key_sym a b = (eq_by_cmp_equiv keys_total).symm a b

-- ---- one lock more. One that is taken again adds no key.
taken_again : {A : Type 0} (p : A → Bool) (x : A) (b held : Bool) → (b ≡ true → p x ≡ true → held ≡ true) → held ≡ ((b && p x) || held)
taken_again p x true held h = by (p x) refl
  where
    by : (c : Bool) → p x ≡ c → held ≡ (c || held)
    by true e = h refl e
    by false e = refl
taken_again p x false held h = refl

listed_key : (k q : List ℕ) (ks : List (List ℕ)) → list_any (same_key k) ks ≡ true → same_key q k ≡ true → list_any (same_key q) ks ≡ true
listed_key k q ks h e = ap (λ j. list_any (same_key j) ks) (same_key_is q k e) ∙ h

pub written_with : (locks : Locks) (t : ℕ) (key : List ℕ) (u : ℕ) (q : List ℕ)
    → list_any (same_key q) (written_by (with_write locks t key) u) ≡ (((u == t) && same_key key q) || list_any (same_key q) (written_by locks u))
written_with locks t key u q = by (list_any (same_key key) (written_by locks t)) refl
  where
    by : (b : Bool) → list_any (same_key key) (written_by locks t) ≡ b
        → list_any (same_key q) (written_by (if b then locks else record locks { writes = put locks.writes t (written_by locks t ++ key ∷ []) }) u) ≡ (((u == t) && same_key key q) || list_any (same_key q) (written_by locks u))
    by true e = taken_again (λ k. same_key k q) key (u == t) (list_any (same_key q) (written_by locks u))
        (λ is f. listed_key key q (written_by locks u) (ap (λ j. list_any (same_key key) (written_by locks j)) (one_of u t is) ∙ e) (same_key_sym q key ∙ f))
    by false e = any_more (same_key q) locks.writes t key u ∙ (λ i. (same_as u t i && same_key_sym q key i) || list_any (same_key q) (written_by locks u))

reads_any : (spans : List Span) (q : List ℕ) → reads_key spans q ≡ list_any (λ s. span_has s q) spans
reads_any [] q = refl
reads_any (s ∷ spans) q = ap (λ b. span_has s q || b) (reads_any spans q)

listed_span : (span : Span) (q : List ℕ) (spans : List Span) → list_any (same_span span) spans ≡ true → span_has span q ≡ true → reads_key spans q ≡ true
listed_span span q [] h e = absurd (true≢false (sym h))
listed_span span q (s ∷ spans) h e = by (same_span span s) refl h (λ r. listed_span span q spans r e)
  where
    by : (b : Bool) → same_span span s ≡ b → (b || list_any (same_span span) spans) ≡ true → (list_any (same_span span) spans ≡ true → reads_key spans q ≡ true) → (span_has s q || reads_key spans q) ≡ true
    by true f g rest = ap (λ b. b || reads_key spans q) (ap (λ r. span_has r q) (sym (tied spans_total spans_apart span s f)) ∙ e)
    by false f g rest = ap (λ b. span_has s q || b) (rest g) ∙ or_true (span_has s q)

pub read_with : (locks : Locks) (t : ℕ) (span : Span) (u : ℕ) (q : List ℕ)
    → reads_key (read_by (with_read locks t span) u) q ≡ (((u == t) && span_has span q) || reads_key (read_by locks u) q)
read_with locks t span u q = by (list_any (same_span span) (read_by locks t)) refl
  where
    by : (b : Bool) → list_any (same_span span) (read_by locks t) ≡ b
        → reads_key (read_by (if b then locks else record locks { reads = put locks.reads t (read_by locks t ++ span ∷ []) }) u) q ≡ (((u == t) && span_has span q) || reads_key (read_by locks u) q)
    by true e = taken_again (λ s. span_has s q) span (u == t) (reads_key (read_by locks u) q)
        (λ is f. listed_span span q (read_by locks u) (ap (λ j. list_any (same_span span) (read_by locks j)) (one_of u t is) ∙ e) f)
    by false e =
        reads_any (or_none (look (put locks.reads t (read_by locks t ++ span ∷ [])) u)) q ∙ any_more (λ s. span_has s q) locks.reads t span u
        ∙ (λ i. (same_as u t i && span_has span q) || sym (reads_any (read_by locks u) q) i)

-- a read lock is no write lock, and the other way round
pub writes_unread : (locks : Locks) (t : ℕ) (span : Span) (u : ℕ) → written_by (with_read locks t span) u ≡ written_by locks u
writes_unread locks t span u = by (list_any (same_span span) (read_by locks t))
  where
    by : (b : Bool) → written_by (if b then locks else record locks { reads = put locks.reads t (read_by locks t ++ span ∷ []) }) u ≡ written_by locks u
    by true = refl
    by false = refl

pub reads_unwritten : (locks : Locks) (t : ℕ) (key : List ℕ) (u : ℕ) → read_by (with_write locks t key) u ≡ read_by locks u
reads_unwritten locks t key u = by (list_any (same_key key) (written_by locks t))
  where
    by : (b : Bool) → read_by (if b then locks else record locks { writes = put locks.writes t (written_by locks t ++ key ∷ []) }) u ≡ read_by locks u
    by true = refl
    by false = refl

-- ---- none any more
pub written_without : (table : Table (List (List ℕ))) (t u : ℕ) (q : List ℕ)
    → list_any (same_key q) (or_none (look (without table t) u)) ≡ cond (same_number u t) false (list_any (same_key q) (or_none (look table u)))
written_without table t u q = any_gone (same_key q) table t u

pub read_without : (table : Table (List Span)) (t u : ℕ) (q : List ℕ)
    → reads_key (or_none (look (without table t) u)) q ≡ cond (same_number u t) false (reads_key (or_none (look table u)) q)
read_without table t u q =
    reads_any (or_none (look (without table t) u)) q ∙ any_gone (λ s. span_has s q) table t u
    ∙ ap (cond (same_number u t) false) (sym (reads_any (or_none (look table u)) q))
