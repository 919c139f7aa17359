-- How many events settling takes at most: no more transactions are open with one member than are open at all.
use Rattle.std.proofs.Common.{◌≡◌, ◌⊎◌, inl, inr, ℕ, zero, suc, ◌≤◌, ◌+◌, ◌*◌, Bool, true, false, ◌||◌, ◌&&◌, ◌==◌, if◌then◌else◌, T, List, [], ◌∷◌, map, filter, length, refl, sym, ap, ◌∙◌, arith}
use Rattle.std.specs.Option.{is_some}
use Rattle.std.specs.List.{AllByRecursion, IsDistinct, list_any}
use Rattle.std.specs.Ordering.{nat_cmp, eq_by_cmp, is_lt, is_eq}
use Rattle.std.specs.declared.cmp.Ordering.{Ordering}
use Rattle.std.specs.declared.cmp.Ordering.TheVariants.{Less, Equal, Greater}
use Rattle.std.specs.Cmp.{eq_by_cmp_equiv, nat_cmp_total}
use Rattle.std.specs.FinMap.{entries, entries_sorted, keys, contains_key-keys}
use Rattle.std.specs.FinMap.Entries.{is_sorted, below_all}
use Rattle.std.proofs.lemmas.Bool.{or_cases, eqb-true, eqb-false}
use Rattle.std.proofs.lemmas.Cmp.{tied_itself}
use Rattle.std.proofs.Math.Nat.{mul-le-mul}
use Rattle.std.proofs.lemmas.Map.Keys.{IsDistinct-from_sorted, IsDistinct-cons}
use Rattle.std.proofs.lemmas.Map.Made.{length-le_from_is_member}
use Rattle.co_base.proofs.Ordered.{sorted_none}
use Rattle.co_plain.specs.Federation.{Federation}
use Rattle.co_plain.specs.MemberView.{Numbers, with_number, with_numbers}
use Rattle.co_plain.specs.Numbers.{has_number}
use Rattle.co_plain.specs.Opening.{with_all, union_to}
use Rattle.co_plain.specs.Quiet.{IsMember, IsOpen, InTable, ActiveAt, VotedAt, open_here, open_numbers, open_between, open_count, open_pairs, settling_bound, sum_to, table_numbers, takes_part}
use Rattle.co_state.specs.Table.{Table, holds, no_entries}
use Rattle.co_law_base.proofs.Lookups.{look_none, put_there}
use Rattle.co_law_settle.proofs.OpenSets.{open_counted}
use Rattle.co_settle.specs.Reached.{IsReached}
use Rattle.co_settle.proofs.Reaching.{kinds_are}

-- ---- numbers laid into a set

no_holds : (t : ℕ) → holds (no_entries {X = Unit {0}}) t ≡ false
no_holds t = ap is_some (look_none t)

put_cases : (n : Numbers) (u t : ℕ) → holds (with_number n u) t ≡ true → ((u == t) ≡ true) ⊎ (holds n t ≡ true)
put_cases n u t h = by (u == t) refl
  where
    by : (b : Bool) → (u == t) ≡ b → ((u == t) ≡ true) ⊎ (holds n t ≡ true)
    by true e = inl e
    by false e = inr (sym (ap is_some (put_there n u tt t (eqb-false u t e))) ∙ h)

pub or_left : (a b : Bool) → a ≡ true → (a || b) ≡ true
or_left true b e = refl
or_left false b e = absurd (let z : false ≡ true = e in cc)

pub or_right : (a b : Bool) → b ≡ true → (a || b) ≡ true
or_right true b e = refl
or_right false b e = e

pub laid_cases : (n : Numbers) (ts : List ℕ) (t : ℕ) → holds (with_numbers n ts) t ≡ true → (holds n t ≡ true) ⊎ (has_number ts t ≡ true)
laid_cases n [] t h = inl h
laid_cases n (u ∷ us) t h = by (laid_cases (with_number n u) us t h)
  where
    new : ((u == t) ≡ true) ⊎ (holds n t ≡ true) → (holds n t ≡ true) ⊎ (((u == t) || has_number us t) ≡ true)
    new (inl e) = inr (or_left (u == t) (has_number us t) e)
    new (inr k) = inl k

    by : (holds (with_number n u) t ≡ true) ⊎ (has_number us t ≡ true) → (holds n t ≡ true) ⊎ (((u == t) || has_number us t) ≡ true)
    by (inl k) = new (put_cases n u t k)
    by (inr k) = inr (or_right (u == t) (has_number us t) k)

pub member_of : (xs : List ℕ) (t : ℕ) → has_number xs t ≡ true → list_any (eq_by_cmp nat_cmp t) xs ≡ true
member_of [] t h = absurd (let z : false ≡ true = h in cc)
member_of (x ∷ xs) t h = by (member_of xs t) (or_cases (x == t) (has_number xs t) h)
  where
    by : (has_number xs t ≡ true → list_any (eq_by_cmp nat_cmp t) xs ≡ true) → ((x == t) ≡ true) ⊎ (has_number xs t ≡ true) → (eq_by_cmp nat_cmp t x || list_any (eq_by_cmp nat_cmp t) xs) ≡ true
    by rest (inl e) = or_left (eq_by_cmp nat_cmp t x) _ (ap (λ k. eq_by_cmp nat_cmp t k) (eqb-true x t e) ∙ ap is_eq (tied_itself nat_cmp_total t))
    by rest (inr k) = or_right (eq_by_cmp nat_cmp t x) _ (rest k)

pub key_holds : {X : Type 0} (table : Table X) (t : ℕ) → has_number (keys table) t ≡ true → holds table t ≡ true
key_holds table t h = contains_key-keys table t ∙ member_of (keys table) t h

pub all_cases : (a b : Numbers) (t : ℕ) → holds (with_all a b) t ≡ true → (holds a t ≡ true) ⊎ (holds b t ≡ true)
all_cases a b t h = by (laid_cases a (keys b) t h)
  where
    by : (holds a t ≡ true) ⊎ (has_number (keys b) t ≡ true) → (holds a t ≡ true) ⊎ (holds b t ≡ true)
    by (inl k) = inl k
    by (inr k) = inr (key_holds b t k)

pub union_cases : {A : Type 0} (n : ℕ) (sets : ℕ → Numbers) (t : ℕ) → ((k : ℕ) → 1 ≤ k → k ≤ n → holds (sets k) t ≡ true → A) → holds (union_to n sets) t ≡ true → A
union_cases zero sets t give h = absurd (let z : false ≡ true = sym (no_holds t) ∙ h in cc)
union_cases {A} (suc n) sets t give h = by (union_cases n sets t (λ k from to q. give k from (omega (arith, to)) q)) (all_cases (union_to n sets) (sets (suc n)) t h)
  where
    by : (holds (union_to n sets) t ≡ true → A) → (holds (union_to n sets) t ≡ true) ⊎ (holds (sets (suc n)) t ≡ true) → A
    by rest (inl k) = rest k
    by rest (inr k) = give (suc n) (omega arith) (omega arith) k

pub listed_holds : {X : Type 0} (es : List (ℕ × X)) (t : ℕ) → holds (table_numbers es) t ≡ true → has_number (map (λ e. e.0) es) t ≡ true
listed_holds es t h = by (laid_cases no_entries (map (λ e. e.0) es) t h)
  where
    by : (holds (no_entries {X = Unit {0}}) t ≡ true) ⊎ (has_number (map (λ e. e.0) es) t ≡ true) → has_number (map (λ e. e.0) es) t ≡ true
    by (inl k) = absurd (let z : false ≡ true = sym (no_holds t) ∙ k in cc)
    by (inr k) = k

passing_listed : {X : Type 0} (test : X → Bool) (es : List (ℕ × X)) (t : ℕ) → has_number (map (λ e. e.0) (filter (λ e. test e.1) es)) t ≡ true → has_number (map (λ e. e.0) es) t ≡ true
passing_listed test [] t h = h
passing_listed {X} test (e ∷ es) t h = by (passing_listed test es t) (test e.1) h
  where
    by : (has_number (map (λ e. e.0) (filter (λ e. test e.1) es)) t ≡ true → has_number (map (λ e. e.0) es) t ≡ true) → (b : Bool) →
        has_number (map (λ e. e.0) (if b then e ∷ filter (λ e. test e.1) es else filter (λ e. test e.1) es)) t ≡ true → ((e.0 == t) || has_number (map (λ e. e.0) es) t) ≡ true
    by rest true q = first (or_cases (e.0 == t) _ q)
      where
        first : ((e.0 == t) ≡ true) ⊎ (has_number (map (λ e. e.0) (filter (λ e. test e.1) es)) t ≡ true) → ((e.0 == t) || has_number (map (λ e. e.0) es) t) ≡ true
        first (inl k) = or_left (e.0 == t) _ k
        first (inr k) = or_right (e.0 == t) _ (rest k)
    by rest false q = or_right (e.0 == t) _ (rest q)

-- ---- what is open with a member is open

module _ (s : Federation) where
  pub here_open : (m t : ℕ) → IsMember s m → holds (open_here (s.member m)) t ≡ true → IsOpen s t
  here_open m t own h = by (all_cases (table_numbers (entries (s.member m).engine.active)) (table_numbers (entries (s.member m).engine.voted)) t h)
    where
      by : (holds (table_numbers (entries (s.member m).engine.active)) t ≡ true) ⊎ (holds (table_numbers (entries (s.member m).engine.voted)) t ≡ true) → IsOpen s t
      by (inl k) = ActiveAt m own (key_holds (s.member m).engine.active t (listed_holds (entries (s.member m).engine.active) t k))
      by (inr k) = VotedAt m own (key_holds (s.member m).engine.voted t (listed_holds (entries (s.member m).engine.voted) t k))

  between_open : (m t : ℕ) → IsMember s m → holds (open_between s m) t ≡ true → IsOpen s t
  between_open m t own h = by (all_cases (open_here (s.member m)) (union_to s.coordinators (λ c. table_numbers (filter (λ e. takes_part m e.1) (entries (s.coord c).table)))) t h)
    where
      by : (holds (open_here (s.member m)) t ≡ true) ⊎ (holds (union_to s.coordinators (λ c. table_numbers (filter (λ e. takes_part m e.1) (entries (s.coord c).table)))) t ≡ true) → IsOpen s t
      by (inl k) = here_open m t own k
      by (inr k) =
          union_cases s.coordinators (λ c. table_numbers (filter (λ e. takes_part m e.1) (entries (s.coord c).table))) t
          (λ c from to q. InTable c (from, to) (key_holds (s.coord c).table t (passing_listed (takes_part m) (entries (s.coord c).table) t (listed_holds (filter (λ e. takes_part m e.1) (entries (s.coord c).table)) t q)))) k

  -- ---- and counted

  both_T : (a b : Bool) → T (a && b) → T a × T b
  both_T true b h = (tt, h)
  both_T false b h = absurd h

  not_tied : (r : Ordering) → T (is_lt r) → is_eq r ≡ false
  not_tied Less h = refl
  not_tied Equal h = absurd h
  not_tied Greater h = refl

  apart_below : {X : Type 0} (k : ℕ) (es : List (ℕ × X)) → T (below_all nat_cmp k es) → AllByRecursion (λ y. eq_by_cmp nat_cmp k y ≡ false) (map (λ e. e.0) es)
  apart_below k [] h = tt
  apart_below k (e ∷ es) h = let b = both_T (is_lt (nat_cmp k e.0)) (below_all nat_cmp k es) h in (not_tied (nat_cmp k e.0) b.0, apart_below k es b.1)

  pub distinct_entries : {X : Type 0} (es : List (ℕ × X)) → T (is_sorted nat_cmp es) → IsDistinct (eq_by_cmp nat_cmp) (map (λ e. e.0) es)
  distinct_entries [] h = IsDistinct-from_sorted nat_cmp [] (sorted_none nat_cmp)
  distinct_entries (e ∷ es) h =
      let b = both_T (below_all nat_cmp e.0 es) (is_sorted nat_cmp es) h in
      IsDistinct-cons (eq_by_cmp nat_cmp) e.0 (map (λ x. x.0) es) (apart_below e.0 es b.0) (distinct_entries es b.1)

  between_few : (m : ℕ) → IsMember s m → length (keys (open_between s m)) ≤ open_count s
  between_few m own =
      length-le_from_is_member (eq_by_cmp_equiv nat_cmp_total) (keys (open_between s m)) (keys (open_numbers s)) (distinct_entries (entries (open_between s m)) (entries_sorted (open_between s m)))
      (λ q h. member_of (keys (open_numbers s)) q (open_counted s q (between_open m q own (contains_key-keys (open_between s m) q ∙ h))))

sum_most : (n : ℕ) (counts : ℕ → ℕ) (most : ℕ) → ((m : ℕ) → 1 ≤ m → m ≤ n → counts m ≤ most) → sum_to n counts ≤ n * most
sum_most zero counts most each = omega arith
sum_most (suc n) counts most each =
    let rest = sum_most n counts most (λ m from to. each m from (omega (arith, to))) in
    let last = each (suc n) (omega arith) (omega arith) in
    omega (arith, rest, last)

pub most_settling : (s : Federation) (members most : ℕ) → length s.kinds ≤ members → open_count s ≤ most → settling_bound s ≤ 24 + 3 * ((4 * members + 3) * most)
most_settling s members most kinds few =
    let pairs : open_pairs s ≤ length s.kinds * open_count s = sum_most (length s.kinds) (λ m. length (keys (open_between s m))) (open_count s) (λ m from to. between_few s m (from, to)) in
    let product : length s.kinds * open_count s ≤ members * most = mul-le-mul kinds few in
    omega (arith, pairs, product, few)

pub few_settling : (s : Federation) → IsReached s → open_count s ≤ 65536 → settling_bound s ≤ 13172760
few_settling s r few = let kinds = ap length (kinds_are s r) in let members = r.few_members in most_settling s 16 65536 (omega (arith, kinds, members)) few
