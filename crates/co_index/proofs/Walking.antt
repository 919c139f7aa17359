-- A walk over entries, ascending, for the least number that passes a test, which ends at a number that is no better than the one found before.
use Rattle.std.proofs.Common.{◌≡◌, ℕ, ◌<◌, Bool, true, false, T, nat_lt, min, List, [], ◌∷◌, if◌then◌else◌, Option, None, Some, refl, sym, ap, subst, ◌∙◌, arith}
use Rattle.std.specs.FinMap.{entries, entries_sorted, get-empty}
use Rattle.std.specs.FinMap.Entries.{is_sorted, below_all}
use Rattle.std.specs.Ordering.{nat_cmp, is_lt}
use Rattle.std.proofs.lemmas.Bool.Decides.{nat_tests}
use Rattle.co_state.proofs.Ties.{first, second, less}
use Rattle.co_state.specs.Table.{Table, no_entries, look, first_in, least_where, lesser}
use Rattle.co_index.specs.Holding.{no_greater}
use Rattle.co_index.proofs.LeastNumber.{less_is, least_once, least_of, passed, table_least}

-- what is left of the entries tells the same as all of them
pub record IsLeft {X : Type 0} (test : ℕ → X → Bool) (found : Option ℕ) (rest all : List (ℕ × X)) : Type 0 where
  pub same : lesser found (first_in test rest) ≡ lesser found (first_in test all)
  pub sorted : T (is_sorted nat_cmp rest)

pub none_left : (found : Option ℕ) → lesser found None ≡ found
none_left None = refl
none_left (Some u) = refl

least_stays : (v u : ℕ) → nat_lt u v ≡ false → v ≡ min v u
least_stays v u h = grind (arith, nat_tests, h)

still_not : (v k u : ℕ) → nat_lt k v ≡ false → k < u → nat_lt u v ≡ false
still_not v k u h l = grind (arith, nat_tests, h, l)

lower : (found : Option ℕ) (u : ℕ) → no_greater found u ≡ None → Some u ≡ lesser found (Some u)
lower None u h = refl
lower (Some v) u h = by (nat_lt u v) refl h
  where
    less_one : nat_lt u v ≡ true → u ≡ min v u
    less_one l = grind (arith, nat_tests, l)

    by : (c : Bool) → nat_lt u v ≡ c → (if c then None else Some v) ≡ None → Some u ≡ Some (min v u)
    by true l e = ap Some (less_one l)
    by false l e = absurd (let z : Some v ≡ None = e in cc)

not_below : (w u v : ℕ) → no_greater (Some w) u ≡ Some v → nat_lt u w ≡ false
not_below w u v = by (nat_lt u w)
  where
    by : (c : Bool) → (if c then None else Some w) ≡ Some v → c ≡ false
    by true e = absurd (let z : None ≡ Some v = e in cc)
    by false e = refl

same_found : (w u v : ℕ) → no_greater (Some w) u ≡ Some v → Some w ≡ Some v
same_found w u v = by (nat_lt u w)
  where
    by : (c : Bool) → (if c then None else Some w) ≡ Some v → Some w ≡ Some v
    by true e = absurd (let z : None ≡ Some v = e in cc)
    by false e = e

module _ {X : Type 0} (test : ℕ → X → Bool) where
  pub none_there : least_where test no_entries ≡ None
  none_there =
      least_once (λ u. false) (least_where test no_entries) None
      (least_of (λ u. passed test u (look (no_entries {X = X}) u)) (λ u. false) (least_where test no_entries) (λ u. ap (passed test u) (get-empty nat_cmp u)) (table_least test no_entries)) (λ u. refl)

  pub all_left : (found : Option ℕ) (table : Table X) (es : List (ℕ × X)) → es ≡ entries table → IsLeft test found es es
  all_left found table es e = record { same = refl; sorted = subst (λ fs. T (is_sorted nat_cmp fs)) (sym e) (entries_sorted table) }

  pub passed_by : (found : Option ℕ) (u : ℕ) (x : X) (es all : List (ℕ × X)) → test u x ≡ false → IsLeft test found ((u, x) ∷ es) all → IsLeft test found es all
  passed_by found u x es all fails left = record {
    same = ap (λ c. lesser found (if c then Some u else first_in test es)) (sym fails) ∙ left.same;
    sorted = second (below_all nat_cmp u es) (is_sorted nat_cmp es) left.sorted;
  }

  pub met : (found : Option ℕ) (u : ℕ) (x : X) (es all : List (ℕ × X)) → no_greater found u ≡ None → test u x ≡ true → IsLeft test found ((u, x) ∷ es) all → Some u ≡ lesser found (first_in test all)
  met found u x es all ahead passes left = lower found u ahead ∙ ap (λ c. lesser found (if c then Some u else first_in test es)) (sym passes) ∙ left.same

  -- no number that is left is better
  no_better : (v k : ℕ) (es : List (ℕ × X)) → nat_lt k v ≡ false → T (below_all nat_cmp k es) → lesser (Some v) (first_in test es) ≡ Some v
  no_better v k [] past below = refl
  no_better v k (e ∷ es) past below = by (test e.0 e.1) (no_better v k es past (second (is_lt (nat_cmp k e.0)) (below_all nat_cmp k es) below))
    where
      above : k < e.0
      above = less_is k e.0 (less (nat_cmp k e.0) (first (is_lt (nat_cmp k e.0)) (below_all nat_cmp k es) below))

      by : (c : Bool) → lesser (Some v) (first_in test es) ≡ Some v → lesser (Some v) (if c then Some e.0 else first_in test es) ≡ Some v
      by false next = next
      by true next = ap Some (sym (least_stays v e.0 (still_not v k e.0 past above)))

  pub past : (found : Option ℕ) (u v : ℕ) (x : X) (es all : List (ℕ × X)) → no_greater found u ≡ Some v → IsLeft test found ((u, x) ∷ es) all → Some v ≡ lesser found (first_in test all)
  past None u v x es all h left = absurd (let z : None ≡ Some v = h in cc)
  past (Some w) u v x es all h left = sym (same_found w u v h) ∙ by (test u x) (no_better w u es (not_below w u v h) (first (below_all nat_cmp u es) (is_sorted nat_cmp es) left.sorted)) ∙ left.same
    where
      by : (c : Bool) → lesser (Some w) (first_in test es) ≡ Some w → Some w ≡ lesser (Some w) (if c then Some u else first_in test es)
      by false next = sym next
      by true next = ap Some (least_stays w u (not_below w u v h))

  pub over : (found : Option ℕ) (all : List (ℕ × X)) → IsLeft test found [] all → found ≡ lesser found (first_in test all)
  over found all left = sym (none_left found) ∙ left.same
