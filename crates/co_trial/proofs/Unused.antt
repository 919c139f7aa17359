-- Over logs without records no number is used, and few are taken.
use Rattle.std.proofs.Common.{◌≡◌, ◌⊎◌, inl, inr, ℕ, ◌≤◌, ◌<◌, Bool, true, false, ◌&&◌, T, List, [], ◌∷◌, map, length, refl, sym, ap, ◌∙◌, arith}
use Rattle.std.specs.Option.{is_some}
use Rattle.std.specs.List.{AllByRecursion, IsDistinct}
use Rattle.std.specs.Ordering.{nat_cmp, eq_by_cmp, is_lt, is_eq}
use Rattle.std.specs.declared.cmp.Ordering.{Ordering}
use Rattle.std.specs.declared.cmp.Ordering.TheVariants.{Less, Equal, Greater}
use Rattle.std.specs.Cmp.{eq_by_cmp_equiv, nat_cmp_total}
use Rattle.std.specs.FinMap.{entries, entries_sorted, keys, contains_key-keys}
use Rattle.std.specs.FinMap.Entries.{is_sorted, below_all}
use Rattle.std.proofs.lemmas.Map.Keys.{IsDistinct-from_sorted, IsDistinct-cons}
use Rattle.std.proofs.lemmas.Map.Made.{length-le_from_is_member}
use Rattle.co_base.proofs.Ordered.{sorted_none}
use Rattle.co_base.specs.declared.head.Kind.{Kind}
use Rattle.co_message.specs.declared.event.Event.{Event}
use Rattle.co_message.specs.declared.event.Event.TheVariants as event
use Rattle.co_opening.specs.Found.{AreUnused}
use Rattle.co_plain.specs.CoordView.{recovered_commits}
use Rattle.co_plain.specs.Federation.{Federation}
use Rattle.co_plain.specs.MemberView.{Numbers, numbers_from, recovered_view}
use Rattle.co_plain.specs.Numbers.{has_number}
use Rattle.co_plain.specs.Opening.{Found, opened, numbers_in, union_to, used_numbers}
use Rattle.co_plain.specs.Runs.{run, lines}
use Rattle.co_plain.specs.declared.session.Session.{Session}
use Rattle.co_record.specs.declared.record.Record.{Record}
use Rattle.co_state.specs.declared.engine_state.Vote.{Vote}
use Rattle.co_state.specs.Table.{holds, no_entries}
use Rattle.co_law_base.proofs.Lookups.{look_none}
use Rattle.co_settle.proofs.Bounded.{laid_cases, key_holds, all_cases, union_cases}
use Rattle.co_settle.proofs.Few.{begin_few, used_stay}
use Rattle.co_world.specs.Counting.{MeetsPlainLimit, taken_count}

number_listed : (ts : List ℕ) (t : ℕ) → holds (numbers_from ts) t ≡ true → has_number ts t ≡ true
number_listed ts t h = by (laid_cases no_entries ts t h)
  where
    by : (holds (no_entries {X = Unit {0}}) t ≡ true) ⊎ (has_number ts t ≡ true) → has_number ts t ≡ true
    by (inl k) = absurd (let z : false ≡ true = sym (ap is_some (look_none t)) ∙ k in cc)
    by (inr k) = k

none_voted : (t : ℕ) → holds (numbers_from (keys (no_entries {X = Vote}))) t ≡ true → ⊥
none_voted t h = let p = key_holds (no_entries {X = Vote}) t (number_listed (keys (no_entries {X = Vote})) t h) in let z : false ≡ true = sym (ap is_some (look_none t)) ∙ p in cc

none_numbered : (t : ℕ) → holds (no_entries {X = Unit {0}}) t ≡ true → ⊥
none_numbered t h = let z : false ≡ true = sym (ap is_some (look_none t)) ∙ h in cc

unused_member : (rs : List Record) (t : ℕ) → rs ≡ [] → holds (numbers_in (recovered_view rs)) t ≡ true → ⊥
unused_member rs t none h = by (all_cases (numbers_from (keys (no_entries {X = Vote}))) no_entries t (ap (λ x. holds (numbers_in (recovered_view x)) t) (sym none) ∙ h))
  where
    by : (holds (numbers_from (keys (no_entries {X = Vote}))) t ≡ true) ⊎ (holds (no_entries {X = Unit {0}}) t ≡ true) → ⊥
    by (inl k) = none_voted t k
    by (inr k) = none_numbered t k

unused_coord : (rs : List Record) (t : ℕ) → rs ≡ [] → holds (recovered_commits rs).seen t ≡ true → ⊥
unused_coord rs t none h = none_numbered t (ap (λ x. holds (recovered_commits x).seen t) (sym none) ∙ h)

both_T : (a b : Bool) → T (a && b) → T a × T b
both_T true b h = (tt, h)
both_T false b h = absurd h

not_tied : (r : Ordering) → T (is_lt r) → is_eq r ≡ false
not_tied Less h = refl
not_tied Equal h = absurd h
not_tied Greater h = refl

apart_below : {X : Type 0} (k : ℕ) (es : List (ℕ × X)) → T (below_all nat_cmp k es) → AllByRecursion (λ y. eq_by_cmp nat_cmp k y ≡ false) (map (λ e. e.0) es)
apart_below k [] h = tt
apart_below k (e ∷ es) h = let b = both_T (is_lt (nat_cmp k e.0)) (below_all nat_cmp k es) h in (not_tied (nat_cmp k e.0) b.0, apart_below k es b.1)

distinct_entries : {X : Type 0} (es : List (ℕ × X)) → T (is_sorted nat_cmp es) → IsDistinct (eq_by_cmp nat_cmp) (map (λ e. e.0) es)
distinct_entries [] h = IsDistinct-from_sorted nat_cmp [] (sorted_none nat_cmp)
distinct_entries (e ∷ es) h =
    let b = both_T (below_all nat_cmp e.0 es) (is_sorted nat_cmp es) h in
    IsDistinct-cons (eq_by_cmp nat_cmp) e.0 (map (λ x. x.0) es) (apart_below e.0 es b.0) (distinct_entries es b.1)

none_counted : (n : Numbers) → ((t : ℕ) → holds n t ≡ true → ⊥) → length (keys n) ≤ 0
none_counted n none = length-le_from_is_member (eq_by_cmp_equiv nat_cmp_total) (keys n) [] (distinct_entries (entries n) (entries_sorted n)) (λ q h. absurd (none q (contains_key-keys n q ∙ h)))

none_keys : (X : Type 0) → length (keys (no_entries {X = X})) ≤ 0
none_keys X = length-le_from_is_member (eq_by_cmp_equiv nat_cmp_total) (keys (no_entries {X = X})) [] (distinct_entries (entries (no_entries {X = X})) (entries_sorted (no_entries {X = X})))
    (λ q h. absurd (let z : false ≡ true = sym (ap is_some (look_none q)) ∙ contains_key-keys (no_entries {X = X}) q ∙ h in cc))

none_listed : {X : Type 0} (es : List (ℕ × X)) → length (map (λ e. e.0) es) ≤ 0 → es ≡ []
none_listed [] h = refl
none_listed (e ∷ es) h = absurd (omega (arith, h))

-- a table without entries lists none
pub none_entries : {X : Type 0} → entries (no_entries {X = X}) ≡ []
none_entries {X = X} = none_listed (entries (no_entries {X = X})) (none_keys X)

none_sessions : length (keys (no_entries {X = Session})) ≤ 0
none_sessions = length-le_from_is_member (eq_by_cmp_equiv nat_cmp_total) (keys (no_entries {X = Session})) [] (distinct_entries (entries (no_entries {X = Session})) (entries_sorted (no_entries {X = Session})))
    (λ q h. absurd (let z : false ≡ true = sym (ap is_some (look_none q)) ∙ contains_key-keys (no_entries {X = Session}) q ∙ h in cc))

-- what has a limit takes as many numbers as there may be
meets_taken : (s : Federation) (e : Event) → MeetsPlainLimit s e → taken_count s ≡ 65536
meets_taken s (event.Begin t c) h = h.1
meets_taken s (event.Local t m) h = h.1
meets_taken s (event.Read t m key) h = absurd h
meets_taken s (event.Write t m key value) h = absurd h
meets_taken s (event.Erase t m key) h = absurd h
meets_taken s (event.Scan t m span) h = absurd h
meets_taken s (event.Commit t) h = absurd h
meets_taken s (event.Abort t) h = absurd h
meets_taken s (event.Deliver note) h = absurd h
meets_taken s (event.Vote t m) h = absurd h
meets_taken s (event.Timer t at) h = absurd h
meets_taken s (event.Ask t m) h = absurd h
meets_taken s (event.Resend t c) h = absurd h
meets_taken s (event.Crash at) h = absurd h
meets_taken s (event.Restart at) h = absurd h
meets_taken s (event.Arm at call leaves) h = absurd h
meets_taken s (event.Checkpoint at) h = absurd h

module _ (kinds : List Kind) (coords : ℕ) (fm fc : ℕ → Found) (unused : AreUnused fm fc) where
  unused_all : (t : ℕ) → holds (used_numbers (length kinds) coords fm fc) t ≡ true → ⊥
  unused_all t h = by (all_cases (union_to (length kinds) (λ m. numbers_in (recovered_view (fm m).records))) (union_to coords (λ c. (recovered_commits (fc c).records).seen)) t h)
    where
      by : (holds (union_to (length kinds) (λ m. numbers_in (recovered_view (fm m).records))) t ≡ true) ⊎ (holds (union_to coords (λ c. (recovered_commits (fc c).records).seen)) t ≡ true) → ⊥
      by (inl k) = union_cases (length kinds) (λ m. numbers_in (recovered_view (fm m).records)) t (λ m from to q. unused_member (fm m).records t (unused.members m) q) k
      by (inr k) = union_cases coords (λ c. (recovered_commits (fc c).records).seen) t (λ c from to q. unused_coord (fc c).records t (unused.coords c) q) k

  -- so no event of a run that is short enough meets the limit
  pub no_limit : (es : List Event) (e : Event) → length es < 65536 → MeetsPlainLimit (run (lines es) (opened kinds coords fm fc)) e → ⊥
  no_limit es e few h =
      let s0 = opened kinds coords fm fc in
      let taken = meets_taken (run (lines es) s0) e h in
      let begun = begin_few es s0 in
      let used = ap (λ n. length (keys n)) (used_stay es s0) in
      let none = none_counted s0.used unused_all in
      let fresh = none_sessions in
      omega (arith, taken, begun, used, none, fresh, few)
