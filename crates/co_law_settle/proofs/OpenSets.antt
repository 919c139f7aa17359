-- What is open is among the numbers that are counted, and what is left is at most three for each pair and one for each
-- transaction of them.
use Rattle.std.proofs.Common.{◌≡◌, ℕ, zero, suc, Bool, true, false, cond, ◌==◌, ◌≤◌, ◌+◌, ◌*◌, if◌then◌else◌, List, [], ◌∷◌, map, filter, length, Option, None, Some, refl, sym, ap, ◌∙◌, arith}
use Rattle.std.specs.Option.{is_some}
use Rattle.std.specs.Ordering.{nat_cmp, eq_by_cmp}
use Rattle.std.specs.FinMap.{entries, get-entries, keys}
use Rattle.std.specs.FinMap.Entries.{find}
use Rattle.std.proofs.lemmas.Bool.{or_left, or_right, and_parts, eq-eqb}
use Rattle.co_state.specs.Table.{Table, look, holds, no_entries}
use Rattle.co_plain.specs.declared.coord_state.Entry.{Entry}
use Rattle.co_plain.specs.declared.coord_state.Entry.TheVariants as entry
use Rattle.co_plain.specs.declared.member_state.MemberState.{MemberState}
use Rattle.co_plain.specs.Numbers.{has_number}
use Rattle.co_plain.specs.MemberView.{Numbers}
use Rattle.co_plain.specs.Opening.{union_to}
use Rattle.co_plain.specs.Federation.{Federation}
use Rattle.co_plain.specs.Quiet.{IsCoordinator, IsOpen, InTable, ActiveAt, VotedAt, table_numbers, takes_part, open_here, open_numbers, open_between, open_count, open_pairs, sum_to, lacks_yes, lacks_ack}
use Rattle.co_plain.specs.Settling.{is_idle}
use Rattle.co_law_base.proofs.NumberSets.{laid_has, key_of, first_has, second_has, union_has}
use Rattle.co_law_base.proofs.Lookups.{same_number}
use Rattle.co_law_settle.specs.SettlingMeasure.{any_to, weight, left_between, left_idle, left_of, sum_over, yes_lacking, ack_lacking, pairs_in, numbers_in_state}
use Rattle.co_law_settle.proofs.Falling.{any_found, weight_most}

-- the keys of the entries that pass a test
passing_key : {X : Type 0} (test : X → Bool) (es : List (ℕ × X)) (t : ℕ) (x : X) → find nat_cmp t es ≡ Some x → test x ≡ true → has_number (map (λ e. e.0) (filter (λ e. test e.1) es)) t ≡ true
passing_key test [] t x h p = absurd (let z : None ≡ Some x = h in cc)
passing_key {X} test (e ∷ es) t x h p = by (passing_key test es t x) (eq_by_cmp nat_cmp t e.0) refl (test e.1) refl
  where
    Here : Bool → Type 0
    Here k = has_number (map (λ e. e.0) (if k then e ∷ filter (λ e. test e.1) es else filter (λ e. test e.1) es)) t ≡ true

    by : (find nat_cmp t es ≡ Some x → test x ≡ true → has_number (map (λ e. e.0) (filter (λ e. test e.1) es)) t ≡ true) → (b : Bool) → eq_by_cmp nat_cmp t e.0 ≡ b → (k : Bool) → test e.1 ≡ k → Here k
    by rest true g true q = or_left (e.0 == t) (has_number (map (λ e. e.0) (filter (λ e. test e.1) es)) t) (eq-eqb e.0 t (sym (same_number t e.0 g)))
    by rest true g false q =
        let is : Some e.1 ≡ Some x = sym (ap (λ c. cond c (Some e.1) (find nat_cmp t es)) g) ∙ h in
        let same : e.1 ≡ x = cc in
        absurd (let z : false ≡ true = sym q ∙ ap test same ∙ p in cc)
    by rest false g k q = now k
      where
        more : has_number (map (λ e. e.0) (filter (λ e. test e.1) es)) t ≡ true
        more = rest (sym (ap (λ c. cond c (Some e.1) (find nat_cmp t es)) g) ∙ h) p

        now : (k : Bool) → Here k
        now true = or_right (e.0 == t) (has_number (map (λ e. e.0) (filter (λ e. test e.1) es)) t) more
        now false = more

-- a table's numbers, and those of the entries that pass a test
table_has : {X : Type 0} (table : Table X) (t : ℕ) → holds table t ≡ true → holds (table_numbers (entries table)) t ≡ true
table_has table t h = laid_has no_entries (keys table) t (key_of table t h)

passing_has : (table : Table Entry) (m t : ℕ) (x : Entry) → look table t ≡ Some x → takes_part m x ≡ true → holds (table_numbers (filter (λ e. takes_part m e.1) (entries table))) t ≡ true
passing_has table m t x h p = laid_has no_entries (map (λ e. e.0) (filter (λ e. takes_part m e.1) (entries table))) t (passing_key (takes_part m) (entries table) t x (sym (get-entries table t) ∙ h) p)

active_has : (x : MemberState) (t : ℕ) → holds x.engine.active t ≡ true → holds (open_here x) t ≡ true
active_has x t h = first_has (table_numbers (entries x.engine.active)) (table_numbers (entries x.engine.voted)) t (table_has x.engine.active t h)

voted_has : (x : MemberState) (t : ℕ) → holds x.engine.voted t ≡ true → holds (open_here x) t ≡ true
voted_has x t h = second_has (table_numbers (entries x.engine.active)) (table_numbers (entries x.engine.voted)) t (table_has x.engine.voted t h)

module _ (s : Federation) where
  abbrev here : Numbers
  here = union_to (length s.kinds) (λ m. open_here (s.member m))

  abbrev tabled : Numbers
  tabled = union_to s.coordinators (λ c. table_numbers (entries (s.coord c).table))

  -- what is open is counted
  pub open_counted : (t : ℕ) → IsOpen s t → has_number (numbers_in_state s) t ≡ true
  open_counted t (InTable c i h) =
      key_of (open_numbers s) t (second_has here tabled t (union_has s.coordinators (λ c. table_numbers (entries (s.coord c).table)) c t i (table_has (s.coord c).table t h)))
  open_counted t (ActiveAt m i h) =
      key_of (open_numbers s) t (first_has here tabled t (union_has (length s.kinds) (λ m. open_here (s.member m)) m t i (active_has (s.member m) t h)))
  open_counted t (VotedAt m i h) =
      key_of (open_numbers s) t (first_has here tabled t (union_has (length s.kinds) (λ m. open_here (s.member m)) m t i (voted_has (s.member m) t h)))

  abbrev taking : ℕ → ℕ → Numbers
  taking m c = table_numbers (filter (λ e. takes_part m e.1) (entries (s.coord c).table))

  in_table : (t m c : ℕ) → IsCoordinator s c → (x : Entry) → look (s.coord c).table t ≡ Some x → takes_part m x ≡ true → has_number (pairs_in s m) t ≡ true
  in_table t m c own x h p =
      key_of (open_between s m) t (second_has (open_here (s.member m)) (union_to s.coordinators (taking m)) t
      (union_has s.coordinators (taking m) c t own (passing_has (s.coord c).table m t x h p)))

  lacks_yes_takes : (m : ℕ) (o : Option Entry) → lacks_yes o m ≡ true → (x : Entry) × (o ≡ Some x) × (takes_part m x ≡ true)
  lacks_yes_takes m None h = absurd (let z : false ≡ true = h in cc)
  lacks_yes_takes m (Some entry.Idle) h = absurd (let z : false ≡ true = h in cc)
  lacks_yes_takes m (Some (entry.Collecting parts yeses)) h = (entry.Collecting parts yeses, refl, (and_parts _ _ h).0)
  lacks_yes_takes m (Some (entry.Committed members acks)) h = absurd (let z : false ≡ true = h in cc)

  lacks_ack_takes : (m : ℕ) (o : Option Entry) → lacks_ack o m ≡ true → (x : Entry) × (o ≡ Some x) × (takes_part m x ≡ true)
  lacks_ack_takes m None h = absurd (let z : false ≡ true = h in cc)
  lacks_ack_takes m (Some entry.Idle) h = absurd (let z : false ≡ true = h in cc)
  lacks_ack_takes m (Some (entry.Collecting parts yeses)) h = absurd (let z : false ≡ true = h in cc)
  lacks_ack_takes m (Some (entry.Committed members acks)) h = (entry.Committed members acks, refl, (and_parts _ _ h).0)

  data Some_left (a v y b : Bool) : Type 0 where
    OfActive : a ≡ true → Some_left a v y b
    OfVoted : v ≡ true → Some_left a v y b
    OfYes : y ≡ true → Some_left a v y b
    OfAck : b ≡ true → Some_left a v y b

  some_left : (a k v y b : Bool) → 1 ≤ weight a k v y b → Some_left a v y b
  some_left true k v y b h = OfActive refl
  some_left false k true y b h = OfVoted refl
  some_left false k false true b h = OfYes refl
  some_left false k false false true h = OfAck refl
  some_left false k false false false h = absurd (omega (arith, h))

  -- where something is left, the pair is counted
  pub pair_counted : (t m : ℕ) → 1 ≤ left_between s t m → has_number (pairs_in s m) t ≡ true
  pair_counted t m h = by (some_left _ _ _ _ _ h)
    where
      by : Some_left (holds (s.member m).engine.active t) (holds (s.member m).engine.voted t) (yes_lacking s t m) (ack_lacking s t m) → has_number (pairs_in s m) t ≡ true
      by (OfActive e) = key_of (open_between s m) t (first_has (open_here (s.member m)) (union_to s.coordinators (taking m)) t (active_has (s.member m) t e))
      by (OfVoted e) = key_of (open_between s m) t (first_has (open_here (s.member m)) (union_to s.coordinators (taking m)) t (voted_has (s.member m) t e))
      by (OfYes e) =
          let c = any_found s.coordinators (λ c. lacks_yes (look (s.coord c).table t) m) e in
          let x = lacks_yes_takes m (look (s.coord c.0).table t) c.3 in
          in_table t m c.0 (c.1, c.2) x.0 x.1 x.2
      by (OfAck e) =
          let c = any_found s.coordinators (λ c. lacks_ack (look (s.coord c).table t) m) e in
          let x = lacks_ack_takes m (look (s.coord c.0).table t) c.3 in
          in_table t m c.0 (c.1, c.2) x.0 x.1 x.2

  idle_held : (o : Option Entry) → is_idle o ≡ true → is_some o ≡ true
  idle_held None h = h
  idle_held (Some x) h = refl

  pub idle_counted : (t : ℕ) → 1 ≤ left_idle s t → has_number (numbers_in_state s) t ≡ true
  idle_counted t h = by (any_to s.coordinators (λ c. is_idle (look (s.coord c).table t))) refl h
    where
      by : (b : Bool) → any_to s.coordinators (λ c. is_idle (look (s.coord c).table t)) ≡ b → 1 ≤ (if b then 1 else 0) → has_number (numbers_in_state s) t ≡ true
      by true e l = let c = any_found s.coordinators (λ c. is_idle (look (s.coord c).table t)) e in open_counted t (InTable c.0 (c.1, c.2) (idle_held _ c.3))
      by false e l = absurd (omega (arith, l))

-- at most three for each pair, one for each transaction
over_three : (ks : List ℕ) (f : ℕ → ℕ) → ((t : ℕ) → f t ≤ 3) → sum_over ks f ≤ 3 * length ks
over_three [] f h = omega arith
over_three (k ∷ ks) f h = let a = h k in let b = over_three ks f h in omega (arith, a, b)

over_one : (ks : List ℕ) (f : ℕ → ℕ) → ((t : ℕ) → f t ≤ 1) → sum_over ks f ≤ length ks
over_one [] f h = omega arith
over_one (k ∷ ks) f h = let a = h k in let b = over_one ks f h in omega (arith, a, b)

to_three : (n : ℕ) (f g : ℕ → ℕ) → ((m : ℕ) → f m ≤ 3 * g m) → sum_to n f ≤ 3 * sum_to n g
to_three zero f g h = omega arith
to_three (suc n) f g h = let a = h (suc n) in let b = to_three n f g h in omega (arith, a, b)

idle_most : (b : Bool) → (if b then 1 else 0) ≤ 1
idle_most true = omega arith
idle_most false = omega arith

pub left_most : (s : Federation) → left_of (pairs_in s) (numbers_in_state s) s ≤ 3 * open_pairs s + open_count s
left_most s =
    let a = to_three (length s.kinds) (λ m. sum_over (pairs_in s m) (λ t. left_between s t m)) (λ m. length (pairs_in s m))
    (λ m. over_three (pairs_in s m) (λ t. left_between s t m) (λ t. weight_most _ _ _ _ _)) in
    let b = over_one (numbers_in_state s) (left_idle s) (λ t. idle_most _) in
    omega (arith, a, b)
