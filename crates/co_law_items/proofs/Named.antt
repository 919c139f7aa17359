-- What states name is in the sets of its kind: keys, values and transaction numbers, in records, changes, operations and votes.
-- Which keys there may be is left open.
use Rattle.std.proofs.Common.{◌≡◌, ◌≢◌, ◌⊎◌, inl, inr, ℕ, Bool, true, false, cond, ◌&&◌, T, if◌then◌else◌, List, [], ◌∷◌, ◌++◌, map, filter, reverse, Option, None, Some, IfSome, refl, sym, ap, ◌∙◌, subst, arith}
use Rattle.std.proofs.lemmas.List.{reverse-append}
use Rattle.std.specs.FinMap.{empty, get, get-empty, entries, entries_sorted, get-entries}
use Rattle.std.specs.FinMap.Entries.{find, by_order, below_all, is_sorted}
use Rattle.std.specs.List.{AllByRecursion}
use Rattle.std.specs.List.Sorted.{IsStrictlySortedBy}
use Rattle.std.specs.Ordering.{is_eq, is_lt}
use Rattle.std.specs.declared.cmp.Ordering.{Ordering}
use Rattle.std.specs.declared.cmp.Ordering.TheVariants.{Less, Equal, Greater}
use Rattle.co_base.specs.Letters.{IsText, most_value_bytes}
use Rattle.co_base.specs.Order.{key_cmp}
use Rattle.co_base.specs.RowOrder.{IsInKeyOrder}
use Rattle.co_base.specs.Span.{Span, span_has}
use Rattle.co_base.specs.declared.op.Op.{Op}
use Rattle.co_base.specs.declared.op.Op.TheVariants.{Read, Write, Erase, Scan}
use Rattle.co_base.specs.declared.row.Row.{Row}
use Rattle.co_base.specs.declared.written.Written.{Written}
use Rattle.co_base.specs.Limits.{most_coordinators}
use Rattle.co_schedule.specs.View.{IsWithin, IsTxn}
use Rattle.co_serial.specs.Records.{Records, with_change, with_changes, row_of, all_rows, rows_within}
use Rattle.co_state.specs.Changes.{put_change, with_written, change_made, changes_of}
use Rattle.co_state.specs.Effects.{records_from, joined}
use Rattle.co_state.specs.Keys.{same_key}
use Rattle.co_state.specs.Table.{Table, no_entries, look, put, without, first_in, least_where, lesser}
use Rattle.co_state.specs.declared.engine_state.Operation.{Operation}
use Rattle.co_state.specs.declared.engine_state.Vote.{Vote}
use Rattle.co_law_engine.proofs.Keys.{get-change, same_key_is, same_key_refl}
use Rattle.co_law_base.proofs.Lookups.{is_nothing, look_none, put_cases, without_cases}
use Rattle.co_law_base.proofs.ImageRules.{EachEntry, each_entry}

-- ---- lists

module _ {A : Type 0} (P : A → Type 0) where
  pub all_append : (xs ys : List A) → AllByRecursion P xs → AllByRecursion P ys → AllByRecursion P (xs ++ ys)
  all_append [] ys a b = b
  all_append (x ∷ xs) ys a b = (a.0, all_append xs ys a.1 b)

  pub all_behind : (xs ys : List A) → AllByRecursion P (xs ++ ys) → AllByRecursion P ys
  all_behind [] ys a = a
  all_behind (x ∷ xs) ys a = all_behind xs ys a.1

  pub all_reverse : (xs : List A) → AllByRecursion P xs → AllByRecursion P (reverse xs)
  all_reverse [] a = tt
  all_reverse (x ∷ xs) a = subst (AllByRecursion P) (sym (reverse-append (x ∷ []) xs)) (all_append (reverse xs) (x ∷ []) (all_reverse xs a.1) (a.0, tt))

  pub all_filter : (test : A → Bool) (xs : List A) → AllByRecursion P xs → AllByRecursion P (filter test xs)
  all_filter test [] a = tt
  all_filter test (x ∷ xs) a = by (all_filter test xs a.1) (test x)
    where
      by : AllByRecursion P (filter test xs) → (b : Bool) → AllByRecursion P (cond b (x ∷ filter test xs) (filter test xs))
      by rest true = (a.0, rest)
      by rest false = rest

pub all_map : {A B : Type 0} (P : A → Type 0) (Q : B → Type 0) (f : A → B) → ((x : A) → P x → Q (f x)) → (xs : List A) → AllByRecursion P xs → AllByRecursion Q (map f xs)
all_map P Q f of [] a = tt
all_map P Q f of (x ∷ xs) a = (of x a.0, all_map P Q f of xs a.1)

pub all_as : {A : Type 0} (P Q : A → Type 0) → ((x : A) → P x → Q x) → (xs : List A) → AllByRecursion P xs → AllByRecursion Q xs
all_as P Q of [] a = tt
all_as P Q of (x ∷ xs) a = (of x a.0, all_as P Q of xs a.1)

-- ---- tables

module _ {X : Type 0} (Q : ℕ → X → Type 0) where
  -- it holds of each entry
  abbrev pub Holds : Table X → Type 0
  Holds table = (t : ℕ) (x : X) → look table t ≡ Some x → Q t x

  pub holds_nothing : Holds no_entries
  holds_nothing t x e = is_nothing (sym (look_none t) ∙ e)

  pub holds_put : (table : Table X) → Holds table → (t : ℕ) (x : X) → Q t x → Holds (put table t x)
  holds_put table h t x q u y e = by (put_cases table t x u y e)
    where
      by : ((t ≡ u) × (x ≡ y)) ⊎ ((t ≢ u) × (look table u ≡ Some y)) → Q u y
      by (inl p) = subst (λ k. Q k y) p.0 (subst (Q t) p.1 q)
      by (inr p) = h u y p.1

  pub holds_without : (table : Table X) → Holds table → (t : ℕ) → Holds (without table t)
  holds_without table h t u y e = h u y (without_cases table t u y e).1

  pub holds_each : (table : Table X) → Holds table → EachEntry Q (entries table)
  holds_each table h = each_entry Q (entries table) (entries_sorted table) (λ u x f. h u x (get-entries table u ∙ f))

  -- the number of an entry that passes a test
  first_numbered : (N : ℕ → Type 0) → ((t : ℕ) (x : X) → Q t x → N t) → (test : ℕ → X → Bool) (es : List (ℕ × X)) → EachEntry Q es → IfSome (first_in test es) N
  first_numbered N of test [] h = tt
  first_numbered N of test (e ∷ es) h = by (first_numbered N of test es h.1) (test e.0 e.1)
    where
      by : IfSome (first_in test es) N → (b : Bool) → IfSome (if b then Some e.0 else first_in test es) N
      by rest true = of e.0 e.1 h.0
      by rest false = rest

  pub least_numbered : (N : ℕ → Type 0) → ((t : ℕ) (x : X) → Q t x → N t) → (test : ℕ → X → Bool) (table : Table X) → Holds table → IfSome (least_where test table) N
  least_numbered N of test table h = first_numbered N of test (entries table) (holds_each table h)

pub lesser_numbered : (a b : Option ℕ) → IfSome a IsTxn → IfSome b IsTxn → IfSome (lesser a b) IsTxn
lesser_numbered None b h k = k
lesser_numbered (Some t) None h k = h
lesser_numbered (Some t) (Some u) h k = omega (arith, h, k)

-- ---- records and changes

abbrev pub IsValue : List ℕ → Type 0
IsValue = IsText most_value_bytes

below_nothing : (q : List ℕ) (es : List (List ℕ × List ℕ)) → T (below_all key_cmp q es) → find key_cmp q es ≡ None
below_nothing q [] h = refl
below_nothing q (e ∷ es) h = by (below_nothing q es) (key_cmp q e.0) refl h
  where
    by : (T (below_all key_cmp q es) → find key_cmp q es ≡ None) → (r : Ordering) → key_cmp q e.0 ≡ r → T (is_lt r && below_all key_cmp q es) → find key_cmp q (e ∷ es) ≡ None
    by rest Less f k = ap (λ r. cond (is_eq r) (Some e.1) (find key_cmp q es)) f ∙ rest k
    by rest Equal f k = absurd k
    by rest Greater f k = absurd k

-- keys that there may be
module _ (P : List ℕ → Type 0) where
  abbrev pub IsChangeOf : Written → Type 0
  IsChangeOf w = P w.key × IfSome w.value IsValue

  abbrev pub IsRowOf : Row → Type 0
  IsRowOf row = P row.key × IsValue row.value

  abbrev pub AreRecordsOf : Records → Type 0
  AreRecordsOf r = (key value : List ℕ) → get r key ≡ Some value → P key × IsValue value

  pub no_records_named : AreRecordsOf empty
  no_records_named key value e = is_nothing (sym (get-empty key_cmp key) ∙ e)

  pub change_named : (r : Records) → AreRecordsOf r → (key : List ℕ) (value : Option (List ℕ)) → P key → IfSome value IsValue → AreRecordsOf (with_change r key value)
  change_named r h key value p v q x e = by (same_key q key) refl (sym (get-change r key value q) ∙ e)
    where
      by : (b : Bool) → same_key q key ≡ b → (if b then value else get r q) ≡ Some x → P q × IsValue x
      by true f g = (subst P (sym (same_key_is q key f)) p, subst (λ o. IfSome o IsValue) g v)
      by false f g = h q x g

  pub changes_named : (ws : List Written) (r : Records) → AreRecordsOf r → AllByRecursion IsChangeOf ws → AreRecordsOf (with_changes r ws)
  changes_named [] r h c = h
  changes_named (w ∷ ws) r h c = changes_named ws (with_change r w.key w.value) (change_named r h w.key w.value c.0.0 c.0.1) c.1

  pub rows_named : (rows : List Row) → AllByRecursion IsRowOf rows → AreRecordsOf (records_from rows)
  rows_named [] h = no_records_named
  rows_named (row ∷ rows) h = change_named (records_from rows) (rows_named rows h.1) row.key (Some row.value) h.0.0 h.0.1

  abbrev IsEntryOf : List ℕ × List ℕ → Type 0
  IsEntryOf e = P e.0 × IsValue e.1

  entries_found : (es : List (List ℕ × List ℕ)) → T (is_sorted key_cmp es) → ((key value : List ℕ) → find key_cmp key es ≡ Some value → P key × IsValue value) → AllByRecursion IsEntryOf es
  entries_found [] s h = tt
  entries_found (e ∷ es) s h = (
    h e.0 e.1 (ap (λ b. cond b (Some e.1) (find key_cmp e.0 es)) (same_key_refl e.0)),
    entries_found es (second (below_all key_cmp e.0 es) s) (λ key value f. later key value f (same_key key e.0) refl),
  )
    where
      first : (a b : Bool) → T (a && b) → T a
      first true b k = tt
      first false b k = k

      second : (a : Bool) → T (a && is_sorted key_cmp es) → T (is_sorted key_cmp es)
      second true k = k
      second false k = absurd k

      later : (key value : List ℕ) → find key_cmp key es ≡ Some value → (b : Bool) → same_key key e.0 ≡ b → P key × IsValue value
      later key value f true g =
          is_nothing (sym (below_nothing e.0 es (first (below_all key_cmp e.0 es) (is_sorted key_cmp es) s)) ∙ ap (λ k. find key_cmp k es) (sym (same_key_is key e.0 g)) ∙ f)
      later key value f false g = h key value (ap (λ b. cond b (Some e.1) (find key_cmp key es)) g ∙ f)

  entries_named : (r : Records) → AreRecordsOf r → AllByRecursion IsEntryOf (entries r)
  entries_named r h = entries_found (entries r) (entries_sorted r) (λ key value f. h key value (get-entries r key ∙ f))

  pub all_rows_named : (r : Records) → AreRecordsOf r → AllByRecursion IsRowOf (all_rows r)
  all_rows_named r h = all_map IsEntryOf IsRowOf row_of (λ e p. p) (entries r) (entries_named r h)

  pub within_named : (r : Records) → AreRecordsOf r → (span : Span) → AllByRecursion IsRowOf (rows_within r span)
  within_named r h span =
      let test = λ (e : List ℕ × List ℕ). span_has span e.0 in
      all_map IsEntryOf IsRowOf row_of (λ e p. p) (filter test (entries r)) (all_filter IsEntryOf test (entries r) (entries_named r h))

  -- a change in its place
  pub put_named : (w : Written) (ws : List Written) → IsChangeOf w → AllByRecursion IsChangeOf ws → AllByRecursion IsChangeOf (put_change w ws)
  put_named w [] c h = (c, tt)
  put_named w (v ∷ vs) c h = by (put_named w vs c h.1) (key_cmp w.key v.key)
    where
      by : AllByRecursion IsChangeOf (put_change w vs) → (r : Ordering) → AllByRecursion IsChangeOf (by_order r (w ∷ v ∷ vs) (w ∷ vs) (v ∷ put_change w vs))
      by rest Less = (c, h)
      by rest Equal = (c, h.1)
      by rest Greater = (h.0, rest)

  pub joined_named : (ws vs : List Written) → AllByRecursion IsChangeOf ws → AllByRecursion IsChangeOf vs → AllByRecursion IsChangeOf (joined ws vs)
  joined_named [] vs h k = k
  joined_named (w ∷ ws) vs h k = put_named w (joined ws vs) h.0 (joined_named ws vs h.1 k)

  -- an operation, whose writes are of such keys
  abbrev pub IsOpOf : Op → Type 0
  IsOpOf (Read key) = Unit {0}
  IsOpOf (Write key value) = P key × IsValue value
  IsOpOf (Erase key) = P key
  IsOpOf (Scan span) = Unit {0}

  abbrev pub AreOperationsOf : List Operation → Type 0
  AreOperationsOf os = AllByRecursion (λ (o : Operation). IsOpOf o.op) os

  pub changes_of_named : (os : List Operation) → AreOperationsOf os → AllByRecursion IsChangeOf (changes_of os)
  changes_of_named [] h = tt
  changes_of_named (o ∷ os) h = by o.op h.0 (changes_of_named os h.1)
    where
      by : (op : Op) → IsOpOf op → AllByRecursion IsChangeOf (changes_of os) → AllByRecursion IsChangeOf (with_written (change_made op) (changes_of os))
      by (Read key) p rest = rest
      by (Scan span) p rest = rest
      by (Write key value) p rest = put_named (record { key = key; value = Some value }) (changes_of os) p rest
      by (Erase key) p rest = put_named (record { key = key; value = None }) (changes_of os) (p, tt) rest

  abbrev pub IsVoteOf : ℕ → Vote → Type 0
  IsVoteOf t vote = IsTxn t × IsWithin 1 most_coordinators vote.coord × AllByRecursion IsChangeOf vote.sets.writes

  abbrev pub AreActiveOf : ℕ → List Operation → Type 0
  AreActiveOf t os = IsTxn t × AreOperationsOf os
