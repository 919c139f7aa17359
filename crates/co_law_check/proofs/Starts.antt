-- The records of members, read line by line, are laid in again as they were.
use Rattle.std.proofs.Common.{◌≡◌, ℕ, zero, suc, ◌+◌, ◌<◌, ◌≤◌, ◌==◌, ◌⊎◌, inl, inr, Bool, true, false, ◌&&◌, nat_lt, nat_le, T, List, [], ◌∷◌, ◌++◌, map, Option, None, Some, if◌then◌else◌, refl, sym, ap, ◌∙◌, subst, arith, append_assoc, append-nil}
use Rattle.std.proofs.lemmas.Bool.{ne_eqb, or_left, or_right}
use Rattle.std.proofs.lemmas.Bool.Decides.{nat_tests}
use Rattle.std.proofs.lemmas.Cmp.{nat_list_cmp_total}
use Rattle.std.proofs.lemmas.List.{map-append}
use Rattle.std.specs.FinMap.{empty, entries, entries_sorted, entries-insert, insert, len-entries, len-empty, same_entries_map}
use Rattle.std.specs.FinMap.Entries.{below_all, by_order, is_sorted, put}
use Rattle.std.specs.List.{AllByRecursion}
use Rattle.std.specs.Ordering.{is_lt, ordering_reverse}
use Rattle.std.specs.declared.cmp.Ordering.{Ordering}
use Rattle.std.specs.declared.cmp.Ordering.TheVariants.{Less, Equal, Greater}
use Rattle.co_base.specs.Order.{key_cmp}
use Rattle.co_serial.specs.MemberRows.{member_rows, numbered_rows}
use Rattle.co_serial.specs.Records.{row_of, all_rows}
use Rattle.co_serial.specs.SerialRun.{AllRecords}
use Rattle.co_serial.specs.declared.member_row.MemberRow.{MemberRow}
use Rattle.co_check.specs.Serial.{no_records}
use Rattle.co_check.specs.Stages.{InRecords, at_records, read_from}
use Rattle.co_check.specs.Starts.{name_of, is_behind, laid_in}
use Rattle.co_check.specs.declared.entry.Entry.{Entry}
use Rattle.co_check.specs.declared.entry.Entry.TheVariants as entry
use Rattle.co_check.specs.declared.starting.RecordName.{RecordName}
use Rattle.co_schedule.proofs.Numbers.{and_true}
use Rattle.co_law_check.proofs.Marks.{own}
use Rattle.co_law_check.proofs.Serially.{nothing_in}
use Rattle.co_law_check.proofs.Standing.{append_one}

-- ---- entries in the order of their keys

abbrev Pair : Type 0
Pair = List ℕ × List ℕ

is_above : (key low : List ℕ) → key_cmp low key ≡ Less → key_cmp key low ≡ Greater
is_above key low below = nat_list_cmp_total.antisymm key low ∙ ap ordering_reverse below

-- a key above all others is put behind them
put_last : (xs : List Pair) (key value : List ℕ) → AllByRecursion (λ e. key_cmp e.0 key ≡ Less) xs → put key_cmp key value xs ≡ xs ++ (key, value) ∷ []
put_last [] key value h = refl
put_last (e ∷ xs) key value h =
    ap (λ r. by_order r ((key, value) ∷ e ∷ xs) ((e.0, value) ∷ xs) (e ∷ put key_cmp key value xs)) (is_above key e.0 h.0) ∙ ap (λ ys. e ∷ ys) (put_last xs key value h.1)

parts : (a b : Bool) → T (a && b) → T a × T b
parts true b p = (tt, p)
parts false b p = absurd p

is_less : (r : Ordering) → T (is_lt r) → r ≡ Less
is_less Less p = refl
is_less Equal p = absurd p
is_less Greater p = absurd p

below_one : (low : List ℕ) (xs : List Pair) (y : Pair) (ys : List Pair) → T (below_all key_cmp low (xs ++ y ∷ ys)) → key_cmp low y.0 ≡ Less
below_one low [] y ys h = is_less (key_cmp low y.0) (parts (is_lt (key_cmp low y.0)) (below_all key_cmp low ys) h).0
below_one low (x ∷ xs) y ys h = below_one low xs y ys (parts (is_lt (key_cmp low x.0)) (below_all key_cmp low (xs ++ y ∷ ys)) h).1

all_below : (xs : List Pair) (y : Pair) (ys : List Pair) → T (is_sorted key_cmp (xs ++ y ∷ ys)) → AllByRecursion (λ e. key_cmp e.0 y.0 ≡ Less) xs
all_below [] y ys h = tt
all_below (x ∷ xs) y ys h =
    let p = parts (below_all key_cmp x.0 (xs ++ y ∷ ys)) (is_sorted key_cmp (xs ++ y ∷ ys)) h in (below_one x.0 xs y ys p.0, all_below xs y ys p.1)

-- of two that stand next to each other the first is below the second
next_below : (xs : List Pair) (y z : Pair) (zs : List Pair) → T (is_sorted key_cmp (xs ++ y ∷ z ∷ zs)) → key_cmp y.0 z.0 ≡ Less
next_below [] y z zs h = below_one y.0 [] z zs (parts (below_all key_cmp y.0 (z ∷ zs)) (is_sorted key_cmp (z ∷ zs)) h).0
next_below (x ∷ xs) y z zs h = next_below xs y z zs (parts (below_all key_cmp x.0 (xs ++ y ∷ z ∷ zs)) (is_sorted key_cmp (xs ++ y ∷ z ∷ zs)) h).1

no_entry : entries (empty {X = List ℕ} {R = key_cmp}) ≡ []
no_entry = nothing_in _ (sym (len-entries (empty {X = List ℕ} {R = key_cmp})) ∙ len-empty key_cmp (List ℕ))

-- ---- the records of one member

-- the first of them may stand behind the last record
abbrev MayFollow : Option RecordName → ℕ → List Pair → Type 0
MayFollow last m [] = Unit {0}
MayFollow last m (y ∷ ys) = is_behind last (record { member = m; row = row_of y }) ≡ true

abbrev IsUpTo : ℕ → Option RecordName → Type 0
IsUpTo m None = Unit {0}
IsUpTo m (Some name) = name.member ≤ m

follows : (m : ℕ) (xs : List Pair) (y : Pair) (ys : List Pair) → T (is_sorted key_cmp (xs ++ y ∷ ys)) → MayFollow (Some (name_of (record { member = m; row = row_of y }))) m ys
follows m xs y [] h = tt
follows m xs y (z ∷ zs) h = or_right (nat_lt m m) (m == m && is_lt (key_cmp y.0 z.0)) (and_true (m == m) (is_lt (key_cmp y.0 z.0)) (own m) (ap is_lt (next_below xs y z zs h)))

-- where a reader stands behind these of a member that has those already
record AreRead (m : ℕ) (last : Option RecordName) (start : AllRecords) (xs ys : List Pair) : Type 0 where
  behind : Option RecordName
  after : AllRecords
  laid : entries (after m) ≡ xs ++ ys
  others : (i : ℕ) → (m == i) ≡ false → after i ≡ start i
  up_to : IsUpTo m last → IsUpTo m behind
  reads : (more : List Entry) → read_from (Some (InRecords last start)) (map entry.Record (member_rows m (map row_of ys)) ++ more) ≡ read_from (Some (InRecords behind after)) more

read_member : (m : ℕ) (ys xs : List Pair) (last : Option RecordName) (start : AllRecords) → entries (start m) ≡ xs → T (is_sorted key_cmp (xs ++ ys)) → MayFollow last m ys → AreRead m last start xs ys
read_member m [] xs last start e h f = record { behind = last; after = start; laid = e ∙ sym (append-nil xs); others = λ i n. refl; up_to = λ u. u; reads = λ more. refl }
read_member m (y ∷ ys) xs last start e h f =
    let row : MemberRow = record { member = m; row = row_of y } in
    let next = laid_in start row in
    let one : entries (next m) ≡ xs ++ y ∷ [] =
    ap (λ b. entries (if b then insert (start m) y.0 y.1 else start m)) (own m) ∙ entries-insert nat_list_cmp_total (start m) y.0 y.1
    ∙ ap (put key_cmp y.0 y.1) e ∙ put_last xs y.0 y.1 (all_below xs y ys h) in
    let rest = read_member m ys (xs ++ y ∷ []) (Some (name_of row)) next one (subst (λ es. T (is_sorted key_cmp es)) (sym (append_one xs y ys)) h) (follows m xs y ys h) in
    record {
      behind = rest.behind;
      after = rest.after;
      laid = rest.laid ∙ append_one xs y ys;
      others = λ i n. rest.others i n ∙ ap (λ b. if b then insert (start m) y.0 y.1 else start i) n;
      up_to = λ u. rest.up_to (omega arith);
      reads = λ more.
          ap (λ b. read_from (if b then Some (InRecords (Some (name_of row)) next) else None) (map entry.Record (member_rows m (map row_of ys)) ++ more)) f ∙ rest.reads more;
    }

-- ---- the records of several

abbrev IsBelow : ℕ → Option RecordName → Type 0
IsBelow m None = Unit {0}
IsBelow m (Some name) = name.member < m

may_follow : (m : ℕ) (last : Option RecordName) (ys : List Pair) → IsBelow m last → MayFollow last m ys
may_follow m last [] h = tt
may_follow m None (y ∷ ys) h = refl
may_follow m (Some name) (y ∷ ys) h = or_left (nat_lt name.member m) _ (grind (arith, nat_tests, h))

below_up_to : (m : ℕ) (last : Option RecordName) → IsBelow m last → IsUpTo m last
below_up_to m None h = tt
below_up_to m (Some name) h = omega (arith, h)

up_to_below : (m : ℕ) (last : Option RecordName) → IsUpTo m last → IsBelow (suc m) last
up_to_below m None h = tt
up_to_below m (Some name) h = omega (arith, h)

record AreAllRead (all : AllRecords) (member count : ℕ) (last : Option RecordName) (start : AllRecords) : Type 0 where
  behind : Option RecordName
  after : AllRecords
  laid : (i : ℕ) → member ≤ i → i < member + count → after i ≡ all i
  others : (i : ℕ) → (i < member) ⊎ (member + count ≤ i) → after i ≡ start i
  reads : (more : List Entry) → read_from (Some (InRecords last start)) (map entry.Record (numbered_rows all member count) ++ more) ≡ read_from (Some (InRecords behind after)) more

not_it : (member i : ℕ) → (i < member) ⊎ (suc member ≤ i) → (member == i) ≡ false
not_it member i (inl l) = ne_eqb member i (λ e. absurd (omega (arith, l, e)))
not_it member i (inr l) = ne_eqb member i (λ e. absurd (omega (arith, l, e)))

read_members : (all : AllRecords) (count member : ℕ) (last : Option RecordName) (start : AllRecords) → IsBelow member last → ((i : ℕ) → member ≤ i → start i ≡ empty) → AreAllRead all member count last start
read_members all zero member last start b clear =
    record { behind = last; after = start; laid = λ i l u. absurd (omega (arith, l, u)); others = λ i away. refl; reads = λ more. refl }
read_members all (suc count) member last start b clear =
    let ys = entries (all member) in
    let one = read_member member ys [] last start (ap entries (clear member (omega arith)) ∙ no_entry) (entries_sorted (all member)) (may_follow member last ys b) in
    let same : one.after member ≡ all member = same_entries_map (one.after member) (all member) one.laid in
    let two = read_members all count (suc member) one.behind one.after (up_to_below member one.behind (one.up_to (below_up_to member last b)))
    (λ i l. one.others i (not_it member i (inr l)) ∙ clear i (omega (arith, l))) in
    record {
      behind = two.behind;
      after = two.after;
      laid = λ i l u. here two.after one.after same two.laid two.others i l u (nat_le (suc member) i) refl;
      others = λ i away. two.others i (away_from i away) ∙ one.others i (not_it member i (beside i away));
      reads = λ more.
          ap (λ es. read_from (Some (InRecords last start)) (es ++ more)) (map-append entry.Record (member_rows member (all_rows (all member))) (numbered_rows all (suc member) count))
          ∙ ap (read_from (Some (InRecords last start))) (append_assoc (map entry.Record (member_rows member (all_rows (all member)))) (map entry.Record (numbered_rows all (suc member) count)) more)
          ∙ one.reads (map entry.Record (numbered_rows all (suc member) count) ++ more) ∙ two.reads more;
    }
  where
    away_from : (i : ℕ) → (i < member) ⊎ (member + suc count ≤ i) → (i < suc member) ⊎ (suc member + count ≤ i)
    away_from i (inl l) = inl (omega (arith, l))
    away_from i (inr l) = inr (omega (arith, l))

    beside : (i : ℕ) → (i < member) ⊎ (member + suc count ≤ i) → (i < member) ⊎ (suc member ≤ i)
    beside i (inl l) = inl l
    beside i (inr l) = inr (omega (arith, l))

    here : (after between : AllRecords) → between member ≡ all member → ((i : ℕ) → suc member ≤ i → i < suc member + count → after i ≡ all i) → ((i : ℕ) → (i < suc member) ⊎ (suc member + count ≤ i) → after i ≡ between i) →
        (i : ℕ) → member ≤ i → i < member + suc count → (c : Bool) → nat_le (suc member) i ≡ c → after i ≡ all i
    here after between same laid others i l u true e = laid i (grind (arith, nat_tests, e)) (omega (arith, u))
    here after between same laid others i l u false e =
        let is : member ≡ i = grind (arith, nat_tests, e, l) in subst (λ k. after k ≡ all k) is (others member (inl (omega arith)) ∙ same)

-- the lines of all of them are read, and what was laid in is what they are
pub record AreLaid (all : AllRecords) (n : ℕ) : Type 0 where
  pub behind : Option RecordName
  pub reads : (more : List Entry) → read_from (Some at_records) (map entry.Record (numbered_rows all 1 n) ++ more) ≡ read_from (Some (InRecords behind all)) more

pub start_read : (all : AllRecords) (n : ℕ) → ((m : ℕ) → (nat_le 1 m && nat_le m n) ≡ false → all m ≡ empty) → AreLaid all n
start_read all n only =
    let r = read_members all n 1 None no_records tt (λ i l. refl) in
    let same : (i : ℕ) → r.after i ≡ all i = λ i. each r.after r.laid r.others i (nat_le 1 i) (nat_le i n) refl refl in
    record { behind = r.behind; reads = λ more. r.reads more ∙ ap (λ records. read_from (Some (InRecords r.behind records)) more) (λ j i. same i j) }
  where
    each : (after : AllRecords) → ((i : ℕ) → 1 ≤ i → i < 1 + n → after i ≡ all i) → ((i : ℕ) → (i < 1) ⊎ (1 + n ≤ i) → after i ≡ no_records i) →
        (i : ℕ) (a b : Bool) → nat_le 1 i ≡ a → nat_le i n ≡ b → after i ≡ all i
    each after laid others i true true e f = laid i (grind (arith, nat_tests, e)) (let l : i ≤ n = grind (arith, nat_tests, f) in omega (arith, l))
    each after laid others i false b e f = others i (inl (grind (arith, nat_tests, e))) ∙ sym (only i (ap (λ c. c && nat_le i n) e))
    each after laid others i true false e f =
        others i (inr (let l : n < i = grind (arith, nat_tests, f) in omega (arith, l))) ∙ sym (only i (ap (λ c. c && nat_le i n) e ∙ f))
