-- What a filled spare tells again is the migrated log.
use Rattle.std.proofs.Common.{◌≡◌, ℕ, ◌+◌, ◌<◌, Bool, true, false, cond, ◌&&◌, T, List, [], ◌∷◌, ◌++◌, map, Option, None, Some, refl, sym, ap, subst, ◌∙◌, append_assoc, arith}
use Rattle.std.specs.Prelude.{reverse, slice_get}
use Rattle.std.specs.Ordering.{nat_cmp, eq_by_cmp, is_lt}
use Rattle.std.specs.FinMap.{entries, entries_sorted, entries-from_sorted, from_sorted, get-entries, get-from_sorted}
use Rattle.std.specs.FinMap.Entries.{find, is_sorted, below_all}
use Rattle.std.specs.List.{AllByRecursion}
use Rattle.std.specs.Option.{option_map}
use Rattle.std.proofs.lemmas.List.{reverse-append, reverse-reverse}
use mathlib.Core.List.{reverse-cons}
use Rattle.co_base.specs.declared.node.Node.{Node}
use Rattle.co_base.specs.declared.node.Node.TheVariants as node
use Rattle.co_record.specs.declared.record.Record.{Record}
use Rattle.co_record.specs.declared.record.Record.TheVariants as log
use Rattle.co_record.specs.Spelling.{IsWritable}
use Rattle.co_state.specs.Table.{Table, look}
use Rattle.co_state.specs.declared.engine_state.Vote.{Vote}
use Rattle.co_state.proofs.Tables.{same_table}
use Rattle.co_log.specs.Current.{BeginsWith}
use Rattle.co_log.specs.NodeFiles.{Items, newest_first}
use Rattle.co_log.specs.LogFile.{records_of}
use Rattle.co_log.specs.Spare.{IsFillable}
use Rattle.co_plain.specs.CoordLog.{commits_onto}
use Rattle.co_plain.specs.CoordStep.{table_from}
use Rattle.co_plain.specs.CoordView.{recovered_commits}
use Rattle.co_plain.specs.LogWrite.{generation_in, generation_of}
use Rattle.co_plain.specs.MemberView.{recovered_view}
use Rattle.co_plain.specs.Numbers.{next_generation}
use Rattle.co_plain.specs.Opening.{made}
use Rattle.co_plain.specs.declared.coord_state.Entry.{Entry}
use Rattle.co_plain.specs.declared.coord_state.Entry.TheVariants as entry
use Rattle.co_recover.specs.Recovered.{past_of_member, past_of_coord, decided_of}
use Rattle.co_recover.specs.declared.past.CoordPast.{CoordPast}
use Rattle.co_recover.specs.declared.past.MemberPast.{MemberPast}
use Rattle.co_law_base.proofs.Commits.{from_cases, from_found}
use Rattle.co_law_node.specs.Writable.{IsWithinBounds}
use Rattle.co_durable.proofs.Firsts.{all_front}
use Rattle.co_durable.proofs.Pairs.{all_append}
use Rattle.co_member.specs.Checkpoint.{prepared, spare_items}
use Rattle.co_member.proofs.Filling.{prepared_alike, spare_is}
use Rattle.co_law_migrate.specs.Migrated.{member_over, migrated}
use Rattle.co_migrate.specs.Telling.{commit_again, member_again, coord_again}

-- ---- headers

first_is : (owner : Node) (generation : ℕ) (items : Items) → BeginsWith owner generation items → generation_in (slice_get (records_of items) 0) ≡ generation
first_is owner generation [] begins = absurd begins
first_is owner generation (x ∷ items) begins = ap (λ (y : ℕ × Record). generation_in (Some y.1)) begins

-- records that begin with a header are not made
made_alike : (owner : Node) (rs : List Record) → (rs ≡ [] → ⊥) → made owner rs ≡ rs
made_alike owner [] some = absurd (some refl)
made_alike owner (r ∷ rs) some = refl

some_records : (owner : Node) (generation : ℕ) (items : Items) → BeginsWith owner generation items → newest_first items ≡ [] → ⊥
some_records owner generation [] begins none = absurd begins
some_records owner generation (x ∷ items) begins none = empty (sym (reverse-reverse (x.1 ∷ records_of items)) ∙ ap reverse none)
  where
    empty : {r : Record} {rs : List Record} → r ∷ rs ≡ [] → ⊥
    empty e = absurd cc

next_one : (generation : ℕ) → generation < 4294967296 → (generation ≡ 4294967295 → ⊥) → next_generation generation ≡ generation + 1
next_one generation bound below = omega (arith, bound, below)

-- the generation of the migrated log is the next one
pub next_of : (owner : Node) (generation : ℕ) (items : Items) → BeginsWith owner generation items → generation < 4294967296 → (generation ≡ 4294967295 → ⊥) → next_generation (generation_of (made owner (newest_first items))) ≡ generation + 1
next_of owner generation items begins bound below =
    ap (λ (rs : List Record). next_generation (generation_of rs)) (made_alike owner (newest_first items) (some_records owner generation items begins))
    ∙ ap (λ (rs : List Record). next_generation (generation_in (slice_get rs 0))) (reverse-reverse (records_of items))
    ∙ ap next_generation (first_is owner generation items begins) ∙ next_one generation bound below

-- ---- lists that are turned

turned_back : (xs : List Record) (h : Record) → reverse (reverse xs ++ h ∷ []) ≡ h ∷ xs
turned_back xs h = reverse-append (reverse xs) (h ∷ []) ∙ ap (λ (rs : List Record). h ∷ rs) (reverse-reverse xs)

pub all_turned : (P : Record → Type 0) (xs : List Record) → AllByRecursion P xs → AllByRecursion P (reverse xs)
all_turned P [] all = tt
all_turned P (x ∷ xs) all = subst (AllByRecursion P) (sym (reverse-append (x ∷ []) xs)) (all_append P (reverse xs) (x ∷ []) (all_turned P xs all.1) (all.0, tt))

-- what is so of the turned records is so of them
unturned_all : (P : Record → Type 0) (xs : List Record) (h : Record) → AllByRecursion P (reverse xs ++ h ∷ []) → AllByRecursion P xs
unturned_all P xs h all = subst (AllByRecursion P) (reverse-reverse xs) (all_turned P (reverse xs) (all_front P (reverse xs) (h ∷ []) all))

-- ---- members

again_is : (m : ℕ) (rs : List Record) (past : MemberPast) → past ≡ past_of_member (recovered_view rs) → member_again past ≡ spare_items (member_over m rs)
again_is m rs past is =
    ap member_again is
    ∙ ap (λ (ps : List Record). log.Checkpoint (past_of_member (recovered_view rs)).rows [] (past_of_member (recovered_view rs)).committed ∷ ps) (prepared_alike (entries (recovered_view rs).voted))

migrated_member : (m : ℕ) (rs : List Record) → migrated (node.Member m) rs ≡ reverse (spare_items (member_over m rs)) ++ log.Header (node.Member m) (next_generation (generation_of (made (node.Member m) rs))) ∷ []
migrated_member m rs = sym (spare_is m (member_over m rs) (next_generation (generation_of (made (node.Member m) rs))))

-- oldest first, they are a header and what is told again
pub member_items : (m : ℕ) (rs : List Record) →
    reverse (migrated (node.Member m) rs) ≡ log.Header (node.Member m) (next_generation (generation_of (made (node.Member m) rs))) ∷ spare_items (member_over m rs)
member_items m rs =
    ap reverse (migrated_member m rs) ∙ turned_back (spare_items (member_over m rs)) (log.Header (node.Member m) (next_generation (generation_of (made (node.Member m) rs))))

pub member_told : (m generation : ℕ) (rs : List Record) (past : MemberPast) → past ≡ past_of_member (recovered_view rs) → next_generation (generation_of (made (node.Member m) rs)) ≡ generation + 1
    → log.Header (node.Member m) (generation + 1) ∷ member_again past ≡ reverse (migrated (node.Member m) rs)
member_told m generation rs past is next =
    let h = log.Header (node.Member m) (next_generation (generation_of (made (node.Member m) rs))) in
    ap (λ g. log.Header (node.Member m) g ∷ member_again past) (sym next) ∙ ap (λ (xs : List Record). h ∷ xs) (again_is m rs past is)
    ∙ sym (member_items m rs)

votes_fillable : (es : List (ℕ × Vote)) → AllByRecursion IsWithinBounds (map prepared es) → AllByRecursion IsFillable (map prepared es)
votes_fillable [] all = tt
votes_fillable (e ∷ es) all = (all.0, votes_fillable es all.1)

pub member_fillable : (m : ℕ) (rs : List Record) (past : MemberPast) → past ≡ past_of_member (recovered_view rs) → AllByRecursion IsWithinBounds (migrated (node.Member m) rs) → AllByRecursion IsFillable (member_again past)
member_fillable m rs past is within =
    let h = log.Header (node.Member m) (next_generation (generation_of (made (node.Member m) rs))) in
    let all = unturned_all IsWithinBounds (spare_items (member_over m rs)) h (subst (AllByRecursion IsWithinBounds) (migrated_member m rs) within) in
    subst (AllByRecursion IsFillable) (sym (again_is m rs past is)) (all.0, votes_fillable (entries (recovered_view rs).voted) all.1)

-- ---- coordinators

-- an entry of a table that is made from commits without end, and the commit record of each
abbrev pub committed : ℕ × List ℕ → ℕ × Entry
committed e = (e.0, entry.Committed e.1 [])

abbrev pub commit : ℕ × List ℕ → Record
commit e = log.Commit e.0 e.1

find_committed : (t : ℕ) (es : List (ℕ × List ℕ)) → find nat_cmp t (map committed es) ≡ option_map (λ ms. entry.Committed ms []) (find nat_cmp t es)
find_committed t [] = refl
find_committed t (e ∷ es) = by (eq_by_cmp nat_cmp t e.0) (find_committed t es)
  where
    by : (b : Bool) → find nat_cmp t (map committed es) ≡ option_map (λ ms. entry.Committed ms []) (find nat_cmp t es)
        → cond b (Some (entry.Committed e.1 [])) (find nat_cmp t (map committed es)) ≡ option_map (λ ms. entry.Committed ms []) (cond b (Some e.1) (find nat_cmp t es))
    by true rest = refl
    by false rest = rest

below_committed : (k : ℕ) (es : List (ℕ × List ℕ)) → below_all nat_cmp k (map committed es) ≡ below_all nat_cmp k es
below_committed k [] = refl
below_committed k (e ∷ es) = ap (λ b. is_lt (nat_cmp k e.0) && b) (below_committed k es)

sorted_committed : (es : List (ℕ × List ℕ)) → is_sorted nat_cmp (map committed es) ≡ is_sorted nat_cmp es
sorted_committed [] = refl
sorted_committed (e ∷ es) = ap (λ b. b && is_sorted nat_cmp (map committed es)) (below_committed e.0 es) ∙ ap (λ b. below_all nat_cmp e.0 es && b) (sorted_committed es)

module _ (unended : Table (List ℕ)) where
  sorted : T (is_sorted nat_cmp (map committed (entries unended)))
  sorted = subst T (sym (sorted_committed (entries unended))) (entries_sorted unended)

  table_is : table_from (entries unended) ≡ from_sorted (map committed (entries unended))
  table_is = same_table _ _ (λ t. by t (look unended t) refl (look (table_from (entries unended)) t) refl ∙ sym (found t))
    where
      found : (t : ℕ) → look (from_sorted (map committed (entries unended))) t ≡ option_map (λ ms. entry.Committed ms []) (look unended t)
      found t =
          get-from_sorted nat_cmp (map committed (entries unended)) t sorted ∙ find_committed t (entries unended)
          ∙ ap (option_map (λ ms. entry.Committed ms [])) (sym (get-entries unended t))

      by : (t : ℕ) (o : Option (List ℕ)) → look unended t ≡ o → (n : Option Entry) → look (table_from (entries unended)) t ≡ n → look (table_from (entries unended)) t ≡ option_map (λ ms. entry.Committed ms []) (look unended t)
      by t (Some ms) e n f = from_found unended t ms e ∙ ap (option_map (λ ks. entry.Committed ks [])) (sym e)
      by t None e None f = f ∙ ap (option_map (λ ks. entry.Committed ks [])) (sym e)
      by t None e (Some x) f = let p = from_cases unended t x f in absurd (let z : None ≡ Some p.0 = sym e ∙ p.1 in cc)

  entries_are : entries (table_from (entries unended)) ≡ map committed (entries unended)
  entries_are = ap entries table_is ∙ entries-from_sorted nat_cmp (map committed (entries unended)) sorted

commits_are : (records : List Record) (es : List (ℕ × List ℕ)) → commits_onto records (map committed es) ≡ reverse (map commit es) ++ records
commits_are records [] = refl
commits_are records (e ∷ es) =
    commits_are (commit e ∷ records) es ∙ sym (append_assoc (reverse (map commit es)) (commit e ∷ []) records)
    ∙ ap (λ (rs : List Record). rs ++ records) (sym (reverse-cons (commit e) (map commit es)))

commits_alike : (es : List (ℕ × List ℕ)) → map commit_again (map decided_of es) ≡ map commit es
commits_alike [] = refl
commits_alike (e ∷ es) = ap (λ (rs : List Record). commit e ∷ rs) (commits_alike es)

coord_again_is : (rs : List Record) (past : CoordPast) → past ≡ past_of_coord (recovered_commits rs) → coord_again past ≡ map commit (entries (recovered_commits rs).unended)
coord_again_is rs past is = ap coord_again is ∙ commits_alike (entries (recovered_commits rs).unended)

migrated_coord : (c : ℕ) (rs : List Record) → migrated (node.Coord c) rs ≡ reverse (map commit (entries (recovered_commits rs).unended)) ++ log.Header (node.Coord c) (next_generation (generation_of (made (node.Coord c) rs))) ∷ []
migrated_coord c rs =
    let h = log.Header (node.Coord c) (next_generation (generation_of (made (node.Coord c) rs))) in
    ap (commits_onto (h ∷ [])) (entries_are (recovered_commits rs).unended) ∙ commits_are (h ∷ []) (entries (recovered_commits rs).unended)

pub coord_items : (c : ℕ) (rs : List Record) →
    reverse (migrated (node.Coord c) rs) ≡ log.Header (node.Coord c) (next_generation (generation_of (made (node.Coord c) rs))) ∷ map commit (entries (recovered_commits rs).unended)
coord_items c rs =
    ap reverse (migrated_coord c rs)
    ∙ turned_back (map commit (entries (recovered_commits rs).unended)) (log.Header (node.Coord c) (next_generation (generation_of (made (node.Coord c) rs))))

pub coord_told : (c generation : ℕ) (rs : List Record) (past : CoordPast) → past ≡ past_of_coord (recovered_commits rs) → next_generation (generation_of (made (node.Coord c) rs)) ≡ generation + 1
    → log.Header (node.Coord c) (generation + 1) ∷ coord_again past ≡ reverse (migrated (node.Coord c) rs)
coord_told c generation rs past is next =
    let h = log.Header (node.Coord c) (next_generation (generation_of (made (node.Coord c) rs))) in
    ap (λ g. log.Header (node.Coord c) g ∷ coord_again past) (sym next) ∙ ap (λ (xs : List Record). h ∷ xs) (coord_again_is rs past is)
    ∙ sym (coord_items c rs)

commits_fillable : (es : List (ℕ × List ℕ)) → AllByRecursion IsWritable (map commit es) → AllByRecursion IsFillable (map commit es)
commits_fillable [] all = tt
commits_fillable (e ∷ es) all = (all.0, commits_fillable es all.1)

pub coord_fillable : (c : ℕ) (rs : List Record) (past : CoordPast) → past ≡ past_of_coord (recovered_commits rs) → AllByRecursion IsWritable (migrated (node.Coord c) rs) → AllByRecursion IsFillable (coord_again past)
coord_fillable c rs past is within =
    let h = log.Header (node.Coord c) (next_generation (generation_of (made (node.Coord c) rs))) in
    let all = unturned_all IsWritable (map commit (entries (recovered_commits rs).unended)) h (subst (AllByRecursion IsWritable) (migrated_coord c rs) within) in
    subst (AllByRecursion IsFillable) (sym (coord_again_is rs past is)) (commits_fillable (entries (recovered_commits rs).unended) all)
