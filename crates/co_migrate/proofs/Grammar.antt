-- The records that fill a spare file are of the grammar, where those of the log are: each field and element of what they tell is in its set, and every list
-- in its order.
use Rattle.std.proofs.Common.{◌≡◌, ℕ, ◌+◌, ◌≤◌, Bool, true, false, ◌&&◌, T, List, [], ◌∷◌, ◌++◌, map, length, Option, None, Some, refl, sym, ap, subst, arith}
use Rattle.std.proofs.lemmas.List.{length-append}
use Rattle.std.specs.FinMap.{entries, entries_sorted, keys}
use Rattle.std.specs.FinMap.Entries.{is_sorted, below_all}
use Rattle.std.specs.List.{AllByRecursion}
use Rattle.std.specs.List.Sorted.{IsStrictlySortedBy}
use Rattle.std.specs.Ordering.{nat_cmp, is_lt}
use Rattle.std.specs.Prelude.{reverse}
use Rattle.std.specs.declared.cmp.Ordering.{Ordering}
use Rattle.std.specs.declared.cmp.Ordering.TheVariants.{Less, Equal, Greater}
use Rattle.co_base.specs.Limits.{most_coordinators, most_log_bytes, most_members}
use Rattle.co_base.specs.Nodes.{IsValidNode}
use Rattle.co_base.specs.Order.{IsAscending, key_cmp}
use Rattle.co_base.specs.RowOrder.{AreInKeyOrder, IsInKeyOrder}
use Rattle.co_base.specs.declared.node.Node.{Node}
use Rattle.co_base.specs.declared.node.Node.TheVariants as node
use Rattle.co_base.specs.declared.row.Row.{Row}
use Rattle.co_base.specs.declared.written.Written.{Written}
use Rattle.co_record.specs.Format.{newest}
use Rattle.co_record.specs.Spelling.{HasParts, IsChange, IsKey, IsRange, IsSpelled, IsSpelledIn, IsTxn, IsWritable, spelling}
use Rattle.co_record.specs.Stored.{AreRecords, HoldRecords}
use Rattle.co_record.specs.declared.record.Record.{Record}
use Rattle.co_record.specs.declared.record.Record.TheVariants as log
use Rattle.co_serial.specs.Records.{Records, all_rows, row_of}
use Rattle.co_state.specs.Effects.{records_from}
use Rattle.co_state.specs.Table.{look}
use Rattle.co_state.specs.declared.engine_state.Vote.{Vote}
use Rattle.co_log.specs.LogFile.{records_of, spelled}
use Rattle.co_log.specs.NodeFiles.{Items}
use Rattle.co_log.proofs.Counted.{checkpoint_long}
use Rattle.co_plain.specs.CoordView.{first_refused_at_coord, recovered_commits}
use Rattle.co_plain.specs.LogWrite.{generation_of}
use Rattle.co_plain.specs.MemberView.{Numbers, first_refused_at_member, install_in, recovered_view, view_with, with_number, with_numbers}
use Rattle.co_plain.specs.Numbers.{next_generation}
use Rattle.co_plain.specs.Opening.{made}
use Rattle.co_plain.specs.declared.member_view.MemberView.{MemberView}
use Rattle.co_member.specs.Checkpoint.{prepared, spare_items}
use Rattle.co_law_base.proofs.ImageRules.{EachEntry}
use Rattle.co_law_items.proofs.Named.{AreRecordsOf, Holds, all_rows_named, changes_named, holds_each, holds_nothing, holds_put, holds_without, no_records_named, rows_named}
use Rattle.co_law_migrate.specs.Migrated.{member_over, migrated}
use Rattle.co_law_migrate.proofs.Told.{coord_within, member_within}
use Rattle.co_law_node.specs.Writable.{IsWithinBounds}
use Rattle.co_law_node.proofs.WritableMembers.{in_bounds}
use Rattle.co_durable.proofs.Pairs.{all_map}
use Rattle.co_migrate.proofs.ToldAgain.{all_turned, commit, member_items, coord_items}

-- ---- lists in order

lesser : (r : Ordering) → T (is_lt r) → r ≡ Less
lesser Less h = refl
lesser Equal h = absurd h
lesser Greater h = absurd h

both : (a b : Bool) → T (a && b) → T a × T b
both true b h = (tt, h)
both false b h = absurd h

module _ {K X : Type 0} (cmp : K → K → Ordering) where
  below : (k : K) (es : List (K × X)) → T (below_all cmp k es) → AllByRecursion (λ y. cmp k y ≡ Less) (map (λ e. e.0) es)
  below k [] h = tt
  below k (e ∷ es) h = let p = both (is_lt (cmp k e.0)) (below_all cmp k es) h in (lesser (cmp k e.0) p.0, below k es p.1)

  strict : (es : List (K × X)) → T (is_sorted cmp es) → IsStrictlySortedBy cmp (map (λ e. e.0) es)
  unfolding IsStrictlySortedBy
  strict [] h = tt
  strict (e ∷ es) h = let p = both (below_all cmp e.0 es) (is_sorted cmp es) h in (below e.0 es p.0, strict es p.1)

row_keys : (es : List (List ℕ × List ℕ)) → map (λ (r : Row). r.key) (map row_of es) ≡ map (λ e. e.0) es
row_keys [] = refl
row_keys (e ∷ es) = ap (λ (ks : List (List ℕ)). e.0 ∷ ks) (row_keys es)

rows_ordered : (r : Records) → IsInKeyOrder (all_rows r)
rows_ordered r = subst (IsStrictlySortedBy key_cmp) (sym (row_keys (entries r))) (strict key_cmp (entries r) (entries_sorted r))

numbers_ordered : (n : Numbers) → IsAscending (keys n)
numbers_ordered n = strict nat_cmp (entries n) (entries_sorted n)

-- ---- the records of a file

module _ (version : ℕ) where
  each_record : (at : ℕ) (bytes : List ℕ) (items : Items) → AreRecords version at bytes items → AllByRecursion (IsSpelledIn version) (records_of items)
  each_record at bytes [] are = tt
  each_record at bytes (x ∷ items) are = (are.1, each_record (at + length (spelling version x.1)) are.2.0 items are.2.2)

  records_more : (front back : Items) → AllByRecursion (IsSpelledIn version) (records_of front) → AllByRecursion (IsSpelledIn version) (records_of back) →
      AllByRecursion (IsSpelledIn version) (records_of (front ++ back))
  records_more [] back f b = b
  records_more (x ∷ front) back f b = (f.0, records_more front back f.1 b)

  pub held_spelled : (gate : ℕ) (batches : List (List ℕ)) (items : Items) → HoldRecords version gate batches items → AllByRecursion (IsSpelledIn version) (records_of items)
  held_spelled gate [] items none = subst (λ (xs : Items). AllByRecursion (IsSpelledIn version) (records_of xs)) (sym none) tt
  held_spelled gate (batch ∷ batches) items held =
      subst (λ (xs : Items). AllByRecursion (IsSpelledIn version) (records_of xs)) (sym held.2)
      (records_more held.0 held.1 (each_record (gate + 5) batch held.0 held.3) (held_spelled (gate + 5 + length batch) batches held.1 held.4))

-- ---- what the records of a member tell

abbrev IsVoted : ℕ → Vote → Type 0
IsVoted t vote = IsTxn t × AllByRecursion IsRange vote.sets.reads × AllByRecursion IsChange vote.sets.writes

abbrev IsNumber : ℕ → Unit {0} → Type 0
IsNumber t one = IsTxn t

record IsOfGrammar (v : MemberView) : Type 0 where
  records : AreRecordsOf IsKey v.records
  voted : Holds IsVoted v.voted
  committed : Holds IsNumber v.committed

many_numbers : (ts : List ℕ) (n : Numbers) → Holds IsNumber n → AllByRecursion IsTxn ts → Holds IsNumber (with_numbers n ts)
many_numbers [] n h all = h
many_numbers (t ∷ ts) n h all = many_numbers ts (with_number n t) (holds_put IsNumber n h t tt all.0) all.1

installs : (v : MemberView) → IsOfGrammar v → (t : ℕ) → IsTxn t → (o : Option Vote) → look v.voted t ≡ o → IsOfGrammar (install_in v t o)
installs v g t small None e = g
installs v g t small (Some vote) e =
    record {
      records = changes_named IsKey vote.sets.writes v.records g.records (g.voted t vote e).2;
      voted = holds_without IsVoted v.voted g.voted t;
      committed = holds_put IsNumber v.committed g.committed t tt small;
    }

tells : (v : MemberView) → IsOfGrammar v → (r : Record) → HasParts r → IsOfGrammar (view_with v r)
tells v g (log.Header owner generation) h = g
tells v g (log.Prepare t coord count reads writes) h =
    record {
      records = g.records;
      voted = holds_put IsVoted v.voted g.voted t (record { coord = coord; count = count; sets = record { reads = reads; writes = writes } }) h;
      committed = g.committed;
    }
tells v g (log.Commit t members) h = installs v g t h (look v.voted t) refl
tells v g (log.Abort t) h = record { records = g.records; voted = holds_without IsVoted v.voted g.voted t; committed = g.committed }
tells v g (log.End t) h = g
tells v g (log.Checkpoint rows undos committed) h =
    record {
      records = changes_named IsKey undos (records_from rows) (rows_named IsKey rows h.0) h.2;
      voted = holds_nothing IsVoted;
      committed = many_numbers committed _ (holds_nothing IsNumber) h.3;
    }

told : (rs : List Record) → AllByRecursion HasParts rs → IsOfGrammar (recovered_view rs)
told [] h = record { records = no_records_named IsKey; voted = holds_nothing IsVoted; committed = holds_nothing IsNumber }
told (r ∷ rs) h = tells (recovered_view rs) (told rs h.1) r h.0

all_keys : (es : List (ℕ × Unit {0})) → EachEntry IsNumber es → AllByRecursion IsTxn (map (λ e. e.0) es)
all_keys [] h = tt
all_keys (e ∷ es) h = (h.0, all_keys es h.1)

votes_have : (es : List (ℕ × Vote)) → EachEntry IsVoted es → AllByRecursion HasParts (map prepared es)
votes_have [] h = tt
votes_have (e ∷ es) h = (h.0, votes_have es h.1)

-- ---- what those of a coordinator tell

unended_have : (rs : List Record) → AllByRecursion HasParts rs → Holds (λ t members. IsTxn t) (recovered_commits rs).unended
unended_have [] h = holds_nothing (λ t members. IsTxn t)
unended_have (log.Header owner generation ∷ rs) h = unended_have rs h.1
unended_have (log.Prepare t coord count reads writes ∷ rs) h = unended_have rs h.1
unended_have (log.Commit t [] ∷ rs) h = unended_have rs h.1
unended_have (log.Commit t (m ∷ ms) ∷ rs) h = holds_put (λ t members. IsTxn t) (recovered_commits rs).unended (unended_have rs h.1) t (m ∷ ms) h.0
unended_have (log.Abort t ∷ rs) h = unended_have rs h.1
unended_have (log.End t ∷ rs) h = holds_without (λ t members. IsTxn t) (recovered_commits rs).unended (unended_have rs h.1) t
unended_have (log.Checkpoint rows undos committed ∷ rs) h = unended_have rs h.1

commits_have : (es : List (ℕ × List ℕ)) → EachEntry (λ t members. IsTxn t) es → AllByRecursion HasParts (map commit es)
commits_have [] h = tt
commits_have (e ∷ es) h = (h.0, commits_have es h.1)

-- ---- a migrated log

pub migrated_parts : (owner : Node) (rs : List Record) → AllByRecursion HasParts rs → AllByRecursion HasParts (reverse (migrated owner rs))
migrated_parts (node.Member m) rs h =
    let g = told rs h in
    let v = recovered_view rs in
    subst (AllByRecursion HasParts) (sym (member_items m rs)) (
      omega arith,
      (
        (all_rows_named IsKey v.records g.records, rows_ordered v.records, tt, all_keys (entries v.committed) (holds_each IsNumber v.committed g.committed), numbers_ordered v.committed),
        votes_have (entries v.voted) (holds_each IsVoted v.voted g.voted),
      ),
    )
migrated_parts (node.Coord c) rs h =
    let unended = (recovered_commits rs).unended in
    subst (AllByRecursion HasParts) (sym (coord_items c rs))
    (omega arith, commits_have (entries unended) (holds_each (λ t members. IsTxn t) unended (unended_have rs h)))

-- ---- what can be written

all_pairs : (P Q : Record → Type 0) (rs : List Record) → AllByRecursion P rs → AllByRecursion Q rs → AllByRecursion (λ r. P r × Q r) rs
all_pairs P Q [] p q = tt
all_pairs P Q (r ∷ rs) p q = ((p.0, q.0), all_pairs P Q rs p.1 q.1)

votes_writable : (es : List (ℕ × Vote)) → AllByRecursion IsWithinBounds (map prepared es) → AllByRecursion IsWritable (map prepared es)
votes_writable [] all = tt
votes_writable (e ∷ es) all = (all.0, votes_writable es all.1)

-- a list that has room in a file has no more elements than are counted
counted_writable : (h : Record) (rows : List Row) (undos : List Written) (committed : List ℕ) (more : List Record) → AreInKeyOrder undos →
    length (spelled (h ∷ log.Checkpoint rows undos committed ∷ more)) ≤ most_log_bytes → IsWritable (log.Checkpoint rows undos committed)
counted_writable h rows undos committed more ordered room =
    let point = log.Checkpoint rows undos committed in
    let long = checkpoint_long rows undos committed in
    let front = length-append (spelling newest h) (spelled (point ∷ more)) in
    let back = length-append (spelling newest point) (spelled more) in
    let l0 = long.0 in
    let l1 = long.1 in
    let l2 = long.2 in
    (omega (arith, l0, front, back, room), omega (arith, l1, front, back, room), ordered, omega (arith, l2, front, back, room))

member_writable : (m : ℕ) (rs : List Record) → IsValidNode (node.Member m) → first_refused_at_member most_coordinators (reverse rs) ≡ None → AllByRecursion IsWritable rs →
    length (spelled (reverse (migrated (node.Member m) rs))) ≤ most_log_bytes → AllByRecursion IsWritable (reverse (migrated (node.Member m) rs))
member_writable m rs own allowed written room =
    let h = log.Header (node.Member m) (next_generation (generation_of (made (node.Member m) rs))) in
    let items = spare_items (member_over m rs) in
    let is = member_items m rs in
    let all : AllByRecursion IsWithinBounds (h ∷ items) =
    subst (AllByRecursion IsWithinBounds) is
    (all_turned IsWithinBounds (migrated (node.Member m) rs) (member_within most_coordinators m rs (omega arith) own allowed (all_map IsWritable IsWithinBounds in_bounds rs written))) in
    let fits : length (spelled (h ∷ items)) ≤ most_log_bytes = subst (λ (ys : List Record). length (spelled ys) ≤ most_log_bytes) is room in
    subst (AllByRecursion IsWritable) (sym is) (
      all.0,
      (
        counted_writable h (all_rows (recovered_view rs).records) [] (keys (recovered_view rs).committed) (map prepared (entries (recovered_view rs).voted)) all.1.0 fits,
        votes_writable (entries (recovered_view rs).voted) all.1.1,
      ),
    )

-- every record of the log is allowed at its place
abbrev pub StandsAlone : Node → List Record → Type 0
StandsAlone (node.Member m) rs = first_refused_at_member most_coordinators (reverse rs) ≡ None
StandsAlone (node.Coord c) rs = first_refused_at_coord most_members (reverse rs) ≡ None

pub migrated_spelled : (owner : Node) (rs : List Record) → IsValidNode owner → StandsAlone owner rs → AllByRecursion IsSpelled rs →
    length (spelled (reverse (migrated owner rs))) ≤ most_log_bytes → AllByRecursion IsSpelled (reverse (migrated owner rs))
migrated_spelled (node.Member m) rs own stands all room =
    all_pairs IsWritable HasParts (reverse (migrated (node.Member m) rs)) (member_writable m rs own stands (all_map IsSpelled IsWritable (λ r s. s.0) rs all) room)
    (migrated_parts (node.Member m) rs (all_map IsSpelled HasParts (λ r s. s.1) rs all))
migrated_spelled (node.Coord c) rs own stands all room =
    all_pairs IsWritable HasParts (reverse (migrated (node.Coord c) rs))
    (all_turned IsWritable (migrated (node.Coord c) rs) (coord_within most_members c rs (omega arith) own stands (all_map IsSpelled IsWritable (λ r s. s.0) rs all)))
    (migrated_parts (node.Coord c) rs (all_map IsSpelled HasParts (λ r s. s.1) rs all))
