-- Which votes are in conflict, by the keys that are held.
use Rattle.std.proofs.Common.{◌≡◌, ℕ, ◌+◌, ◌<◌, Bool, true, false, not, ◌&&◌, ◌||◌, List, [], ◌∷◌, length, drop, get_or, Option, None, Some, refl, sym, ap, ◌∙◌, true≢false, suc, ◌≤◌, add-one, drop-cons}
use Rattle.std.specs.Prelude.{◌==◌, is_none}
use Rattle.std.specs.List.{list_any}
use Rattle.std.specs.Option.{is_some}
use Rattle.std.specs.Cmp.{both_ways, eq_by_cmp_equiv}
use Rattle.std.proofs.lemmas.List.{drop_all}
use Rattle.co_base.specs.Span.{Span, span_has}
use Rattle.co_base.specs.declared.written.Written.{Written}
use Rattle.co_locktab.proofs.Orders.{keys_total}
use Rattle.co_locktab.specs.declared.lock_table.LockTable.{LockTable}
use Rattle.co_locktab.specs.Locks.{Locks, IsLeast, blocks_read, blocks_write, written_by}
use Rattle.co_locktab.specs.Shown.{Shows}
use Rattle.co_plain.specs.MemberView.{sets_conflict}
use Rattle.co_state.specs.Changes.{no_sets}
use Rattle.co_state.specs.Keys.{same_key, reads_key, writes_key, writes_within, reads_meet, writes_meet}
use Rattle.co_state.specs.Table.{Table, look, holds}
use Rattle.co_state.specs.declared.engine_state.Sets.{Sets}
use Rattle.co_state.specs.declared.engine_state.Vote.{Vote}
use Rattle.co_recover.proofs.PlainLocks.{or_true, same_key_is, one_of}
use Rattle.co_recover.proofs.Finding.{none_where, some_where}
use Rattle.co_recover.specs.Locked.{Holds, IsFound, held_by, is_against, sets_in, sets_at, some_conflicts}

-- ---- written keys of a range, by two lists that have the same keys
holds_key : (k : List ℕ) (ws : List Written) → writes_key ws k ≡ true → (span : Span) → span_has span k ≡ true → writes_within ws span ≡ true
holds_key k [] h span e = absurd (true≢false (sym h))
holds_key k (w ∷ ws) h span e = by (same_key w.key k) refl h (λ r. holds_key k ws r span e)
  where
    by : (b : Bool) → same_key w.key k ≡ b → (b || writes_key ws k) ≡ true → (writes_key ws k ≡ true → writes_within ws span ≡ true) → (span_has span w.key || writes_within ws span) ≡ true
    by true t f rest = ap (λ b. b || writes_within ws span) (ap (span_has span) (same_key_is w.key k t) ∙ e)
    by false t f rest = ap (λ b. span_has span w.key || b) (rest f) ∙ or_true (span_has span w.key)

record Within (test : List ℕ → Bool) (span : Span) : Type 0 where
  pub key : List ℕ
  pub there : test key ≡ true
  pub inside : span_has span key ≡ true

itself : (k : List ℕ) → same_key k k ≡ true
itself k = (eq_by_cmp_equiv keys_total).refl k

within_written : (ws : List Written) (span : Span) → writes_within ws span ≡ true → Within (writes_key ws) span
within_written [] span h = absurd (true≢false (sym h))
within_written (w ∷ ws) span h = by (span_has span w.key) refl h (within_written ws span)
  where
    by : (b : Bool) → span_has span w.key ≡ b → (b || writes_within ws span) ≡ true → (writes_within ws span ≡ true → Within (writes_key ws) span) → Within (writes_key (w ∷ ws)) span
    by true t f rest = record { key = w.key; there = ap (λ b. b || writes_key ws w.key) (itself w.key); inside = t }
    by false t f rest = let x = rest f in record { key = x.key; there = ap (λ b. same_key w.key x.key || b) x.there ∙ or_true (same_key w.key x.key); inside = x.inside }

within_keys : (ks : List (List ℕ)) (span : Span) → list_any (span_has span) ks ≡ true → Within (λ q. list_any (same_key q) ks) span
within_keys [] span h = absurd (true≢false (sym h))
within_keys (k ∷ ks) span h = by (span_has span k) refl h (within_keys ks span)
  where
    by : (b : Bool) → span_has span k ≡ b → (b || list_any (span_has span) ks) ≡ true → (list_any (span_has span) ks ≡ true → Within (λ q. list_any (same_key q) ks) span) → Within (λ q. list_any (same_key q) (k ∷ ks)) span
    by true t f rest = record { key = k; there = ap (λ b. b || list_any (same_key k) ks) (itself k); inside = t }
    by false t f rest = let x = rest f in record { key = x.key; there = ap (λ b. same_key x.key k || b) x.there ∙ or_true (same_key x.key k); inside = x.inside }

has_within : (ks : List (List ℕ)) (span : Span) (q : List ℕ) → list_any (same_key q) ks ≡ true → span_has span q ≡ true → list_any (span_has span) ks ≡ true
has_within [] span q h e = absurd (true≢false (sym h))
has_within (k ∷ ks) span q h e = by (same_key q k) refl h (λ r. has_within ks span q r e)
  where
    by : (b : Bool) → same_key q k ≡ b → (b || list_any (same_key q) ks) ≡ true → (list_any (same_key q) ks ≡ true → list_any (span_has span) ks ≡ true) → (span_has span k || list_any (span_has span) ks) ≡ true
    by true t f rest = ap (λ b. b || list_any (span_has span) ks) (ap (span_has span) (sym (same_key_is q k t)) ∙ e)
    by false t f rest = ap (λ b. span_has span k || b) (rest f) ∙ or_true (span_has span k)

within_alike : (ks : List (List ℕ)) (ws : List Written) (span : Span) → ((q : List ℕ) → list_any (same_key q) ks ≡ writes_key ws q) → list_any (span_has span) ks ≡ writes_within ws span
within_alike ks ws span same = both_ways _ _
    (λ e. let x = within_keys ks span e in holds_key x.key ws (sym (same x.key) ∙ x.there) span x.inside)
    (λ e. let x = within_written ws span e in has_within ks span x.key (same x.key ∙ x.there) x.inside)

-- ---- who is in the way of one range, and of one key
least_found : (test other : ℕ → Bool) (o : Option ℕ) → ((u : ℕ) → test u ≡ other u) → IsLeast test o → IsFound other o
least_found test other None same h = λ u. sym (same u) ∙ h u
least_found test other (Some u) same h = sym (same u) ∙ h.0

pub found_same : (test other : ℕ → Bool) (o : Option ℕ) → ((u : ℕ) → test u ≡ other u) → IsFound test o → IsFound other o
found_same test other None same h = λ u. sym (same u) ∙ h u
found_same test other (Some u) same h = sym (same u) ∙ h

pub none_found : (test : ℕ → Bool) (o : Option ℕ) → ((u : ℕ) → o ≡ Some u → ⊥) → IsFound test o → (u : ℕ) → test u ≡ false
none_found test None nobody h = h
none_found test (Some u) nobody h = absurd (nobody u refl)

pub read_found : (table : LockTable) (voted : Table Vote) (t : ℕ) (span : Span) (o : Option ℕ) → Holds table (held_by voted) → ((locks : Locks) → Shows table locks → IsLeast (blocks_read locks t span) o)
    → IsFound (λ u. not (u == t) && writes_within (sets_at voted u).writes span) o
read_found table voted t span o h least = least_found (blocks_read h.locks t span) _ o
    (λ u. ap (λ b. not (u == t) && b) (within_alike (written_by h.locks u) (sets_at voted u).writes span (h.writes_are u)))
    (least h.locks h.shown)

turned : (a b : Bool) → (a || b) ≡ (b || a)
turned true b = sym (or_true b)
turned false true = refl
turned false false = refl

pub write_found : (table : LockTable) (voted : Table Vote) (t : ℕ) (key : List ℕ) (o : Option ℕ) → Holds table (held_by voted) → ((locks : Locks) → Shows table locks → IsLeast (blocks_write locks t key) o)
    → IsFound (λ u. not (u == t) && (reads_key (sets_at voted u).reads key || writes_key (sets_at voted u).writes key)) o
write_found table voted t key o h least = least_found (blocks_write h.locks t key) _ o
    (λ u. ap (λ b. not (u == t) && b) ((λ i. h.writes_are u key i || h.reads_are u key i) ∙ turned (writes_key (sets_at voted u).writes key) (reads_key (sets_at voted u).reads key)))
    (least h.locks h.shown)

-- ---- one range, or one change, and those behind it
shuffled : (a b c d : Bool) → ((a || b) || (c || d)) ≡ ((a || c) || (b || d))
shuffled true b c d = refl
shuffled false true c d = sym (or_true c)
shuffled false false c d = refl

first_read : (s : Span) (ss : List Span) (ws : List Written) → reads_meet (s ∷ ss) ws ≡ (writes_within ws s || reads_meet ss ws)
first_read s ss [] = refl
first_read s ss (w ∷ ws) = ap (λ b. (span_has s w.key || reads_key ss w.key) || b) (first_read s ss ws) ∙ shuffled (span_has s w.key) (reads_key ss w.key) (writes_within ws s) (reads_meet ss ws)

hit : (n a b : Bool) → (n && a) ≡ true → (n && (a || b)) ≡ true
hit true true b e = refl
hit true false b e = absurd (true≢false (sym e))
hit false a b e = e

missed : (n a b : Bool) → (n && a) ≡ false → (n && (a || b)) ≡ (n && b)
missed true true b e = absurd (true≢false e)
missed true false b e = refl
missed false a b e = refl

-- what is behind a place of a list, from that place on
pub rest_of : {A : Type 0} (xs : List A) (i : ℕ) (x : A) → i < length xs → x ≡ get_or xs i x → drop i xs ≡ x ∷ drop (i + 1) xs
rest_of xs i x l is = drop-cons xs i x l ∙ ap (λ y. y ∷ drop (suc i) xs) (sym is) ∙ ap (λ n. x ∷ drop n xs) (sym (add-one i))

pub read_hit : (n : Bool) (spans : List Span) (i : ℕ) (s : Span) (ws : List Written) → i < length spans → s ≡ get_or spans i s → (n && writes_within ws s) ≡ true → (n && reads_meet (drop i spans) ws) ≡ true
read_hit n spans i s ws l is e =
    ap (λ (ss : List Span). n && reads_meet ss ws) (rest_of spans i s l is) ∙ ap (λ b. n && b) (first_read s (drop (i + 1) spans) ws) ∙ hit n (writes_within ws s) (reads_meet (drop (i + 1) spans) ws) e

pub read_missed : (n : Bool) (spans : List Span) (i : ℕ) (s : Span) (ws : List Written) → i < length spans → s ≡ get_or spans i s → (n && writes_within ws s) ≡ false
    → (n && reads_meet (drop (i + 1) spans) ws) ≡ (n && reads_meet (drop i spans) ws)
read_missed n spans i s ws l is e =
    sym (ap (λ (ss : List Span). n && reads_meet ss ws) (rest_of spans i s l is) ∙ ap (λ b. n && b) (first_read s (drop (i + 1) spans) ws) ∙ missed n (writes_within ws s) (reads_meet (drop (i + 1) spans) ws) e)

-- whether a change is of a key that was read or written
abbrev pub meets : Sets → List Written → Bool
meets sets ws = reads_meet sets.reads ws || writes_meet sets.writes ws

abbrev pub touches : Sets → List ℕ → Bool
touches sets key = reads_key sets.reads key || writes_key sets.writes key

first_write : (sets : Sets) (w : Written) (ws : List Written) → meets sets (w ∷ ws) ≡ (touches sets w.key || meets sets ws)
first_write sets w ws = shuffled (reads_key sets.reads w.key) (reads_meet sets.reads ws) (writes_key sets.writes w.key) (writes_meet sets.writes ws)

pub write_hit : (n : Bool) (ws : List Written) (i : ℕ) (w : Written) (sets : Sets) → i < length ws → w ≡ get_or ws i w → (n && touches sets w.key) ≡ true → (n && meets sets (drop i ws)) ≡ true
write_hit n ws i w sets l is e =
    ap (λ (vs : List Written). n && meets sets vs) (rest_of ws i w l is) ∙ ap (λ b. n && b) (first_write sets w (drop (i + 1) ws)) ∙ hit n (touches sets w.key) (meets sets (drop (i + 1) ws)) e

pub write_missed : (n : Bool) (ws : List Written) (i : ℕ) (w : Written) (sets : Sets) → i < length ws → w ≡ get_or ws i w → (n && touches sets w.key) ≡ false
    → (n && meets sets (drop (i + 1) ws)) ≡ (n && meets sets (drop i ws))
write_missed n ws i w sets l is e =
    sym (ap (λ (vs : List Written). n && meets sets vs) (rest_of ws i w l is) ∙ ap (λ b. n && b) (first_write sets w (drop (i + 1) ws)) ∙ missed n (touches sets w.key) (meets sets (drop (i + 1) ws)) e)

-- ---- at the end of a list
and_false : (b : Bool) → (b && false) ≡ false
and_false true = refl
and_false false = refl

no_reads_met : (ws : List Written) → reads_meet [] ws ≡ false
no_reads_met [] = refl
no_reads_met (w ∷ ws) = no_reads_met ws

pub reads_end : (n : Bool) (spans : List Span) (i : ℕ) (ws : List Written) → length spans ≤ i → (n && reads_meet (drop i spans) ws) ≡ false
reads_end n spans i ws l = ap (λ (ss : List Span). n && reads_meet ss ws) (drop_all i spans l) ∙ ap (λ b. n && b) (no_reads_met ws) ∙ and_false n

pub writes_end : (n : Bool) (ws : List Written) (i : ℕ) (sets : Sets) → length ws ≤ i → (n && meets sets (drop i ws)) ≡ false
writes_end n ws i sets l = ap (λ (vs : List Written). n && meets sets vs) (drop_all i ws l) ∙ and_false n

-- ---- a vote that is in conflict
three : (a b c : Bool) → ((a || b) || c) ≡ (b || (a || c))
three true b c = sym (or_true b)
three false b c = refl

pub against : (voted : Table Vote) (t : ℕ) (sets : Sets) (u : ℕ)
    → is_against voted t sets u ≡ (not (u == t) && (reads_meet sets.reads (sets_at voted u).writes || meets (sets_at voted u) sets.writes))
against voted t sets u = ap (λ b. not (u == t) && b) (three (reads_meet (sets_at voted u).reads sets.writes) (reads_meet sets.reads (sets_at voted u).writes) (writes_meet (sets_at voted u).writes sets.writes))

no_writes_met : (vs : List Written) → writes_meet [] vs ≡ false
no_writes_met [] = refl
no_writes_met (v ∷ vs) = no_writes_met vs

nobody_conflicts : (sets : Sets) → sets_conflict no_sets sets ≡ false
nobody_conflicts sets = ap (λ b. (b || false) || writes_meet [] sets.writes) (no_reads_met sets.writes) ∙ no_writes_met sets.writes

second_of : (a b : Bool) → (a && b) ≡ true → b ≡ true
second_of true b e = e
second_of false b e = absurd (true≢false (sym e))

not_other : (t u : ℕ) (voted : Table Vote) (vote : Vote) → holds voted t ≡ false → look voted u ≡ Some vote → (u == t) ≡ false
not_other t u voted vote none is = by (u == t) refl
  where
    by : (b : Bool) → (u == t) ≡ b → b ≡ false
    by true e = absurd (true≢false (sym (ap is_some (sym (ap (look voted) (one_of u t e)) ∙ is)) ∙ none))
    by false e = refl

apart : (voted : Table Vote) (t : ℕ) (sets : Sets) (u : ℕ) (vote : Vote) → holds voted t ≡ false → look voted u ≡ Some vote → is_against voted t sets u ≡ false → sets_conflict vote.sets sets ≡ false
apart voted t sets u vote none is h = sym (λ i. not (not_other t u voted vote none is i) && sets_conflict (sets_in (is i)) sets) ∙ h

-- a vote was found where there is one that is in conflict
pub found_conflict : (voted : Table Vote) (t : ℕ) (sets : Sets) (o : Option ℕ) → holds voted t ≡ false → IsFound (is_against voted t sets) o → is_some o ≡ some_conflicts voted sets
found_conflict voted t sets None none h =
    sym (ap (λ (f : Option ℕ). not (is_none f)) (none_where (λ u vote. sets_conflict vote.sets sets) voted (λ u vote is. apart voted t sets u vote none is (h u))))
found_conflict voted t sets (Some u) none h = by (look voted u) refl
  where
    conflict : sets_conflict (sets_at voted u) sets ≡ true
    conflict = second_of (not (u == t)) (sets_conflict (sets_at voted u) sets) h

    by : (o : Option Vote) → look voted u ≡ o → true ≡ some_conflicts voted sets
    by None is = absurd (true≢false (sym conflict ∙ ap (λ p. sets_conflict (sets_in p) sets) is ∙ nobody_conflicts sets))
    by (Some vote) is = sym (ap not (some_where (λ v x. sets_conflict x.sets sets) voted u vote is (ap (λ p. sets_conflict (sets_in p) sets) (sym is) ∙ conflict)))

-- what was found says whether the vote is one more
pub answered : (table : LockTable) (inside voted : Table Vote) (t : ℕ) (vote : Vote) (sets : Sets) (o : Option ℕ) → inside ≡ voted → holds voted t ≡ false → sets ≡ vote.sets → Holds table (held_by inside)
    → ((v : Table Vote) → Holds table (held_by v) → IsFound (is_against v t sets) o) → is_some o ≡ some_conflicts voted vote.sets
answered table inside voted t vote sets o is none same h found =
    found_conflict inside t sets o (ap (λ v. holds v t) is ∙ none) (found inside h) ∙ (λ i. some_conflicts (is i) (same i))
