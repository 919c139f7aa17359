-- Which keys a lock table holds, after each of its calls.
use Rattle.std.proofs.Common.{◌≡◌, ℕ, ◌+◌, ◌<◌, Bool, true, false, cond, ◌&&◌, ◌||◌, List, [], ◌∷◌, ◌++◌, length, take, get_or, Option, None, Some, refl, sym, ap, ◌∙◌}
use Rattle.std.specs.Prelude.{◌==◌}
use Rattle.std.specs.List.{list_any}
use Rattle.std.specs.Option.{is_some}
use Rattle.std.specs.FinMap.{get-empty}
use Rattle.std.specs.Ordering.{nat_cmp}
use Rattle.std.proofs.lemmas.List.{take_more}
use Rattle.co_base.specs.Span.{Span, span_has}
use Rattle.co_base.specs.declared.written.Written.{Written}
use Rattle.co_locktab.proofs.Orders.{same_number, one_number}
use Rattle.co_locktab.specs.declared.lock_table.LockTable.{LockTable}
use Rattle.co_locktab.specs.Locks.{Locks, no_locks, or_none, with_read, with_write, without_locks}
use Rattle.co_locktab.specs.Shown.{Shows}
use Rattle.co_state.proofs.Tables.{look-put, look-without}
use Rattle.co_state.specs.Keys.{same_key, reads_key, writes_key}
use Rattle.co_state.specs.Table.{Table, no_entries, look, put, without, holds}
use Rattle.co_state.specs.declared.engine_state.Sets.{Sets}
use Rattle.co_state.specs.declared.engine_state.Vote.{Vote}
use Rattle.co_recover.proofs.PlainLocks.{same_as, read_with, written_with, writes_unread, reads_unwritten, read_without, written_without}
use Rattle.co_recover.specs.Locked.{Held, Holds, with_reads, with_writes, sets_in, sets_at, held_by}

-- the same keys in other words
pub holds_same : (table : LockTable) (held other : Held) → ((u : ℕ) (q : List ℕ) → held.reads u q ≡ other.reads u q) → ((u : ℕ) (q : List ℕ) → held.writes u q ≡ other.writes u q) → Holds table held → Holds table other
holds_same table held other r w h = record {
  locks = h.locks;
  shown = h.shown;
  reads_are = λ u q. h.reads_are u q ∙ r u q;
  writes_are = λ u q. h.writes_are u q ∙ w u q;
}

nobody : {A : Type 0} (u : ℕ) → look (no_entries {X = A}) u ≡ None
nobody u = get-empty nat_cmp u

pub holds_nothing : (table : LockTable) → Shows table no_locks → Holds table (held_by no_entries)
holds_nothing table s = record {
  locks = no_locks;
  shown = s;
  reads_are = λ u q. ap (λ o. reads_key (or_none o) q) (nobody u) ∙ sym (ap (λ o. reads_key (sets_in o).reads q) (nobody u));
  writes_are = λ u q. ap (λ o. list_any (same_key q) (or_none o)) (nobody u) ∙ sym (ap (λ o. writes_key (sets_in o).writes q) (nobody u));
}

-- ---- one lock more, at the end of some
or_false : (b : Bool) → (b || false) ≡ b
or_false true = refl
or_false false = refl

nothing_more : (b r : Bool) → r ≡ ((b && false) || r)
nothing_more true r = refl
nothing_more false r = refl

pub no_reads : (table : LockTable) (held : Held) (t : ℕ) → Holds table held → Holds table (with_reads held t [])
no_reads table held t = holds_same table held (with_reads held t []) (λ u q. nothing_more (u == t) (held.reads u q)) (λ u q. refl)

pub no_writes : (table : LockTable) (held : Held) (t : ℕ) → Holds table held → Holds table (with_writes held t [])
no_writes table held t = holds_same table held (with_writes held t []) (λ u q. refl) (λ u q. nothing_more (u == t) (held.writes u q))

one_more : (b p q r : Bool) → ((b && p) || ((b && q) || r)) ≡ ((b && (q || p)) || r)
one_more true true true r = refl
one_more true true false r = refl
one_more true false true r = refl
one_more true false false r = refl
one_more false p q r = refl

or_along : (a b c d : Bool) → (b || c) ≡ d → ((a || b) || c) ≡ (a || d)
or_along true b c d e = refl
or_along false b c d e = e

either_read : (spans : List Span) (s : Span) (q : List ℕ) → (reads_key spans q || span_has s q) ≡ reads_key (spans ++ s ∷ []) q
either_read [] s q = sym (or_false (span_has s q))
either_read (r ∷ spans) s q = or_along (span_has r q) (reads_key spans q) (span_has s q) (reads_key (spans ++ s ∷ []) q) (either_read spans s q)

either_written : (ws : List Written) (w : Written) (q : List ℕ) → (writes_key ws q || same_key w.key q) ≡ writes_key (ws ++ w ∷ []) q
either_written [] w q = sym (or_false (same_key w.key q))
either_written (v ∷ ws) w q = or_along (same_key v.key q) (writes_key ws q) (same_key w.key q) (writes_key (ws ++ w ∷ []) q) (either_written ws w q)

taken : {A : Type 0} (xs : List A) (i : ℕ) (x : A) → i < length xs → x ≡ get_or xs i x → take i xs ++ x ∷ [] ≡ take (i + 1) xs
taken xs i x l is = ap (λ y. take i xs ++ y ∷ []) is ∙ sym (take_more xs i x l)

pub reads_more : (old new : LockTable) (held : Held) (t : ℕ) (spans : List Span) (i : ℕ) (s : Span) → i < length spans → s ≡ get_or spans i s → Holds old (with_reads held t (take i spans))
    → ((locks : Locks) → Shows old locks → Shows new (with_read locks t s)) → Holds new (with_reads held t (take (i + 1) spans))
reads_more old new held t spans i s l is h add = record {
  locks = with_read h.locks t s;
  shown = add h.locks h.shown;
  reads_are = λ u q. read_with h.locks t s u q ∙ ap (λ b. ((u == t) && span_has s q) || b) (h.reads_are u q)
      ∙ one_more (u == t) (span_has s q) (reads_key (take i spans) q) (held.reads u q)
      ∙ ap (λ b. ((u == t) && b) || held.reads u q) (either_read (take i spans) s q ∙ ap (λ (ss : List Span). reads_key ss q) (taken spans i s l is));
  writes_are = λ u q. ap (list_any (same_key q)) (writes_unread h.locks t s u) ∙ h.writes_are u q;
}

pub writes_more : (old new : LockTable) (held : Held) (t : ℕ) (ws : List Written) (i : ℕ) (w : Written) → i < length ws → w ≡ get_or ws i w → Holds old (with_writes held t (take i ws))
    → ((locks : Locks) → Shows old locks → Shows new (with_write locks t w.key)) → Holds new (with_writes held t (take (i + 1) ws))
writes_more old new held t ws i w l is h add = record {
  locks = with_write h.locks t w.key;
  shown = add h.locks h.shown;
  reads_are = λ u q. ap (λ (ss : List Span). reads_key ss q) (reads_unwritten h.locks t w.key u) ∙ h.reads_are u q;
  writes_are = λ u q. written_with h.locks t w.key u q ∙ ap (λ b. ((u == t) && same_key w.key q) || b) (h.writes_are u q)
      ∙ one_more (u == t) (same_key w.key q) (writes_key (take i ws) q) (held.writes u q)
      ∙ ap (λ b. ((u == t) && b) || held.writes u q) (either_written (take i ws) w q ∙ ap (λ (vs : List Written). writes_key vs q) (taken ws i w l is));
}

-- ---- one vote more, and one less
absent : (o : Option Vote) → is_some o ≡ false → o ≡ None
absent None h = refl
absent (Some vote) h = absurd (let q : true ≡ false = h in cc)

laid : (test : Sets → Bool) (b : Bool) (o : Option Vote) (vote : Vote) → test (sets_in None) ≡ false → (b ≡ true → o ≡ None) → ((b && test vote.sets) || test (sets_in o)) ≡ test (sets_in (cond b (Some vote) o))
laid test true o vote e none = ap (λ p. test vote.sets || test (sets_in p)) (none refl) ∙ ap (λ c. test vote.sets || c) e ∙ or_false (test vote.sets)
laid test false o vote e none = refl

pub holds_one_more : (table : LockTable) (voted : Table Vote) (t : ℕ) (vote : Vote) → holds voted t ≡ false
    → Holds table (with_writes (with_reads (held_by voted) t vote.sets.reads) t vote.sets.writes) → Holds table (held_by (put voted t vote))
holds_one_more table voted t vote none = holds_same table _ (held_by (put voted t vote)) (λ u q. now (λ s. reads_key s.reads q) refl u) (λ u q. now (λ s. writes_key s.writes q) refl u)
  where
    now : (test : Sets → Bool) → test (sets_in None) ≡ false → (u : ℕ) → (((u == t) && test vote.sets) || test (sets_at voted u)) ≡ test (sets_at (put voted t vote) u)
    now test e u =
        ap (λ b. (b && test vote.sets) || test (sets_at voted u)) (sym (same_as u t))
        ∙ laid test (same_number u t) (look voted u) vote e (λ is. ap (look voted) (one_number u t is) ∙ absent (look voted t) none)
        ∙ sym (ap (λ o. test (sets_in o)) (look-put voted t vote u))

cleared : (test : Sets → Bool) (b : Bool) (o : Option Vote) → test (sets_in None) ≡ false → cond b false (test (sets_in o)) ≡ test (sets_in (cond b None o))
cleared test true o e = sym e
cleared test false o e = refl

pub holds_one_less : (old new : LockTable) (voted : Table Vote) (t : ℕ) → Holds old (held_by voted) → ((locks : Locks) → Shows old locks → Shows new (without_locks locks t)) → Holds new (held_by (without voted t))
holds_one_less old new voted t h end = record {
  locks = without_locks h.locks t;
  shown = end h.locks h.shown;
  reads_are = λ u q. read_without h.locks.reads t u q ∙ ap (cond (same_number u t) false) (h.reads_are u q)
      ∙ cleared (λ s. reads_key s.reads q) (same_number u t) (look voted u) refl ∙ sym (ap (λ o. reads_key (sets_in o).reads q) (look-without voted t u));
  writes_are = λ u q. written_without h.locks.writes t u q ∙ ap (cond (same_number u t) false) (h.writes_are u q)
      ∙ cleared (λ s. writes_key s.writes q) (same_number u t) (look voted u) refl ∙ sym (ap (λ o. writes_key (sets_in o).writes q) (look-without voted t u));
}
