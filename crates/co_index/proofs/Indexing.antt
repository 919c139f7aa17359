-- The index stays that of the engine state.
use Rattle.std.proofs.Common.{◌≡◌, ℕ, Bool, true, false, cond, not, ◌&&◌, ◌||◌, List, [], ◌∷◌, if◌then◌else◌, is_some, Option, None, Some, refl, sym, ap, ◌∙◌, subst}
use Rattle.std.specs.List.{list_any}
use Rattle.std.specs.FinMap.{get-empty}
use Rattle.std.specs.Ordering.{nat_cmp}
use Rattle.co_base.specs.Order.{key_cmp}
use Rattle.co_base.specs.Span.{Span, span_has}
use Rattle.co_base.specs.declared.op.Op.{Op}
use Rattle.co_base.specs.declared.written.Written.{Written}
use Rattle.co_pairs.specs.declared.prepared.Prepared.{Prepared}
use Rattle.co_pairs.specs.Votes.{vote_in}
use Rattle.co_state.specs.declared.engine_state.EngineState.{EngineState}
use Rattle.co_state.specs.declared.engine_state.Operation.{Operation}
use Rattle.co_state.specs.declared.engine_state.Sets.{Sets}
use Rattle.co_state.specs.declared.engine_state.Vote.{Vote}
use Rattle.co_state.specs.Changes.{span_read, change_made, put_span, put_change, with_span, with_written, sets_of}
use Rattle.co_state.specs.Effects.{with_operation, after_cast, after_drop}
use Rattle.co_state.specs.EngineState.{is_undecided, operations_in, operations_of, sets_in, sets_at}
use Rattle.co_state.specs.Keys.{same_key, reads_key, writes_key}
use Rattle.co_state.specs.ReadRule.{snapshot_of}
use Rattle.co_state.specs.Table.{Table, look, put, without, holds}
use Rattle.co_state.proofs.Tables.{look-put, look-without, put-without}
use Rattle.co_state.proofs.Ties.{tied, ties-itself}
use Rattle.co_index.specs.declared.index.Index.{Index}
use Rattle.co_index.specs.Touching.{or_nobody, touch_at, spans_in, scans, with_scan, no_index, read_at, with_read, with_write, with_reads, with_writes, with_votes, with_mark, forgotten_at, without_read, without_write, without_reads, without_writes, read_noted, change_noted}
use Rattle.co_index.specs.Indexed.{is_alone, reads_alone, is_wide, reads_wide, TellsOf, IsIndexOf, with_vote}
use Rattle.co_index.proofs.Keys as key
use Rattle.co_index.proofs.Putting.{any-put, reads_key-put, writes_key-put}
use Rattle.co_index.proofs.Touching.{same_txn, touched, forgotten, marks, with_true, own_of, other_of, nobody_at}

-- ---- of another transaction the index tells the same
record IsSameAt (x y : Index) (u : ℕ) : Type 0 where
  writers : (key : List ℕ) → touch_at y.writers key u ≡ touch_at x.writers key u
  readers : (key : List ℕ) → touch_at y.readers key u ≡ touch_at x.readers key u
  scanners : (key : List ℕ) → scans y.scanners key u ≡ scans x.scanners key u

same_itself : (x : Index) (u : ℕ) → IsSameAt x x u
same_itself x u = record { writers = λ k. refl; readers = λ k. refl; scanners = λ k. refl }

same_then : (x y z : Index) (u : ℕ) → IsSameAt x y u → IsSameAt y z u → IsSameAt x z u
same_then x y z u f g = record { writers = λ k. g.writers k ∙ f.writers k; readers = λ k. g.readers k ∙ f.readers k; scanners = λ k. g.scanners k ∙ f.scanners k }

told_same : (x y : Index) (u : ℕ) (sets : Sets) (v : Bool) → IsSameAt x y u → TellsOf x u sets v → TellsOf y u sets v
told_same x y u sets v s c = record {
  writes_are = λ k. s.writers k ∙ c.writes_are k;
  alone_are = λ k. ap is_some (s.readers k) ∙ c.alone_are k;
  wide_are = λ k. s.scanners k ∙ c.wide_are k;
}

scan_at : (m : Table (List Span)) (span : Span) (t u : ℕ) → look (with_scan m span t) u ≡ cond (same_txn u t) (Some (put_span span (spans_in (look m t)))) (look m u)
scan_at m span t u =
    ap (λ (n : Table (List Span)). look n u) (put-without m t (put_span span (spans_in (look m t)))) ∙ look-put m t (put_span span (spans_in (look m t))) u

module _ (t u : ℕ) (e : same_txn u t ≡ false) where
  other_read_at : (b : Bool) (x : Index) (span : Span) → IsSameAt x (read_at b x span t) u
  other_read_at true x span = record {
    writers = λ k. refl;
    readers = λ k. touched x.readers span.lo t tt k u ∙ other_of u t (key.ties k span.lo) (Some tt) (touch_at x.readers k u) e;
    scanners = λ k. refl;
  }
  other_read_at false x span = record {
    writers = λ k. refl;
    readers = λ k. refl;
    scanners = λ k. ap (λ (o : Option (List Span)). reads_key (spans_in o) k) (scan_at x.scanners span t u ∙ ap (λ c. cond c (Some (put_span span (spans_in (look x.scanners t)))) (look x.scanners u)) e);
  }

  other_read : (x : Index) (span : Span) → IsSameAt x (with_read x span t) u
  other_read x span = other_read_at (same_key span.lo span.hi) x span

  other_write : (x : Index) (k : List ℕ) (v : Bool) → IsSameAt x (with_write x k t v) u
  other_write x k v = record {
    writers = λ q. touched x.writers k t v q u ∙ other_of u t (key.ties q k) (Some v) (touch_at x.writers q u) e;
    readers = λ q. refl;
    scanners = λ q. refl;
  }

  other_reads : (x : Index) (spans : List Span) → IsSameAt x (with_reads x spans t) u
  other_reads x [] = same_itself x u
  other_reads x (span ∷ spans) = same_then x (with_read x span t) (with_reads (with_read x span t) spans t) u (other_read x span) (other_reads (with_read x span t) spans)

  other_writes : (x : Index) (ws : List Written) → IsSameAt x (with_writes x ws t) u
  other_writes x [] = same_itself x u
  other_writes x (w ∷ ws) = same_then x (with_write x w.key t true) (with_writes (with_write x w.key t true) ws t) u (other_write x w.key true) (other_writes (with_write x w.key t true) ws)

  other_mark : (x : Index) (k : List ℕ) → IsSameAt x (record x { writers = with_mark x.writers k t }) u
  other_mark x k = record {
    writers = λ q. marks x.writers k t q u ∙ other_of u t (key.ties q k) (with_true (touch_at x.writers q u)) (touch_at x.writers q u) e;
    readers = λ q. refl;
    scanners = λ q. refl;
  }

  other_votes : (x : Index) (ws : List Written) → IsSameAt x (with_votes x ws t) u
  other_votes x [] = same_itself x u
  other_votes x (w ∷ ws) =
      same_then x (record x { writers = with_mark x.writers w.key t }) (with_votes (record x { writers = with_mark x.writers w.key t }) ws t) u
      (other_mark x w.key) (other_votes (record x { writers = with_mark x.writers w.key t }) ws)

  other_unread_at : (b : Bool) (x : Index) (span : Span) → IsSameAt x (forgotten_at b x span t) u
  other_unread_at true x span = record {
    writers = λ k. refl;
    readers = λ k. forgotten x.readers span.lo t k u ∙ other_of u t (key.ties k span.lo) None (touch_at x.readers k u) e;
    scanners = λ k. refl;
  }
  other_unread_at false x span = record {
    writers = λ k. refl;
    readers = λ k. refl;
    scanners = λ k. ap (λ (o : Option (List Span)). reads_key (spans_in o) k) (look-without x.scanners t u ∙ ap (λ c. cond c None (look x.scanners u)) e);
  }

  other_unreads : (x : Index) (spans : List Span) → IsSameAt x (without_reads x spans t) u
  other_unreads x [] = same_itself x u
  other_unreads x (span ∷ spans) =
      same_then x (without_read x span t) (without_reads (without_read x span t) spans t) u (other_unread_at (same_key span.lo span.hi) x span) (other_unreads (without_read x span t) spans)

  other_unwrite : (x : Index) (k : List ℕ) → IsSameAt x (without_write x k t) u
  other_unwrite x k = record {
    writers = λ q. forgotten x.writers k t q u ∙ other_of u t (key.ties q k) None (touch_at x.writers q u) e;
    readers = λ q. refl;
    scanners = λ q. refl;
  }

  other_unwrites : (x : Index) (ws : List Written) → IsSameAt x (without_writes x ws t) u
  other_unwrites x [] = same_itself x u
  other_unwrites x (w ∷ ws) = same_then x (without_write x w.key t) (without_writes (without_write x w.key t) ws t) u (other_unwrite x w.key) (other_unwrites (without_write x w.key t) ws)

  other_noted : (x : Index) (span : Option Span) (change : Option Written) → IsSameAt x (change_noted change (read_noted span x t) t) u
  other_noted x None None = same_itself x u
  other_noted x (Some span) None = other_read x span
  other_noted x None (Some change) = other_write x change.key false
  other_noted x (Some span) (Some change) = same_then x (with_read x span t) (with_write (with_read x span t) change.key t false) u (other_read x span) (other_write (with_read x span t) change.key false)

-- ---- of the transaction itself: its reads
is_some-or : (c : Bool) (o : Option (Unit {0})) → is_some (cond c (Some tt) o) ≡ (c || is_some o)
is_some-or true o = refl
is_some-or false o = refl

is_some-less : (c : Bool) (o : Option (Unit {0})) → is_some (cond c None o) ≡ (not c && is_some o)
is_some-less true o = refl
is_some-less false o = refl

or_turn : (r a b : Bool) → (r || (a || b)) ≡ ((a || r) || b)
or_turn true true b = refl
or_turn true false b = refl
or_turn false true b = refl
or_turn false false b = refl

and_turn : (r a b : Bool) → (not r && (not a && b)) ≡ (not (a || r) && b)
and_turn true true b = refl
and_turn true false b = refl
and_turn false true b = refl
and_turn false false b = refl

read_writers : (b : Bool) (x : Index) (span : Span) (t : ℕ) → (read_at b x span t).writers ≡ x.writers
read_writers true x span t = refl
read_writers false x span t = refl

reads_writers : (x : Index) (spans : List Span) (t : ℕ) → (with_reads x spans t).writers ≡ x.writers
reads_writers x [] t = refl
reads_writers x (span ∷ spans) t = reads_writers (with_read x span t) spans t ∙ read_writers (same_key span.lo span.hi) x span t

own_alone_at : (b : Bool) (x : Index) (span : Span) (t : ℕ) (k : List ℕ) → is_some (touch_at (read_at b x span t).readers k t) ≡ ((b && same_key span.lo k) || is_some (touch_at x.readers k t))
own_alone_at true x span t k =
    ap is_some (touched x.readers span.lo t tt k t ∙ own_of t (key.ties k span.lo) (Some tt) (touch_at x.readers k t)) ∙ is_some-or (key.ties k span.lo) (touch_at x.readers k t)
    ∙ ap (λ c. c || is_some (touch_at x.readers k t)) (key.swapped k span.lo)
own_alone_at false x span t k = refl

own_wide_at : (b : Bool) (x : Index) (span : Span) (t : ℕ) (k : List ℕ) → scans (read_at b x span t).scanners k t ≡ ((not b && span_has span k) || scans x.scanners k t)
own_wide_at true x span t k = refl
own_wide_at false x span t k =
    ap (λ (o : Option (List Span)). reads_key (spans_in o) k)
    (scan_at x.scanners span t t ∙ ap (λ (c : Bool). cond c (Some (put_span span (spans_in (look x.scanners t)))) (look x.scanners t)) (ties-itself t))
    ∙ reads_key-put span (spans_in (look x.scanners t)) k

own_alone : (x : Index) (spans : List Span) (t : ℕ) (k : List ℕ) → is_some (touch_at (with_reads x spans t).readers k t) ≡ (reads_alone spans k || is_some (touch_at x.readers k t))
own_alone x [] t k = refl
own_alone x (span ∷ spans) t k =
    own_alone (with_read x span t) spans t k ∙ ap (λ b. reads_alone spans k || b) (own_alone_at (same_key span.lo span.hi) x span t k)
    ∙ or_turn (reads_alone spans k) (is_alone k span) (is_some (touch_at x.readers k t))

own_wide : (x : Index) (spans : List Span) (t : ℕ) (k : List ℕ) → scans (with_reads x spans t).scanners k t ≡ (reads_wide spans k || scans x.scanners k t)
own_wide x [] t k = refl
own_wide x (span ∷ spans) t k =
    own_wide (with_read x span t) spans t k ∙ ap (λ b. reads_wide spans k || b) (own_wide_at (same_key span.lo span.hi) x span t k)
    ∙ or_turn (reads_wide spans k) (is_wide k span) (scans x.scanners k t)

unread_writers_at : (b : Bool) (x : Index) (span : Span) (t : ℕ) → (forgotten_at b x span t).writers ≡ x.writers
unread_writers_at true x span t = refl
unread_writers_at false x span t = refl

unread_writers : (x : Index) (spans : List Span) (t : ℕ) → (without_reads x spans t).writers ≡ x.writers
unread_writers x [] t = refl
unread_writers x (span ∷ spans) t = unread_writers (without_read x span t) spans t ∙ unread_writers_at (same_key span.lo span.hi) x span t

unread_alone_at : (b : Bool) (x : Index) (span : Span) (t : ℕ) (k : List ℕ) → is_some (touch_at (forgotten_at b x span t).readers k t) ≡ (not (b && same_key span.lo k) && is_some (touch_at x.readers k t))
unread_alone_at true x span t k =
    ap is_some (forgotten x.readers span.lo t k t ∙ own_of t (key.ties k span.lo) None (touch_at x.readers k t)) ∙ is_some-less (key.ties k span.lo) (touch_at x.readers k t)
    ∙ ap (λ c. not c && is_some (touch_at x.readers k t)) (key.swapped k span.lo)
unread_alone_at false x span t k = refl

unread_wide_at : (b : Bool) (x : Index) (span : Span) (t : ℕ) (k : List ℕ) → scans (forgotten_at b x span t).scanners k t ≡ (not (not b) && scans x.scanners k t)
unread_wide_at true x span t k = refl
unread_wide_at false x span t k =
    ap (λ (o : Option (List Span)). reads_key (spans_in o) k) (look-without x.scanners t t ∙ ap (λ (c : Bool). cond c None (look x.scanners t)) (ties-itself t))

unread_alone : (x : Index) (spans : List Span) (t : ℕ) (k : List ℕ) → is_some (touch_at (without_reads x spans t).readers k t) ≡ (not (reads_alone spans k) && is_some (touch_at x.readers k t))
unread_alone x [] t k = refl
unread_alone x (span ∷ spans) t k =
    unread_alone (without_read x span t) spans t k ∙ ap (λ b. not (reads_alone spans k) && b) (unread_alone_at (same_key span.lo span.hi) x span t k)
    ∙ and_turn (reads_alone spans k) (is_alone k span) (is_some (touch_at x.readers k t))

abbrev not_alone : Span → Bool
not_alone span = not (same_key span.lo span.hi)

unread_wide : (x : Index) (spans : List Span) (t : ℕ) (k : List ℕ) → scans (without_reads x spans t).scanners k t ≡ (not (list_any not_alone spans) && scans x.scanners k t)
unread_wide x [] t k = refl
unread_wide x (span ∷ spans) t k =
    unread_wide (without_read x span t) spans t k ∙ ap (λ b. not (list_any not_alone spans) && b) (unread_wide_at (same_key span.lo span.hi) x span t k)
    ∙ and_turn (list_any not_alone spans) (not_alone span) (scans x.scanners k t)

none_wide : (spans : List Span) (k : List ℕ) → list_any not_alone spans ≡ false → reads_wide spans k ≡ false
none_wide [] k h = refl
none_wide (span ∷ spans) k h = by (not_alone span) h (none_wide spans k)
  where
    by : (c : Bool) → (c || list_any not_alone spans) ≡ false → (list_any not_alone spans ≡ false → reads_wide spans k ≡ false) → ((c && span_has span k) || reads_wide spans k) ≡ false
    by true h next = absurd (let z : true ≡ false = h in cc)
    by false h next = next h

-- ---- its writes
join_steps : {A : Type 0} (r c : Bool) (s o : A) → (if r then s else cond c s o) ≡ (if (c || r) then s else o)
join_steps true true s o = refl
join_steps true false s o = refl
join_steps false true s o = refl
join_steps false false s o = refl

own_writes : (x : Index) (ws : List Written) (t : ℕ) (k : List ℕ) → touch_at (with_writes x ws t).writers k t ≡ (if writes_key ws k then Some true else touch_at x.writers k t)
own_writes x [] t k = refl
own_writes x (w ∷ ws) t k =
    own_writes (with_write x w.key t true) ws t k
    ∙ ap (λ o. if writes_key ws k then Some true else o) (touched x.writers w.key t true k t ∙ own_of t (key.ties k w.key) (Some true) (touch_at x.writers k t))
    ∙ join_steps (writes_key ws k) (key.ties k w.key) (Some true) (touch_at x.writers k t) ∙ ap (λ c. if (c || writes_key ws k) then Some true else touch_at x.writers k t) (key.swapped k w.key)

own_unwrites : (x : Index) (ws : List Written) (t : ℕ) (k : List ℕ) → touch_at (without_writes x ws t).writers k t ≡ (if writes_key ws k then None else touch_at x.writers k t)
own_unwrites x [] t k = refl
own_unwrites x (w ∷ ws) t k =
    own_unwrites (without_write x w.key t) ws t k
    ∙ ap (λ o. if writes_key ws k then None else o) (forgotten x.writers w.key t k t ∙ own_of t (key.ties k w.key) None (touch_at x.writers k t))
    ∙ join_steps (writes_key ws k) (key.ties k w.key) None (touch_at x.writers k t) ∙ ap (λ c. if (c || writes_key ws k) then None else touch_at x.writers k t) (key.swapped k w.key)

true_again : (o : Option Bool) → with_true (with_true o) ≡ with_true o
true_again None = refl
true_again (Some mark) = refl

mark_steps : (r c : Bool) (o : Option Bool) → (if r then with_true (cond c (with_true o) o) else cond c (with_true o) o) ≡ (if (c || r) then with_true o else o)
mark_steps true true o = true_again o
mark_steps true false o = refl
mark_steps false true o = refl
mark_steps false false o = refl

own_votes : (x : Index) (ws : List Written) (t : ℕ) (k : List ℕ) → touch_at (with_votes x ws t).writers k t ≡ (if writes_key ws k then with_true (touch_at x.writers k t) else touch_at x.writers k t)
own_votes x [] t k = refl
own_votes x (w ∷ ws) t k =
    own_votes (record x { writers = with_mark x.writers w.key t }) ws t k
    ∙ ap (λ o. if writes_key ws k then with_true o else o) (marks x.writers w.key t k t ∙ own_of t (key.ties k w.key) (with_true (touch_at x.writers k t)) (touch_at x.writers k t))
    ∙ mark_steps (writes_key ws k) (key.ties k w.key) (touch_at x.writers k t) ∙ ap (λ c. if (c || writes_key ws k) then with_true (touch_at x.writers k t) else touch_at x.writers k t) (key.swapped k w.key)

writes_readers : (x : Index) (ws : List Written) (t : ℕ) → (with_writes x ws t).readers ≡ x.readers
writes_readers x [] t = refl
writes_readers x (w ∷ ws) t = writes_readers (with_write x w.key t true) ws t

writes_scanners : (x : Index) (ws : List Written) (t : ℕ) → (with_writes x ws t).scanners ≡ x.scanners
writes_scanners x [] t = refl
writes_scanners x (w ∷ ws) t = writes_scanners (with_write x w.key t true) ws t

unwrites_readers : (x : Index) (ws : List Written) (t : ℕ) → (without_writes x ws t).readers ≡ x.readers
unwrites_readers x [] t = refl
unwrites_readers x (w ∷ ws) t = unwrites_readers (without_write x w.key t) ws t

unwrites_scanners : (x : Index) (ws : List Written) (t : ℕ) → (without_writes x ws t).scanners ≡ x.scanners
unwrites_scanners x [] t = refl
unwrites_scanners x (w ∷ ws) t = unwrites_scanners (without_write x w.key t) ws t

votes_readers : (x : Index) (ws : List Written) (t : ℕ) → (with_votes x ws t).readers ≡ x.readers
votes_readers x [] t = refl
votes_readers x (w ∷ ws) t = votes_readers (record x { writers = with_mark x.writers w.key t }) ws t

votes_scanners : (x : Index) (ws : List Written) (t : ℕ) → (with_votes x ws t).scanners ≡ x.scanners
votes_scanners x [] t = refl
votes_scanners x (w ∷ ws) t = votes_scanners (record x { writers = with_mark x.writers w.key t }) ws t

-- ---- what the index tells of it
told_read : (x : Index) (span : Span) (t : ℕ) (sets : Sets) (v : Bool) → TellsOf x t sets v → TellsOf (with_read x span t) t (record { reads = put_span span sets.reads; writes = sets.writes }) v
told_read x span t sets v c = record {
  writes_are = λ k. ap (λ m. touch_at m k t) (read_writers (same_key span.lo span.hi) x span t) ∙ c.writes_are k;
  alone_are = λ k. own_alone_at (same_key span.lo span.hi) x span t k ∙ ap (λ b. is_alone k span || b) (c.alone_are k) ∙ sym (any-put (is_alone k) span sets.reads);
  wide_are = λ k. own_wide_at (same_key span.lo span.hi) x span t k ∙ ap (λ b. is_wide k span || b) (c.wide_are k) ∙ sym (any-put (is_wide k) span sets.reads);
}

write_step : (c r v : Bool) → cond c (Some v) (if r then Some v else None) ≡ (if (c || r) then Some v else None)
write_step true r v = refl
write_step false r v = refl

told_write : (x : Index) (w : Written) (t : ℕ) (sets : Sets) → TellsOf x t sets false → TellsOf (with_write x w.key t false) t (record { reads = sets.reads; writes = put_change w sets.writes }) false
told_write x w t sets c = record {
  writes_are = λ k.
      touched x.writers w.key t false k t ∙ own_of t (key.ties k w.key) (Some false) (touch_at x.writers k t) ∙ ap (cond (key.ties k w.key) (Some false)) (c.writes_are k)
      ∙ write_step (key.ties k w.key) (writes_key sets.writes k) false
      ∙ ap (λ b. if b then Some false else None) (ap (λ b. b || writes_key sets.writes k) (key.swapped k w.key) ∙ sym (writes_key-put w sets.writes k));
  alone_are = c.alone_are;
  wide_are = c.wide_are;
}

told_noted : (x : Index) (t : ℕ) (span : Option Span) (change : Option Written) (sets : Sets) → TellsOf x t sets false
    → TellsOf (change_noted change (read_noted span x t) t) t (record { reads = with_span span sets.reads; writes = with_written change sets.writes }) false
told_noted x t None None sets c = record { writes_are = c.writes_are; alone_are = c.alone_are; wide_are = c.wide_are }
told_noted x t (Some span) None sets c = told_read x span t sets false c
told_noted x t None (Some change) sets c = told_write x change t sets c
told_noted x t (Some span) (Some change) sets c = told_write (with_read x span t) change t _ (told_read x span t sets false c)

vote_step : (r v : Bool) (o : Option Bool) → o ≡ (if r then Some v else None) → (if r then with_true o else o) ≡ (if r then Some true else None)
vote_step true v o e = ap with_true e
vote_step false v o e = e

told_vote : (x : Index) (t : ℕ) (sets : Sets) (v : Bool) → TellsOf x t sets v → TellsOf (with_votes x sets.writes t) t sets true
told_vote x t sets v c = record {
  writes_are = λ k. own_votes x sets.writes t k ∙ vote_step (writes_key sets.writes k) v (touch_at x.writers k t) (c.writes_are k);
  alone_are = λ k. ap (λ m. is_some (touch_at m k t)) (votes_readers x sets.writes t) ∙ c.alone_are k;
  wide_are = λ k. ap (λ m. scans m k t) (votes_scanners x sets.writes t) ∙ c.wide_are k;
}

or_none : (b c : Bool) → c ≡ false → (b || c) ≡ b
or_none true c e = refl
or_none false c e = e

told_enter : (x : Index) (t : ℕ) (sets : Sets) → TellsOf x t (sets_of []) false → TellsOf (with_writes (with_reads x sets.reads t) sets.writes t) t sets true
told_enter x t sets c = record {
  writes_are = λ k.
      own_writes (with_reads x sets.reads t) sets.writes t k
      ∙ ap (λ o. if writes_key sets.writes k then Some true else o) (ap (λ m. touch_at m k t) (reads_writers x sets.reads t) ∙ c.writes_are k);
  alone_are = λ k.
      ap (λ m. is_some (touch_at m k t)) (writes_readers (with_reads x sets.reads t) sets.writes t)
      ∙ own_alone x sets.reads t k ∙ or_none (reads_alone sets.reads k) (is_some (touch_at x.readers k t)) (c.alone_are k);
  wide_are = λ k.
      ap (λ m. scans m k t) (writes_scanners (with_reads x sets.reads t) sets.writes t)
      ∙ own_wide x sets.reads t k ∙ or_none (reads_wide sets.reads k) (scans x.scanners k t) (c.wide_are k);
}

gone_step : (r v : Bool) (o : Option Bool) → o ≡ (if r then Some v else None) → (if r then None else o) ≡ None
gone_step true v o e = refl
gone_step false v o e = e

and_gone : (r s : Bool) → s ≡ r → (not r && s) ≡ false
and_gone true s e = refl
and_gone false s e = e

told_gone : (x : Index) (t : ℕ) (sets : Sets) (v : Bool) → TellsOf x t sets v → TellsOf (without_writes (without_reads x sets.reads t) sets.writes t) t (sets_of []) false
told_gone x t sets v c = record {
  writes_are = λ k.
      own_unwrites (without_reads x sets.reads t) sets.writes t k
      ∙ gone_step (writes_key sets.writes k) v (touch_at (without_reads x sets.reads t).writers k t) (ap (λ m. touch_at m k t) (unread_writers x sets.reads t) ∙ c.writes_are k);
  alone_are = λ k.
      ap (λ m. is_some (touch_at m k t)) (unwrites_readers (without_reads x sets.reads t) sets.writes t)
      ∙ unread_alone x sets.reads t k ∙ and_gone (reads_alone sets.reads k) (is_some (touch_at x.readers k t)) (c.alone_are k);
  wide_are = λ k.
      ap (λ m. scans m k t) (unwrites_scanners (without_reads x sets.reads t) sets.writes t)
      ∙ unread_wide x sets.reads t k ∙ no_scan k (list_any not_alone sets.reads) refl;
}
  where
    no_scan : (k : List ℕ) (b : Bool) → list_any not_alone sets.reads ≡ b → (not b && scans x.scanners k t) ≡ false
    no_scan k true e = refl
    no_scan k false e = c.wide_are k ∙ none_wide sets.reads k e

-- ---- the engine state
by_txn : (P : ℕ → Type 0) (t u : ℕ) → P t → (same_txn u t ≡ false → P u) → P u
by_txn P t u p q = by (same_txn u t) refl
  where
    by : (c : Bool) → same_txn u t ≡ c → P u
    by true e = subst P (sym (tied u t e)) p
    by false e = q e

not_held : {X : Type 0} (o : Option X) → is_some o ≡ false → o ≡ None
not_held None e = refl
not_held (Some x) e = absurd (let z : true ≡ false = e in cc)

tells_alike : (x : Index) (u : ℕ) (sets sets' : Sets) (v v' : Bool) → sets ≡ sets' → v ≡ v' → TellsOf x u sets v → TellsOf x u sets' v'
tells_alike x u sets sets' v v' e f c = subst (λ w. TellsOf x u sets' w) f (subst (λ s. TellsOf x u s v) e c)

module _ (b : EngineState) (t : ℕ) where
  unvoted_sets : look b.voted t ≡ None → sets_at b t ≡ sets_of (operations_of b t)
  unvoted_sets e = ap (λ v. sets_in v (operations_of b t)) e

  put_here : {X : Type 0} (m : Table X) (entry : X) → look (put m t entry) t ≡ Some entry
  put_here m entry = look-put m t entry t ∙ ap (λ c. cond c (Some entry) (look m t)) (ties-itself t)

  put_there : {X : Type 0} (m : Table X) (entry : X) (u : ℕ) → same_txn u t ≡ false → look (put m t entry) u ≡ look m u
  put_there m entry u e = look-put m t entry u ∙ ap (λ c. cond c (Some entry) (look m u)) e

  gone_here : {X : Type 0} (m : Table X) → look (without m t) t ≡ None
  gone_here m = look-without m t t ∙ ap (λ c. cond c None (look m t)) (ties-itself t)

  gone_there : {X : Type 0} (m : Table X) (u : ℕ) → same_txn u t ≡ false → look (without m t) u ≡ look m u
  gone_there m u e = look-without m t u ∙ ap (λ c. cond c None (look m u)) e

  pub index_noted : (x : Index) (op : Op) → holds b.voted t ≡ false → IsIndexOf x b → IsIndexOf (change_noted (change_made op) (read_noted (span_read op) x t) t) (with_operation b t op)
  index_noted x op unvoted is = λ u. by_txn (λ u. TellsOf y u (sets_at (with_operation b t op) u) (holds b.voted u)) t u own (other u)
    where
      y : Index
      y = change_noted (change_made op) (read_noted (span_read op) x t) t

      os : List Operation
      os = record { op = op; stamp = snapshot_of b t } ∷ operations_of b t

      idle : look b.voted t ≡ None
      idle = not_held (look b.voted t) unvoted

      now : sets_at (with_operation b t op) t ≡ sets_of os
      now = ap (λ v. sets_in v (operations_in (look (put b.active t os) t))) idle ∙ ap (λ o. sets_of (operations_in o)) (put_here b.active os)

      own : TellsOf y t (sets_at (with_operation b t op) t) (holds b.voted t)
      own = tells_alike y t (sets_of os) (sets_at (with_operation b t op) t) false (holds b.voted t) (sym now) (sym unvoted)
          (told_noted x t (span_read op) (change_made op) (sets_of (operations_of b t)) (tells_alike x t (sets_at b t) (sets_of (operations_of b t)) (holds b.voted t) false (unvoted_sets idle) unvoted (is t)))

      other : (u : ℕ) → same_txn u t ≡ false → TellsOf y u (sets_at (with_operation b t op) u) (holds b.voted u)
      other u e = told_same x y u (sets_at (with_operation b t op) u) (holds b.voted u) (other_noted t u e x (span_read op) (change_made op))
          (tells_alike x u (sets_at b u) (sets_at (with_operation b t op) u) (holds b.voted u) (holds b.voted u) (ap (λ o. sets_in (look b.voted u) (operations_in o)) (sym (put_there b.active os u e))) refl (is u))

  pub index_cast : (x : Index) (own : Sets) (coord count : ℕ) → holds b.voted t ≡ false → own ≡ sets_at b t → IsIndexOf x b → IsIndexOf (with_votes x own.writes t) (after_cast b t coord count)
  index_cast x own coord count unvoted same is = λ u. by_txn (λ u. TellsOf y u (sets_at after u) (holds after.voted u)) t u mine (other u)
    where
      y : Index
      y = with_votes x own.writes t

      after : EngineState
      after = after_cast b t coord count

      vote : Vote
      vote = record { coord = coord; count = count; sets = sets_of (operations_of b t) }

      is_own : own ≡ sets_of (operations_of b t)
      is_own = same ∙ unvoted_sets (not_held (look b.voted t) unvoted)

      mine : TellsOf y t (sets_at after t) (holds after.voted t)
      mine = tells_alike y t own (sets_at after t) true (holds after.voted t)
          (is_own ∙ sym (ap (λ v. sets_in v (operations_in (look (without b.active t) t))) (put_here b.voted vote))) (sym (ap is_some (put_here b.voted vote)))
          (told_vote x t own (holds b.voted t) (tells_alike x t (sets_at b t) own (holds b.voted t) (holds b.voted t) (sym same) refl (is t)))

      other : (u : ℕ) → same_txn u t ≡ false → TellsOf y u (sets_at after u) (holds after.voted u)
      other u e = told_same x y u (sets_at after u) (holds after.voted u) (other_votes t u e x own.writes)
          (tells_alike x u (sets_at b u) (sets_at after u) (holds b.voted u) (holds after.voted u)
          (ap (λ v. sets_in v (operations_of b u)) (sym (put_there b.voted vote u e)) ∙ ap (λ o. sets_in (look after.voted u) (operations_in o)) (sym (gone_there b.active u e)))
          (ap is_some (sym (put_there b.voted vote u e))) (is u))

  pub index_gone : (x : Index) (own : Sets) → own ≡ sets_at b t → IsIndexOf x b → IsIndexOf (without_writes (without_reads x own.reads t) own.writes t) (after_drop b t)
  index_gone x own same is = λ u. by_txn (λ u. TellsOf y u (sets_at after u) (holds after.voted u)) t u mine (other u)
    where
      y : Index
      y = without_writes (without_reads x own.reads t) own.writes t

      after : EngineState
      after = after_drop b t

      mine : TellsOf y t (sets_at after t) (holds after.voted t)
      mine = tells_alike y t (sets_of []) (sets_at after t) false (holds after.voted t)
          (sym (ap (λ v. sets_in v (operations_in (look (without b.active t) t))) (gone_here b.voted) ∙ ap (λ o. sets_of (operations_in o)) (gone_here b.active)))
          (sym (ap is_some (gone_here b.voted)))
          (told_gone x t own (holds b.voted t) (tells_alike x t (sets_at b t) own (holds b.voted t) (holds b.voted t) (sym same) refl (is t)))

      other : (u : ℕ) → same_txn u t ≡ false → TellsOf y u (sets_at after u) (holds after.voted u)
      other u e = told_same x y u (sets_at after u) (holds after.voted u)
          (same_then x (without_reads x own.reads t) y u (other_unreads t u e x own.reads) (other_unwrites t u e (without_reads x own.reads t) own.writes))
          (tells_alike x u (sets_at b u) (sets_at after u) (holds b.voted u) (holds after.voted u)
          (ap (λ v. sets_in v (operations_of b u)) (sym (gone_there b.voted u e)) ∙ ap (λ o. sets_in (look after.voted u) (operations_in o)) (sym (gone_there b.active u e)))
          (ap is_some (sym (gone_there b.voted u e))) (is u))

both_false : (a b : Bool) → (a || b) ≡ false → (a ≡ false) × (b ≡ false)
both_false true b e = absurd (let z : true ≡ false = e in cc)
both_false false b e = (refl, e)

-- of one that is not there it tells nothing
absent_sets : (b : EngineState) (u : ℕ) → is_undecided b u ≡ false → sets_at b u ≡ sets_of []
absent_sets b u h =
    let none = both_false (holds b.active u) (holds b.voted u) h in
    ap (λ v. sets_in v (operations_of b u)) (not_held (look b.voted u) none.1) ∙ ap (λ o. sets_of (operations_in o)) (not_held (look b.active u) none.0)

absent_vote : (b : EngineState) (u : ℕ) → is_undecided b u ≡ false → holds b.voted u ≡ false
absent_vote b u h = (both_false (holds b.active u) (holds b.voted u) h).1

pub index_entered : (b : EngineState) (x : Index) (p : Prepared) → is_undecided b p.txn ≡ false → IsIndexOf x b → IsIndexOf (with_writes (with_reads x p.sets.reads p.txn) p.sets.writes p.txn) (with_vote b p)
index_entered b x p absent is = λ u. by_txn (λ u. TellsOf y u (sets_at after u) (holds after.voted u)) p.txn u mine (other u)
  where
    y : Index
    y = with_writes (with_reads x p.sets.reads p.txn) p.sets.writes p.txn

    after : EngineState
    after = with_vote b p

    mine : TellsOf y p.txn (sets_at after p.txn) (holds after.voted p.txn)
    mine = tells_alike y p.txn p.sets (sets_at after p.txn) true (holds after.voted p.txn)
        (sym (ap (λ v. sets_in v (operations_of b p.txn)) (put_here b p.txn b.voted (vote_in p)))) (sym (ap is_some (put_here b p.txn b.voted (vote_in p))))
        (told_enter x p.txn p.sets (tells_alike x p.txn (sets_at b p.txn) (sets_of []) (holds b.voted p.txn) false (absent_sets b p.txn absent) (absent_vote b p.txn absent) (is p.txn)))

    other : (u : ℕ) → same_txn u p.txn ≡ false → TellsOf y u (sets_at after u) (holds after.voted u)
    other u e = told_same x y u (sets_at after u) (holds after.voted u)
        (same_then x (with_reads x p.sets.reads p.txn) y u (other_reads p.txn u e x p.sets.reads) (other_writes p.txn u e (with_reads x p.sets.reads p.txn) p.sets.writes))
        (tells_alike x u (sets_at b u) (sets_at after u) (holds b.voted u) (holds after.voted u)
        (ap (λ v. sets_in v (operations_of b u)) (sym (put_there b p.txn b.voted (vote_in p) u e))) (ap is_some (sym (put_there b p.txn b.voted (vote_in p) u e))) (is u))

pub index_none : (b : EngineState) (x : Index) → ((u : ℕ) → is_undecided b u ≡ false) → x ≡ no_index → IsIndexOf x b
index_none b x absent e = subst (λ y. IsIndexOf y b) (sym e) (λ u. tells_alike no_index u (sets_of []) (sets_at b u) false (holds b.voted u) (sym (absent_sets b u (absent u))) (sym (absent_vote b u (absent u))) (nothing u))
  where
    nothing : (u : ℕ) → TellsOf no_index u (sets_of []) false
    nothing u = record {
      writes_are = λ k. ap (λ o. look (or_nobody o) u) (get-empty key_cmp k) ∙ nobody_at u;
      alone_are = λ k. ap (λ o. is_some (look (or_nobody o) u)) (get-empty key_cmp k) ∙ ap is_some (nobody_at u);
      wide_are = λ k. ap (λ (o : Option (List Span)). reads_key (spans_in o) k) (get-empty nat_cmp u);
    }
