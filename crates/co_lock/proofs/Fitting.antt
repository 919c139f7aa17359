-- What is in place fits the state that a call leaves.
use Rattle.std.proofs.Common.{◌≡◌, ◌≢◌, ◌+◌, ℕ, suc, Bool, true, false, cond, not, ◌&&◌, ◌||◌, List, [], ◌∷◌, ◌++◌, map, filter, length, if◌then◌else◌, Option, None, Some, refl, sym, ap, ◌∙◌, subst, true≢false, arith}
use Rattle.std.specs.Prelude.{◌==◌, nat_le}
use Rattle.std.proofs.lemmas.Bool.Decides.{nat_tests}
use Rattle.std.specs.FinMap.{empty, get}
use Rattle.co_base.specs.declared.head.Kind.TheVariants.{Lock}
use Rattle.co_base.specs.declared.op.Op.{Op}
use Rattle.co_base.specs.declared.written.Written.{Written}
use Rattle.co_base.specs.Span.{Span, span_has}
use Rattle.co_serial.specs.Records.{Records, with_changes}
use Rattle.co_state.specs.declared.engine_state.EngineState.{EngineState}
use Rattle.co_state.specs.declared.engine_state.Install.{Install}
use Rattle.co_state.specs.declared.engine_state.Operation.{Operation}
use Rattle.co_state.specs.Changes.{sets_of, spans_of, changes_of, span_read, change_made, with_span, with_written, put_change, no_sets}
use Rattle.co_state.specs.Effects.{with_operation}
use Rattle.co_state.specs.EngineState.{operations_in, operations_of, sets_in, sets_at, records_at, records_now, installed_records}
use Rattle.co_state.specs.Keys.{same_key, reads_key, writes_key}
use Rattle.co_state.specs.ReadRule.{stamp_after, snapshot_of, visible_records}
use Rattle.co_state.specs.Search.{range_has}
use Rattle.co_state.specs.StaleRead.{keys_since, overwritten, stale_keys}
use Rattle.co_state.specs.Table.{look}
use Rattle.co_state.proofs.Tables.{look-put}
use Rattle.co_locktab.proofs.Orders.{same_number}
use Rattle.co_law_engine.proofs.Keys.{get-change, same_key_sym, same_key_is, same_key_refl, unchanged, overlaid}
use Rattle.co_law_engine.proofs.SetsMade.{Ascends, ascends-put, writes-put, reads-put, get-put}
use Rattle.co_lock.specs.LockedState.{LockedState, seen_by, ended}
use Rattle.co_lock.specs.LockedState as state
use Rattle.co_engine.proofs.Answering.{records_at-all}
use Rattle.co_lock.specs.Standing.{Fits}
use Rattle.co_lock.proofs.Locking.{same_as, one_of, other_than, neither_left, neither_right, right_true, or_true, and_false}

-- ---- histories
append_left : {A : Type 0} (xs ys : List A) → xs ++ ys ≡ [] → xs ≡ []
append_left [] ys e = refl
append_left (x ∷ xs) ys e = absurd (let f : x ∷ (xs ++ ys) ≡ [] = e in cc)

append_right : {A : Type 0} (xs ys : List A) → xs ++ ys ≡ [] → ys ≡ []
append_right [] ys e = e
append_right (x ∷ xs) ys e = absurd (let f : x ∷ (xs ++ ys) ≡ [] = e in cc)

none_since_by : (i : Install) (is : List Install) (b : Bool) → nat_le (length is + 1) (length is) ≡ b → (if b then map (λ w. w.key) i.writes ++ keys_since is (length is + 1) else []) ≡ []
none_since_by i is true e = absurd (grind (arith, nat_tests))
none_since_by i is false e = refl

none_since : (is : List Install) → keys_since is (length is) ≡ []
none_since [] = refl
none_since (i ∷ is) =
    subst (λ n. (if nat_le n (length is) then map (λ w. w.key) i.writes ++ keys_since is n else []) ≡ []) (let e : length is + 1 ≡ suc (length is) = omega arith in e)
    (none_since_by i is (nat_le (length is + 1) (length is)) refl)

nothing_over : (span : Option Span) → overwritten span [] ≡ []
nothing_over None = refl
nothing_over (Some span) = refl

skipped_keys : (span : Span) (ws : List Written) (ks : List (List ℕ)) → ((q : List ℕ) → writes_key ws q ≡ true → span_has span q ≡ false) → filter (span_has span) ks ≡ []
    → filter (span_has span) (map (λ w. w.key) ws ++ ks) ≡ []
skipped_keys span [] ks h e = e
skipped_keys span (w ∷ ws) ks h e =
    ap (λ b. cond b (w.key ∷ filter (span_has span) (map (λ v. v.key) ws ++ ks)) (filter (span_has span) (map (λ v. v.key) ws ++ ks)))
    (h w.key (ap (λ b. b || writes_key ws w.key) (same_key_refl w.key)))
    ∙ skipped_keys span ws ks (λ q k. h q (ap (λ b. same_key w.key q || b) k ∙ or_true (same_key w.key q))) e

over_install : (span : Option Span) (ws : List Written) (ks : List (List ℕ)) (b : Bool) → ((q : List ℕ) → writes_key ws q ≡ true → range_has span q ≡ false) → overwritten span ks ≡ []
    → overwritten span (if b then map (λ w. w.key) ws ++ ks else []) ≡ []
over_install None ws ks b h e = refl
over_install (Some span) ws ks true h e = skipped_keys span ws ks h e
over_install (Some span) ws ks false h e = refl

reads_with : (span : Option Span) (ss : List Span) (q : List ℕ) → reads_key (with_span span ss) q ≡ (range_has span q || reads_key ss q)
reads_with None ss q = refl
reads_with (Some span) ss q = reads-put span ss q

-- what is installed beside the reads of a transaction leaves them fresh
pub fresh_install : (i : Install) (is : List Install) (os : List Operation) → ((q : List ℕ) → writes_key i.writes q ≡ true → reads_key (spans_of os) q ≡ false) → stale_keys is os ≡ [] → stale_keys (i ∷ is) os ≡ []
fresh_install i is [] h e = refl
fresh_install i is (o ∷ os) h e =
    (λ j. over_install (span_read o.op) i.writes (keys_since is o.stamp) (nat_le o.stamp (length is))
    (λ q w. neither_left _ _ (sym (reads_with (span_read o.op) (spans_of os) q) ∙ h q w)) (append_left _ _ e) j ++ stale_keys (i ∷ is) os)
    ∙ fresh_install i is os (λ q w. neither_right _ _ (sym (reads_with (span_read o.op) (spans_of os) q) ∙ h q w)) (append_right (overwritten (span_read o.op) (keys_since is o.stamp)) _ e)

ascends-with : (c : Option Written) (ws : List Written) → Ascends ws → Ascends (with_written c ws)
ascends-with None ws a = a
ascends-with (Some c) ws a = ascends-put c ws a

ascends-of : (os : List Operation) → Ascends (changes_of os)
ascends-of [] = tt
ascends-of (o ∷ os) = ascends-with (change_made o.op) (changes_of os) (ascends-of os)

-- ---- an operation more
cond_if : {A : Type 0} (c b : Bool) (x y : A) → c ≡ b → cond c x y ≡ (if b then x else y)
cond_if true b x y e = ap (λ d. if d then x else y) e
cond_if false b x y e = ap (λ d. if d then x else y) e

through : {A B : Type 0} (f : A → B) (b : Bool) (x y : A) → f (if b then x else y) ≡ (if b then f x else f y)
through f true x y = refl
through f false x y = refl

pub snapshot_now : (b : EngineState) (t : ℕ) → b.kind ≡ Lock → snapshot_of b t ≡ length b.installed
snapshot_now b t e = ap (λ k. stamp_after k (length b.installed) (operations_of b t)) e

module _ (g : LockedState) (b : EngineState) (t : ℕ) (op : Op) (h : Fits g b) (kind : b.kind ≡ Lock) (none : look b.voted t ≡ None) where
  abbrev pub done : Operation
  done = record { op = op; stamp = snapshot_of b t }

  abbrev pub before : List Operation
  before = operations_of b t

  pub own_sets_are : sets_at b t ≡ sets_of before
  own_sets_are = ap (λ v. sets_in v before) none

  pub operations_with : (u : ℕ) → operations_of (with_operation b t op) u ≡ (if u == t then done ∷ before else operations_of b u)
  operations_with u =
      ap operations_in (look-put b.active t (done ∷ before) u ∙ cond_if (same_number u t) (u == t) (Some (done ∷ before)) (look b.active u) (same_as u t))
      ∙ through operations_in (u == t) (Some (done ∷ before)) (look b.active u)

  sets_by : (u : ℕ) (c : Bool) → (u == t) ≡ c → sets_in (look b.voted u) (if c then done ∷ before else operations_of b u) ≡ (if c then sets_of (done ∷ before) else sets_at b u)
  sets_by u true e = ap (λ v. sets_in v (done ∷ before)) (ap (look b.voted) (one_of u t e) ∙ none)
  sets_by u false e = refl

  pub sets_with : (u : ℕ) → sets_at (with_operation b t op) u ≡ (if u == t then sets_of (done ∷ before) else sets_at b u)
  sets_with u = ap (sets_in (look b.voted u)) (operations_with u) ∙ sets_by u (u == t) refl

  fresh_by : (u : ℕ) (c : Bool) → (u == t) ≡ c → stale_keys b.installed (if c then done ∷ before else operations_of b u) ≡ []
  fresh_by u true e =
      (λ i. (ap (overwritten (span_read op)) (ap (keys_since b.installed) (snapshot_now b t kind) ∙ none_since b.installed) ∙ nothing_over (span_read op)) i ++ stale_keys b.installed before)
      ∙ h.fresh t
  fresh_by u false e = h.fresh u

  pub fresh_with : (u : ℕ) → stale_keys b.installed (operations_of (with_operation b t op) u) ≡ []
  fresh_with u = ap (stale_keys b.installed) (operations_with u) ∙ fresh_by u (u == t) refl

  at_t : {A : Type 0} (f : ℕ → A) (u : ℕ) → (u == t) ≡ true → f u ≡ f t
  at_t f u e = ap f (one_of u t e)

  -- a read
  module _ (span : Span) (reads : span_read op ≡ Some span) (writes : change_made op ≡ None) (free : (u : ℕ) → u ≢ t → (q : List ℕ) → span_has span q ≡ true → g.wrote u q ≡ false) where
    same_by : (u : ℕ) (c : Bool) → (u == t) ≡ c → (if c then sets_of (done ∷ before) else sets_at b u).writes ≡ (sets_at b u).writes
    same_by u true e = ap (λ w. with_written w (changes_of before)) writes ∙ ap (λ s. s.writes) (sym own_sets_are) ∙ sym (at_t (λ j. (sets_at b j).writes) u e)
    same_by u false e = refl

    same_writes : (u : ℕ) → (sets_at (with_operation b t op) u).writes ≡ (sets_at b u).writes
    same_writes u = ap (λ s. s.writes) (sets_with u) ∙ same_by u (u == t) refl

    reads_by : (u : ℕ) (q : List ℕ) (c : Bool) → (u == t) ≡ c → ((c && span_has span q) || g.reads u q) ≡ reads_key (spans_of (if c then done ∷ before else operations_of b u)) q
    reads_by u q true e =
        ap (λ r. span_has span q || r) (h.reads_are u q ∙ at_t (λ j. reads_key (spans_of (operations_of b j)) q) u e)
        ∙ sym (reads-put span (spans_of before) q) ∙ sym (ap (λ s. reads_key (with_span s (spans_of before)) q) reads)
    reads_by u q false e = h.reads_are u q

    apart_by : (u v : ℕ) (q : List ℕ) (c d : Bool) → (u == t) ≡ c → span_has span q ≡ d → u ≢ v → ((c && d) || g.reads u q) ≡ true → g.wrote v q ≡ false
    apart_by u v q true true e f n r = free v (λ is. n (one_of u t e ∙ sym is)) q f
    apart_by u v q true false e f n r = h.readers_apart u v q n r
    apart_by u v q false d e f n r = h.readers_apart u v q n r

    pub fits_read : Fits (state.with_read g t span) (with_operation b t op)
    fits_read = record {
      installed_are = h.installed_are;
      wrote_are = λ u q. h.wrote_are u q ∙ ap (λ ws. writes_key ws q) (sym (same_writes u));
      values_are = λ u q w. h.values_are u q w ∙ ap (λ ws. get (with_changes empty ws) q) (sym (same_writes u));
      reads_are = λ u q. reads_by u q (u == t) refl ∙ ap (λ os. reads_key (spans_of os) q) (sym (operations_with u));
      readers_apart = λ u v q n r. apart_by u v q (u == t) (span_has span q) refl refl n r;
      fresh = fresh_with;
    }

  -- a write
  module _ (change : Written) (reads : span_read op ≡ None) (writes : change_made op ≡ Some change) (free : (u : ℕ) → u ≢ t → (g.wrote u change.key || g.reads u change.key) ≡ false) where
    own_writes : (sets_of (done ∷ before)).writes ≡ put_change change (changes_of before)
    own_writes = ap (λ w. with_written w (changes_of before)) writes

    wrote_by : (u : ℕ) (q : List ℕ) (c : Bool) → (u == t) ≡ c → ((c && same_key change.key q) || g.wrote u q) ≡ writes_key (if c then sets_of (done ∷ before) else sets_at b u).writes q
    wrote_by u q true e =
        ap (λ r. same_key change.key q || r) (h.wrote_are u q ∙ at_t (λ j. writes_key (sets_at b j).writes q) u e ∙ ap (λ s. writes_key s.writes q) own_sets_are)
        ∙ sym (writes-put change (changes_of before) q) ∙ ap (λ ws. writes_key ws q) (sym own_writes)
    wrote_by u q false e = h.wrote_are u q

    laid : (q : List ℕ) → get (with_changes empty (sets_of (done ∷ before)).writes) q ≡ (if same_key change.key q then change.value else get (with_changes empty (changes_of before)) q)
    laid q =
        ap (λ ws. get (with_changes empty ws) q) own_writes ∙ get-put change (changes_of before) empty q (ascends-of before)
        ∙ get-change (with_changes empty (changes_of before)) change.key change.value q
        ∙ ap (λ c. if c then change.value else get (with_changes empty (changes_of before)) q) (same_key_sym q change.key)

    values_by : (u : ℕ) (q : List ℕ) (c d : Bool) → (u == t) ≡ c → same_key change.key q ≡ d → ((c && d) || g.wrote u q) ≡ true
        → (if c && d then change.value else g.value u q) ≡ get (with_changes empty (if c then sets_of (done ∷ before) else sets_at b u).writes) q
    values_by u q true true e f w = sym (laid q ∙ ap (λ c. if c then change.value else get (with_changes empty (changes_of before)) q) f)
    values_by u q true false e f w =
        h.values_are u q w ∙ at_t (λ j. get (with_changes empty (sets_at b j).writes) q) u e ∙ ap (λ s. get (with_changes empty s.writes) q) own_sets_are
        ∙ sym (laid q ∙ ap (λ c. if c then change.value else get (with_changes empty (changes_of before)) q) f)
    values_by u q false d e f w = h.values_are u q w

    reads_still : (u : ℕ) (q : List ℕ) (c : Bool) → (u == t) ≡ c → g.reads u q ≡ reads_key (spans_of (if c then done ∷ before else operations_of b u)) q
    reads_still u q true e = h.reads_are u q ∙ at_t (λ j. reads_key (spans_of (operations_of b j)) q) u e ∙ sym (ap (λ s. reads_key (with_span s (spans_of before)) q) reads)
    reads_still u q false e = h.reads_are u q

    unread_by : (u v : ℕ) (q : List ℕ) (c d : Bool) → (v == t) ≡ c → same_key change.key q ≡ d → u ≢ v → g.reads u q ≡ true → ((c && d) || g.wrote v q) ≡ false
    unread_by u v q true true e f n r =
        absurd (true≢false (sym r ∙ ap (g.reads u) (sym (same_key_is change.key q f)) ∙ neither_right _ _ (free u (λ is. n (is ∙ sym (one_of v t e))))))
    unread_by u v q true false e f n r = h.readers_apart u v q n r
    unread_by u v q false d e f n r = h.readers_apart u v q n r

    pub fits_write : Fits (state.with_write g t change.key change.value) (with_operation b t op)
    fits_write = record {
      installed_are = h.installed_are;
      wrote_are = λ u q. wrote_by u q (u == t) refl ∙ ap (λ s. writes_key s.writes q) (sym (sets_with u));
      values_are = λ u q w. values_by u q (u == t) (same_key change.key q) refl refl w ∙ ap (λ s. get (with_changes empty s.writes) q) (sym (sets_with u));
      reads_are = λ u q. reads_still u q (u == t) refl ∙ ap (λ os. reads_key (spans_of os) q) (sym (operations_with u));
      readers_apart = λ u v q n r. unread_by u v q (v == t) (same_key change.key q) refl refl n r;
      fresh = fresh_with;
    }

-- ---- the end of a transaction
pub fits_end : (g : LockedState) (b next : EngineState) (t : ℕ) (records : Records) → Fits g b → records ≡ installed_records next
    → ((u : ℕ) → sets_at next u ≡ (if u == t then no_sets else sets_at b u)) → ((u : ℕ) → operations_of next u ≡ (if u == t then [] else operations_of b u))
    → ((u : ℕ) → u ≢ t → stale_keys next.installed (operations_of b u) ≡ []) → Fits (ended g t records) next
fits_end g b next t records h installed sets operations fresh = record {
  installed_are = installed;
  wrote_are = λ u q. wrote_by u q (u == t) ∙ ap (λ s. writes_key s.writes q) (sym (sets u));
  values_are = λ u q w. values_by u q (u == t) w ∙ ap (λ s. get (with_changes empty s.writes) q) (sym (sets u));
  reads_are = λ u q. reads_by u q (u == t) ∙ ap (λ os. reads_key (spans_of os) q) (sym (operations u));
  readers_apart = λ u v q n r. ap (λ c. not (v == t) && c) (h.readers_apart u v q n (right_true _ _ r)) ∙ and_false (not (v == t));
  fresh = λ u. ap (stale_keys next.installed) (operations u) ∙ fresh_by u (u == t) refl;
}
  where
    wrote_by : (u : ℕ) (q : List ℕ) (c : Bool) → (not c && g.wrote u q) ≡ writes_key (if c then no_sets else sets_at b u).writes q
    wrote_by u q true = refl
    wrote_by u q false = h.wrote_are u q

    values_by : (u : ℕ) (q : List ℕ) (c : Bool) → (not c && g.wrote u q) ≡ true → g.value u q ≡ get (with_changes empty (if c then no_sets else sets_at b u).writes) q
    values_by u q true w = absurd (true≢false (sym w))
    values_by u q false w = h.values_are u q w

    reads_by : (u : ℕ) (q : List ℕ) (c : Bool) → (not c && g.reads u q) ≡ reads_key (spans_of (if c then [] else operations_of b u)) q
    reads_by u q true = refl
    reads_by u q false = h.reads_are u q

    fresh_by : (u : ℕ) (c : Bool) → (u == t) ≡ c → stale_keys next.installed (if c then [] else operations_of b u) ≡ []
    fresh_by u true e = refl
    fresh_by u false e = fresh u (other_than u t e)

-- what votes keeps what it wrote, and its read locks end
pub fits_cast : (g : LockedState) (b next : EngineState) (t : ℕ) → Fits g b → next.base ≡ b.base → next.installed ≡ b.installed
    → ((u : ℕ) → sets_at next u ≡ sets_at b u) → ((u : ℕ) → operations_of next u ≡ (if u == t then [] else operations_of b u)) → Fits (state.without_reads g t) next
fits_cast g b next t h base installed sets operations = record {
  installed_are = h.installed_are ∙ (λ i. records_now (sym base i) (sym installed i));
  wrote_are = λ u q. h.wrote_are u q ∙ ap (λ s. writes_key s.writes q) (sym (sets u));
  values_are = λ u q w. h.values_are u q w ∙ ap (λ s. get (with_changes empty s.writes) q) (sym (sets u));
  reads_are = λ u q. reads_by u q (u == t) ∙ ap (λ os. reads_key (spans_of os) q) (sym (operations u));
  readers_apart = λ u v q n r. h.readers_apart u v q n (right_true _ _ r);
  fresh = λ u. (λ i. stale_keys (installed i) (operations u i)) ∙ fresh_by u (u == t);
}
  where
    reads_by : (u : ℕ) (q : List ℕ) (c : Bool) → (not c && g.reads u q) ≡ reads_key (spans_of (if c then [] else operations_of b u)) q
    reads_by u q true = refl
    reads_by u q false = h.reads_are u q

    fresh_by : (u : ℕ) (c : Bool) → stale_keys b.installed (if c then [] else operations_of b u) ≡ []
    fresh_by u true = refl
    fresh_by u false = h.fresh u

-- ---- what is seen
visible_by : (g : LockedState) (b : EngineState) (t : ℕ) (q : List ℕ) (c : Bool) → Fits g b → look b.voted t ≡ None → g.wrote t q ≡ c
    → get (with_changes (installed_records b) (changes_of (operations_of b t))) q ≡ (if c then g.value t q else get g.installed q)
visible_by g b t q true h none e =
    overlaid (changes_of (operations_of b t)) (installed_records b) empty q (ap (λ v. writes_key (sets_in v (operations_of b t)).writes q) (sym none) ∙ sym (h.wrote_are t q) ∙ e)
    ∙ sym (h.values_are t q e ∙ ap (λ v. get (with_changes empty (sets_in v (operations_of b t)).writes) q) none)
visible_by g b t q false h none e =
    unchanged (changes_of (operations_of b t)) (installed_records b) q (ap (λ v. writes_key (sets_in v (operations_of b t)).writes q) (sym none) ∙ sym (h.wrote_are t q) ∙ e)
    ∙ ap (λ m. get m q) (sym h.installed_are)

pub visible_seen : (g : LockedState) (b : EngineState) (t : ℕ) (q : List ℕ) → Fits g b → b.kind ≡ Lock → look b.voted t ≡ None → get (visible_records b t) q ≡ seen_by g t q
visible_seen g b t q h kind none =
    ap (λ m. get (with_changes m (changes_of (operations_of b t))) q) (ap (records_at b.base b.installed) (snapshot_now b t kind) ∙ records_at-all b.base b.installed)
    ∙ visible_by g b t q (g.wrote t q) h none refl
