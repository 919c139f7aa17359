-- For which states a locking engine stands after each call.
use Rattle.std.proofs.Common.{◌≡◌, ◌≢◌, ◌⊎◌, inl, inr, ℕ, Bool, true, false, cond, not, ◌&&◌, ◌||◌, List, [], if◌then◌else◌, is_some, Option, None, Some, IsTrue, refl, sym, ap, ◌∙◌, subst, true≢false}
use Rattle.std.specs.Prelude.{◌==◌}
use Rattle.std.specs.FinMap.{empty, entries, get}
use Rattle.co_base.specs.declared.op.Op.{Op}
use Rattle.co_base.specs.declared.op.Op.TheVariants.{Read, Write, Erase, Scan}
use Rattle.co_base.specs.declared.written.Written.{Written}
use Rattle.co_base.specs.Span.{Span, span_has}
use Rattle.co_serial.specs.Records.{with_changes}
use Rattle.co_state.specs.declared.engine_state.EngineState.{EngineState}
use Rattle.co_state.specs.declared.engine_state.Operation.{Operation}
use Rattle.co_state.specs.declared.engine_state.Vote.{Vote}
use Rattle.co_state.specs.Changes.{sets_of, spans_of, span_read, change_made, no_sets}
use Rattle.co_state.specs.Effects.{after_cast, after_drop, install_vote, undecided_changes}
use Rattle.co_state.specs.EngineState.{operations_in, operations_of, sets_in, sets_at, installed_records}
use Rattle.co_state.specs.Keys.{reads_key, writes_key, writes_within, least_key}
use Rattle.co_state.specs.LockRule.{lock_blocker, lock_holder, blocker_by}
use Rattle.co_state.specs.StaleRead.{stale_key}
use Rattle.co_state.specs.Table.{Table, look, without, holds}
use Rattle.co_state.proofs.Tables.{look-put, look-without}
use Rattle.co_locktab.specs.Locks.{IsLeast}
use Rattle.co_locktab.proofs.Orders.{same_number}
use Rattle.co_law_engine.proofs.Keys.{unchanged, overlaid}
use Rattle.co_lock.specs.declared.engine.LockEngine.{LockEngine}
use Rattle.co_lock.specs.LockedState as state
use Rattle.co_lock.specs.LockedState.{LockedState, IsClear}
use Rattle.co_engine.specs.Undecided.{changes_kept}
use Rattle.co_engine.proofs.Keeping.{kept_changes}
use Rattle.co_lock.specs.Standing.{StandsFor, Fits}
use Rattle.co_lock.proofs.Blocking.{blocks, holder_least, least_unique, kept_one}
use Rattle.co_lock.proofs.Fitting.{fits_end, fits_cast, fresh_install}
use Rattle.co_lock.proofs.Locking.{holds_key, neither_left, one_of, same_as}

pub one_each : (p : LockEngine) (b : EngineState) → StandsFor p b → (u : ℕ) → (look b.active u ≡ None) ⊎ (look b.voted u ≡ None)
one_each p b s u = kept_one (look p.roll u) (look b.active u) (look b.voted u) (s.each u)

-- ---- who is in the way
pub blocker_alike : (p : LockEngine) (b : EngineState) (t : ℕ) (op : Op) (found : Option ℕ) → StandsFor p b → IsLeast (λ u. not (u == t) && blocks b u op) found → found ≡ lock_blocker b t op
blocker_alike p b t op found s h =
    least_unique (λ u. not (u == t) && blocks b u op) found (lock_holder b t op) h (holder_least b t op (one_each p b s)) ∙ ap (λ k. blocker_by k (lock_holder b t op)) (sym s.kind_is)

pub unblocked : (p : LockEngine) (b : EngineState) (t : ℕ) (op : Op) → StandsFor p b → lock_blocker b t op ≡ None → (u : ℕ) → u ≢ t → blocks b u op ≡ false
unblocked p b t op s none u n =
    let holder : lock_holder b t op ≡ None = ap (λ k. blocker_by k (lock_holder b t op)) (sym s.kind_is) ∙ none in
    let h : IsLeast (λ v. not (v == t) && blocks b v op) None = subst (IsLeast (λ v. not (v == t) && blocks b v op)) holder (holder_least b t op (one_each p b s)) in
    by (u == t) refl (h u)
  where
    by : (c : Bool) → (u == t) ≡ c → (not c && blocks b u op) ≡ false → blocks b u op ≡ false
    by true e f = absurd (n (one_of u t e))
    by false e f = f

some_is : {A : Type 0} {x y : A} → Some x ≡ Some y → x ≡ y
some_is {A} {x} {y} e = cc

read_within : (b : EngineState) (u : ℕ) (op : Op) (span : Span) → span_read op ≡ Some span → blocks b u op ≡ false → writes_within (sets_at b u).writes span ≡ false
read_within b u (Read key) span e f = ap (writes_within (sets_at b u).writes) (sym (some_is e)) ∙ f
read_within b u (Scan range) span e f = ap (writes_within (sets_at b u).writes) (sym (some_is e)) ∙ f
read_within b u (Write key value) span e f = absurd (let g : None ≡ Some span = e in cc)
read_within b u (Erase key) span e f = absurd (let g : None ≡ Some span = e in cc)

write_at : (b : EngineState) (u : ℕ) (op : Op) (change : Written) → change_made op ≡ Some change → blocks b u op ≡ false → (writes_key (sets_at b u).writes change.key || reads_key (spans_of (operations_of b u)) change.key) ≡ false
write_at b u (Read key) change e f = absurd (let g : None ≡ Some change = e in cc)
write_at b u (Scan range) change e f = absurd (let g : None ≡ Some change = e in cc)
write_at b u (Write key value) change e f = ap (λ (w : Written). writes_key (sets_at b u).writes w.key || reads_key (spans_of (operations_of b u)) w.key) (sym (some_is e)) ∙ f
write_at b u (Erase key) change e f = ap (λ (w : Written). writes_key (sets_at b u).writes w.key || reads_key (spans_of (operations_of b u)) w.key) (sym (some_is e)) ∙ f

not_within : (ws : List Written) (span : Span) (q : List ℕ) → writes_within ws span ≡ false → span_has span q ≡ true → writes_key ws q ≡ false
not_within ws span q h e = by (writes_key ws q) refl
  where
    by : (b : Bool) → writes_key ws q ≡ b → b ≡ false
    by true w = absurd (true≢false (sym (holds_key q ws w span e) ∙ h))
    by false w = refl

pub clear_read : (p : LockEngine) (b : EngineState) (t : ℕ) (op : Op) (span : Span) (s : StandsFor p b) → span_read op ≡ Some span → lock_blocker b t op ≡ None
    → (u : ℕ) → u ≢ t → (q : List ℕ) → span_has span q ≡ true → s.place.wrote u q ≡ false
clear_read p b t op span s reads none u n q e =
    s.fits.wrote_are u q ∙ not_within (sets_at b u).writes span q (read_within b u op span reads (unblocked p b t op s none u n)) e

pub clear_write : (p : LockEngine) (b : EngineState) (t : ℕ) (op : Op) (change : Written) (s : StandsFor p b) → change_made op ≡ Some change → lock_blocker b t op ≡ None
    → (u : ℕ) → u ≢ t → (s.place.wrote u change.key || s.place.reads u change.key) ≡ false
clear_write p b t op change s writes none u n =
    (λ i. s.fits.wrote_are u change.key i || s.fits.reads_are u change.key i) ∙ write_at b u op change writes (unblocked p b t op s none u n)

pub alone_in : (p : LockEngine) (b : EngineState) (t : ℕ) (op : Op) (change : Written) (s : StandsFor p b) → change_made op ≡ Some change → lock_blocker b t op ≡ None → IsClear s.place t change.key
alone_in p b t op change s writes none u n = neither_left _ _ (clear_write p b t op change s writes none u n)

-- ---- votes and ends
cond_if : {A : Type 0} (c b : Bool) (x y : A) → c ≡ b → cond c x y ≡ (if b then x else y)
cond_if true b x y e = ap (λ d. if d then x else y) e
cond_if false b x y e = ap (λ d. if d then x else y) e

gone_operations : (active : Table (List Operation)) (t u : ℕ) → operations_in (look (without active t) u) ≡ (if u == t then [] else operations_in (look active u))
gone_operations active t u = ap operations_in (look-without active t u ∙ cond_if (same_number u t) (u == t) None (look active u) (same_as u t)) ∙ by (u == t)
  where
    by : (c : Bool) → operations_in (if c then None else look active u) ≡ (if c then [] else operations_in (look active u))
    by true = refl
    by false = refl

active_only : (os : Option (List Operation)) (vote : Option Vote) → (os ≡ None) ⊎ (vote ≡ None) → is_some os ≡ true → vote ≡ None
active_only os vote (inl e) h = absurd (true≢false (sym h ∙ ap is_some e))
active_only os vote (inr e) h = e

voted_only : (os : Option (List Operation)) (vote : Option Vote) → (os ≡ None) ⊎ (vote ≡ None) → is_some vote ≡ true → os ≡ None
voted_only os vote (inl e) h = e
voted_only os vote (inr e) h = absurd (true≢false (sym h ∙ ap is_some e))

abbrev pub cast_vote : EngineState → ℕ → ℕ → ℕ → Vote
cast_vote b t coord count = record { coord = coord; count = count; sets = sets_of (operations_of b t) }

pub fits_vote : (p : LockEngine) (b : EngineState) (t coord count : ℕ) (s : StandsFor p b) → IsTrue (holds b.active t) → Fits (state.without_reads s.place t) (after_cast b t coord count)
fits_vote p b t coord count s h =
    fits_cast s.place b (after_cast b t coord count) t s.fits refl refl (λ u. sets u (u == t) refl) (gone_operations b.active t)
  where
    voted : look b.voted t ≡ None
    voted = active_only (look b.active t) (look b.voted t) (one_each p b s t) h

    sets : (u : ℕ) (c : Bool) → (u == t) ≡ c → sets_at (after_cast b t coord count) u ≡ sets_at b u
    sets u true e =
        ap (λ o. sets_in o (operations_of (after_cast b t coord count) u)) (look-put b.voted t (cast_vote b t coord count) u ∙ cond_if (same_number u t) true (Some (cast_vote b t coord count)) (look b.voted u) (same_as u t ∙ e))
        ∙ ap (λ v. sets_in v (operations_of b t)) (sym voted) ∙ ap (sets_at b) (sym (one_of u t e))
    sets u false e =
        (λ i. sets_in ((look-put b.voted t (cast_vote b t coord count) u ∙ cond_if (same_number u t) false (Some (cast_vote b t coord count)) (look b.voted u) (same_as u t ∙ e)) i) ((gone_operations b.active t u ∙ ap (λ c. if c then [] else operations_of b u) e) i))

ended_sets : (b : EngineState) (t u : ℕ) (next : Table (List Operation)) → ((v : ℕ) → operations_in (look next v) ≡ (if v == t then [] else operations_of b v)) → sets_in (look (without b.voted t) u) (operations_in (look next u)) ≡ (if u == t then no_sets else sets_at b u)
ended_sets b t u next is = (λ i. sets_in ((look-without b.voted t u ∙ cond_if (same_number u t) (u == t) None (look b.voted u) (same_as u t)) i) (is u i)) ∙ by (u == t)
  where
    by : (c : Bool) → sets_in (if c then None else look b.voted u) (if c then [] else operations_of b u) ≡ (if c then no_sets else sets_at b u)
    by true = refl
    by false = refl

pub fits_drop : (p : LockEngine) (b : EngineState) (t : ℕ) (s : StandsFor p b) → Fits (state.ended s.place t s.place.installed) (after_drop b t)
fits_drop p b t s =
    fits_end s.place b (after_drop b t) t s.place.installed s.fits s.fits.installed_are (λ u. ended_sets b t u (without b.active t) (gone_operations b.active t)) (gone_operations b.active t) (λ u n. s.fits.fresh u)

module _ (p : LockEngine) (b : EngineState) (t : ℕ) (s : StandsFor p b) (vote : Vote) (is : look b.voted t ≡ Some vote) where
  pub no_operations : look b.active t ≡ None
  no_operations = voted_only (look b.active t) (look b.voted t) (one_each p b s t) (ap is_some is)

  same_operations : (u : ℕ) → operations_of b u ≡ (if u == t then [] else operations_of b u)
  same_operations u = by (u == t) refl
    where
      by : (c : Bool) → (u == t) ≡ c → operations_of b u ≡ (if c then [] else operations_of b u)
      by true e = ap (operations_of b) (one_of u t e) ∙ ap operations_in no_operations
      by false e = refl

  own_vote : sets_at b t ≡ vote.sets
  own_vote = ap (λ v. sets_in v (operations_of b t)) is

  -- what is installed is what t sees
  pub installs_seen : (q : List ℕ) → get (with_changes (installed_records b) vote.sets.writes) q ≡ state.seen_by s.place t q
  installs_seen q = by (s.place.wrote t q) refl
    where
      by : (c : Bool) → s.place.wrote t q ≡ c → get (with_changes (installed_records b) vote.sets.writes) q ≡ (if c then s.place.value t q else get s.place.installed q)
      by true e =
          overlaid vote.sets.writes (installed_records b) empty q (ap (λ x. writes_key x.writes q) (sym own_vote) ∙ sym (s.fits.wrote_are t q) ∙ e)
          ∙ sym (s.fits.values_are t q e ∙ ap (λ x. get (with_changes empty x.writes) q) own_vote)
      by false e =
          unchanged vote.sets.writes (installed_records b) q (ap (λ x. writes_key x.writes q) (sym own_vote) ∙ sym (s.fits.wrote_are t q) ∙ e)
          ∙ ap (λ m. get m q) (sym s.fits.installed_are)

  apart_from : (u : ℕ) (q : List ℕ) → u ≢ t → writes_key vote.sets.writes q ≡ true → (c : Bool) → s.place.reads u q ≡ c → c ≡ false
  apart_from u q n w true r = absurd (true≢false (sym w ∙ ap (λ x. writes_key x.writes q) (sym own_vote) ∙ sym (s.fits.wrote_are t q) ∙ s.fits.readers_apart u t q n r))
  apart_from u q n w false r = refl

  pub fits_install : Fits (state.ended s.place t (with_changes (installed_records b) vote.sets.writes)) (install_vote b t (Some vote))
  fits_install =
      fits_end s.place b (install_vote b t (Some vote)) t (with_changes (installed_records b) vote.sets.writes) s.fits refl
      (λ u. ended_sets b t u b.active same_operations) same_operations
      (λ u n. fresh_install (record { txn = t; writes = vote.sets.writes }) b.installed (operations_of b u)
      (λ q w. sym (s.fits.reads_are u q) ∙ apart_from u q n w (s.place.reads u q) refl)
      (s.fits.fresh u))

pub never_stale : (p : LockEngine) (b : EngineState) (t : ℕ) → StandsFor p b → None ≡ stale_key b t
never_stale p b t s = sym (ap least_key (s.fits.fresh t))

pub dump_alike : (p : LockEngine) (b : EngineState) → StandsFor p b → changes_kept (entries p.roll) ≡ undecided_changes b
dump_alike p b s = kept_changes p.roll b s.each
