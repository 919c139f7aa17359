-- Prepared transactions are laid in as voted ones.
use Rattle.std.proofs.Common.{◌≡◌, ℕ, zero, suc, ◌+◌, ◌<◌, Bool, true, false, cond, not, ◌&&◌, ◌||◌, List, [], ◌∷◌, ◌++◌, length, take, drop, get_or, if◌then◌else◌, Option, None, Some, refl, sym, ap, ◌∙◌, true≢false, arith}
use Rattle.std.specs.Prelude.{◌==◌}
use Rattle.std.proofs.lemmas.List.{take_more, drop_more}
use Rattle.std.specs.FinMap.{empty, get, get-empty}
use Rattle.std.specs.Ordering.{nat_cmp}
use Rattle.co_base.specs.declared.head.Kind.TheVariants.{Lock}
use Rattle.co_base.specs.declared.written.Written.{Written}
use Rattle.co_serial.specs.Records.{Records, with_change, with_changes}
use Rattle.co_pairs.specs.declared.prepared.Prepared.{Prepared}
use Rattle.co_pairs.specs.Free.{clashes_with, are_free}
use Rattle.co_state.specs.declared.engine_state.EngineState.{EngineState}
use Rattle.co_state.specs.declared.engine_state.Operation.{Operation}
use Rattle.co_state.specs.declared.engine_state.Vote.{Vote}
use Rattle.co_state.specs.Changes.{spans_of}
use Rattle.co_state.specs.Effects.{restored}
use Rattle.co_state.specs.EngineState.{operations_in, sets_in, sets_at}
use Rattle.co_state.specs.Keys.{same_key, reads_key, writes_key, writes_meet}
use Rattle.co_state.specs.StaleRead.{stale_keys}
use Rattle.co_state.specs.Table.{no_entries, look}
use Rattle.co_state.proofs.Tables.{look-put}
use Rattle.co_engine.specs.Calls.{votes_of, vote_in}
use Rattle.co_locktab.proofs.Orders.{same_number}
use Rattle.co_law_engine.proofs.Keys.{get-change, same_key_sym, same_key_refl, unchanged}
use Rattle.co_law_engine.proofs.SetsMade.{unwritten, meet_turned}
use Rattle.co_lock.specs.LockedState.{LockedState, with_write, with_writes, of_records, IsClear}
use Rattle.co_lock.specs.Standing.{Fits}
use Rattle.co_lock.proofs.Locking.{same_as, one_of, not_same, itself, neither_left, neither_right, or_true, or_false, and_false}

-- ---- changes one after another
with_writes-push : (g : LockedState) (t : ℕ) (ws : List Written) (w : Written) → with_writes g t (ws ++ w ∷ []) ≡ with_write (with_writes g t ws) t w.key w.value
with_writes-push g t [] w = refl
with_writes-push g t (v ∷ ws) w = with_writes-push (with_write g t v.key v.value) t ws w

pub writes_more : (g : LockedState) (t : ℕ) (ws : List Written) (i : ℕ) (w : Written) → i < length ws → w ≡ get_or ws i w → with_write (with_writes g t (take i ws)) t w.key w.value ≡ with_writes g t (take (i + 1) ws)
writes_more g t ws i w h is = sym (with_writes-push g t (take i ws) w) ∙ ap (with_writes g t) (ap (λ v. take i ws ++ v ∷ []) is ∙ sym (take_more ws i w h))

laid_flag : (u s k o : Bool) → ((u && k) || ((u && s) || o)) ≡ ((u && (s || k)) || o)
laid_flag true true true o = refl
laid_flag true true false o = refl
laid_flag true false true o = refl
laid_flag true false false o = refl
laid_flag false s k o = refl

pub wrote_laid : (g : LockedState) (t : ℕ) (ws : List Written) (u : ℕ) (q : List ℕ) → (with_writes g t ws).wrote u q ≡ (((u == t) && writes_key ws q) || g.wrote u q)
wrote_laid g t [] u q = sym (ap (λ b. b || g.wrote u q) (and_false (u == t)))
wrote_laid g t (w ∷ ws) u q = wrote_laid (with_write g t w.key w.value) t ws u q ∙ laid_flag (u == t) (same_key w.key q) (writes_key ws q) (g.wrote u q)

-- other transactions wrote what they wrote before
pub clear_still : (g : LockedState) (t : ℕ) (ws : List Written) (q : List ℕ) → IsClear g t q → IsClear (with_writes g t ws) t q
clear_still g t ws q clear u n = wrote_laid g t ws u q ∙ ap (λ b. (b && writes_key ws q) || g.wrote u q) (not_same u t n) ∙ clear u n

value_other : (g : LockedState) (t : ℕ) (ws : List Written) (u : ℕ) (q : List ℕ) → (u == t) ≡ false → (with_writes g t ws).value u q ≡ g.value u q
value_other g t [] u q e = refl
value_other g t (w ∷ ws) u q e = value_other (with_write g t w.key w.value) t ws u q e ∙ ap (λ b. if b && same_key w.key q then w.value else g.value u q) e

value_laid : (g : LockedState) (t : ℕ) (ws : List Written) (m : Records) (q : List ℕ) → (with_writes g t ws).value t q ≡ (if writes_key ws q then get (with_changes m ws) q else g.value t q)
value_laid g t [] m q = refl
value_laid g t (w ∷ ws) m q = value_laid (with_write g t w.key w.value) t ws (with_change m w.key w.value) q ∙ by (writes_key ws q) (same_key w.key q) refl refl
  where
    by : (b c : Bool) → writes_key ws q ≡ b → same_key w.key q ≡ c
        → (if b then get (with_changes (with_change m w.key w.value) ws) q else (if (t == t) && c then w.value else g.value t q)) ≡ (if c || b then get (with_changes (with_change m w.key w.value) ws) q else g.value t q)
    by true true e f = refl
    by true false e f = refl
    by false true e f =
        ap (λ b. if b && true then w.value else g.value t q) (itself t)
        ∙ sym (unchanged ws (with_change m w.key w.value) q e ∙ get-change m w.key w.value q ∙ ap (λ b. if b then w.value else get m q) (same_key_sym q w.key ∙ f))
    by false false e f = ap (λ b. if b && false then w.value else g.value t q) (itself t)

reads_laid : (g : LockedState) (t : ℕ) (ws : List Written) (u : ℕ) (q : List ℕ) → (with_writes g t ws).reads u q ≡ g.reads u q
reads_laid g t [] u q = refl
reads_laid g t (w ∷ ws) u q = reads_laid (with_write g t w.key w.value) t ws u q

installed_laid : (g : LockedState) (t : ℕ) (ws : List Written) → (with_writes g t ws).installed ≡ g.installed
installed_laid g t [] = refl
installed_laid g t (w ∷ ws) = installed_laid (with_write g t w.key w.value) t ws

-- ---- prepared transactions that are free of each other
pub free_at : (ps : List Prepared) (i : ℕ) (p : Prepared) → are_free ps ≡ true → i < length ps → clashes_with (get_or ps i p) (drop (i + 1) ps) ≡ false
free_at [] i p h k = absurd (omega (arith, k))
free_at (q ∷ ps) zero p h k = by (clashes_with q ps) h
  where
    by : (b : Bool) → (not b && are_free ps) ≡ true → b ≡ false
    by true e = absurd (true≢false (sym e))
    by false e = refl
free_at (q ∷ ps) (suc i) p h k =
    ap (λ n. clashes_with (get_or (q ∷ ps) (suc i) p) (drop n (q ∷ ps))) (let e : suc i + 1 ≡ suc (i + 1) = omega arith in e)
    ∙ free_at ps i p (rest (not (clashes_with q ps)) (are_free ps) h) (omega (arith, k))
  where
    rest : (a b : Bool) → (a && b) ≡ true → b ≡ true
    rest true b e = e
    rest false b e = absurd (true≢false (sym e))

voted_if : (c b : Bool) (x y : Option Vote) → c ≡ b → cond c x y ≡ (if b then x else y)
voted_if true b x y e = ap (λ d. if d then x else y) e
voted_if false b x y e = ap (λ d. if d then x else y) e

look_voted : (r : Prepared) (ps : List Prepared) (u : ℕ) → look (votes_of (r ∷ ps)) u ≡ (if u == r.txn then Some (vote_in r) else look (votes_of ps) u)
look_voted r ps u = look-put (votes_of ps) r.txn (vote_in r) u ∙ voted_if (same_number u r.txn) (u == r.txn) (Some (vote_in r)) (look (votes_of ps) u) (same_as u r.txn)

pub votes_absent : (p : Prepared) (ps : List Prepared) → clashes_with p ps ≡ false → look (votes_of ps) p.txn ≡ None
votes_absent p [] h = get-empty nat_cmp p.txn
votes_absent p (r ∷ ps) h =
    look_voted r ps p.txn ∙ ap (λ b. if b then Some (vote_in r) else look (votes_of ps) p.txn) (neither_left _ _ (neither_left _ _ (neither_left _ _ (neither_left _ _ h))))
    ∙ votes_absent p ps (neither_right _ _ h)

cleared : (p r : Prepared) (ps : List Prepared) (u : ℕ) (q : List ℕ) (b : Bool) → writes_meet p.sets.writes r.sets.writes ≡ false → writes_key p.sets.writes q ≡ true → writes_key (sets_in (look (votes_of ps) u) []).writes q ≡ false
    → writes_key (sets_in (if b then Some (vote_in r) else look (votes_of ps) u) []).writes q ≡ false
cleared p r ps u q true apart w rest = unwritten r.sets.writes p.sets.writes q (meet_turned p.sets.writes r.sets.writes apart) w
cleared p r ps u q false apart w rest = rest

pub votes_clear : (p : Prepared) (ps : List Prepared) (u : ℕ) (q : List ℕ) → clashes_with p ps ≡ false → writes_key p.sets.writes q ≡ true → writes_key (sets_in (look (votes_of ps) u) []).writes q ≡ false
votes_clear p [] u q h w = ap (λ o. writes_key (sets_in o []).writes q) (get-empty nat_cmp u)
votes_clear p (r ∷ ps) u q h w =
    ap (λ o. writes_key (sets_in o []).writes q) (look_voted r ps u)
    ∙ cleared p r ps u q (u == r.txn) (neither_right _ _ (neither_left _ _ h)) w (votes_clear p ps u q (neither_right _ _ h) w)

-- ---- a restored state
abbrev pub state_of : Records → List Prepared → EngineState
state_of records ps = restored Lock records (votes_of ps)

no_operations : (u : ℕ) → operations_in (look (no_entries {X = List Operation}) u) ≡ []
no_operations u = ap operations_in (get-empty nat_cmp u)

sets_restored : (records : Records) (ps : List Prepared) (u : ℕ) → sets_at (state_of records ps) u ≡ sets_in (look (votes_of ps) u) []
sets_restored records ps u = ap (sets_in (look (votes_of ps) u)) (no_operations u)

pub fits_start : (records : Records) → Fits (of_records records) (state_of records [])
fits_start records = record {
  installed_are = refl;
  wrote_are = λ u q. sym (ap (λ s. writes_key s.writes q) (sets_restored records [] u ∙ ap (λ o. sets_in o []) (get-empty nat_cmp u)));
  values_are = λ u q w. absurd (true≢false (sym w));
  reads_are = λ u q. sym (ap (λ os. reads_key (spans_of os) q) (no_operations u));
  readers_apart = λ u v q n r. refl;
  fresh = λ u. ap (λ os. stale_keys [] os) (no_operations u);
}

module _ (g : LockedState) (records : Records) (p : Prepared) (ps : List Prepared) (h : Fits g (state_of records ps)) (free : clashes_with p ps ≡ false) where
  not_there : (q : List ℕ) → g.wrote p.txn q ≡ false
  not_there q = h.wrote_are p.txn q ∙ ap (λ s. writes_key s.writes q) (sets_restored records ps p.txn ∙ ap (λ o. sets_in o []) (votes_absent p ps free))

  sets_next : (u : ℕ) → sets_at (state_of records (p ∷ ps)) u ≡ (if u == p.txn then p.sets else sets_at (state_of records ps) u)
  sets_next u = sets_restored records (p ∷ ps) u ∙ ap (λ o. sets_in o []) (look_voted p ps u) ∙ by (u == p.txn)
    where
      by : (b : Bool) → sets_in (if b then Some (vote_in p) else look (votes_of ps) u) [] ≡ (if b then p.sets else sets_at (state_of records ps) u)
      by true = refl
      by false = sym (sets_restored records ps u)

  pub alone : (q : List ℕ) → writes_key p.sets.writes q ≡ true → IsClear g p.txn q
  alone q w u n = h.wrote_are u q ∙ ap (λ s. writes_key s.writes q) (sets_restored records ps u) ∙ votes_clear p ps u q free w

  wrote_by : (u : ℕ) (q : List ℕ) (c : Bool) → (u == p.txn) ≡ c → ((c && writes_key p.sets.writes q) || g.wrote u q) ≡ writes_key (if c then p.sets else sets_at (state_of records ps) u).writes q
  wrote_by u q true e = ap (λ b. writes_key p.sets.writes q || b) (ap (λ j. g.wrote j q) (one_of u p.txn e) ∙ not_there q) ∙ or_false (writes_key p.sets.writes q)
  wrote_by u q false e = h.wrote_are u q

  values_by : (u : ℕ) (q : List ℕ) (c : Bool) → (u == p.txn) ≡ c → writes_key (if c then p.sets else sets_at (state_of records ps) u).writes q ≡ true
      → (with_writes g p.txn p.sets.writes).value u q ≡ get (with_changes empty (if c then p.sets else sets_at (state_of records ps) u).writes) q
  values_by u q true e w =
      ap (λ j. (with_writes g p.txn p.sets.writes).value j q) (one_of u p.txn e) ∙ value_laid g p.txn p.sets.writes empty q
      ∙ ap (λ b. if b then get (with_changes empty p.sets.writes) q else g.value p.txn q) w
  values_by u q false e w = value_other g p.txn p.sets.writes u q e ∙ h.values_are u q (h.wrote_are u q ∙ w)

  wrote_next : (u : ℕ) (q : List ℕ) → (with_writes g p.txn p.sets.writes).wrote u q ≡ writes_key (sets_at (state_of records (p ∷ ps)) u).writes q
  wrote_next u q = wrote_laid g p.txn p.sets.writes u q ∙ wrote_by u q (u == p.txn) refl ∙ ap (λ s. writes_key s.writes q) (sym (sets_next u))

  nothing_read : (u : ℕ) (q : List ℕ) → g.reads u q ≡ false
  nothing_read u q = h.reads_are u q ∙ ap (λ os. reads_key (spans_of os) q) (no_operations u)

  pub fits_laid : Fits (with_writes g p.txn p.sets.writes) (state_of records (p ∷ ps))
  fits_laid = record {
    installed_are = installed_laid g p.txn p.sets.writes ∙ h.installed_are;
    wrote_are = wrote_next;
    values_are = λ u q w.
        values_by u q (u == p.txn) refl (sym (ap (λ s. writes_key s.writes q) (sets_next u)) ∙ sym (wrote_next u q) ∙ w)
        ∙ ap (λ s. get (with_changes empty s.writes) q) (sym (sets_next u));
    reads_are = λ u q. reads_laid g p.txn p.sets.writes u q ∙ h.reads_are u q;
    readers_apart = λ u v q n r. absurd (true≢false (sym r ∙ reads_laid g p.txn p.sets.writes u q ∙ nothing_read u q));
    fresh = h.fresh;
  }

-- a change of a list is one of its keys
pub key_listed : (ws : List Written) (i : ℕ) (w : Written) → i < length ws → w ≡ get_or ws i w → writes_key ws w.key ≡ true
key_listed [] i w h is = absurd (omega (arith, h))
key_listed (v ∷ ws) zero w h is = ap (λ b. b || writes_key ws w.key) (ap (same_key v.key) (ap (λ (x : Written). x.key) is) ∙ same_key_refl v.key)
key_listed (v ∷ ws) (suc i) w h is = ap (λ b. same_key v.key w.key || b) (key_listed ws i w (omega (arith, h)) is) ∙ or_true (same_key v.key w.key)

-- the prepared transaction before the last laid ones
pub next_laid : (ps : List Prepared) (i place : ℕ) (p : Prepared) → i < length ps → i + 1 ≡ place → p ≡ get_or ps i p → p ∷ drop place ps ≡ drop i ps
next_laid ps i place p h e is = (λ j. is j ∷ drop (sym e j) ps) ∙ sym (drop_more ps i p h)

pub next_free : (ps : List Prepared) (i place : ℕ) (p : Prepared) → are_free ps ≡ true → i < length ps → i + 1 ≡ place → p ≡ get_or ps i p → clashes_with p (drop place ps) ≡ false
next_free ps i place p free h e is = (λ j. clashes_with (is j) (drop (sym e j) ps)) ∙ free_at ps i p free h
