-- For which states the engine stands after each call.
use Rattle.std.proofs.Common.{◌≡◌, inl, inr, T, ℕ, ◌<◌, ◌≤◌, Bool, true, false, cond, ◌&&◌, List, [], ◌∷◌, ◌++◌, map, filter, length, reverse, is_some, Option, None, Some, IsTrue, refl, sym, ap, ◌∙◌, subst, true≢false, eqb→eq, eq-eqb, arith}
use Rattle.std.specs.Prelude.{◌==◌}
use Rattle.std.specs.List.{list_all}
use Rattle.std.specs.Option.{option_map}
use Rattle.std.specs.Ordering.{nat_cmp, eq_by_cmp}
use Rattle.std.specs.FinMap.{empty, entries, entries_sorted, get, get-entries, get-empty}
use Rattle.co_base.specs.Span.{Span, span_has}
use Rattle.co_base.specs.declared.head.Kind.{Kind}
use Rattle.co_base.specs.declared.head.Kind.TheVariants.{Mv}
use Rattle.co_base.specs.declared.op.Op.{Op}
use Rattle.co_base.specs.declared.op.Op.TheVariants.{Read, Scan}
use Rattle.co_base.specs.declared.reply.Reply.TheVariants.{Got, Rows}
use Rattle.co_serial.specs.Records.{Records, with_changes, all_rows, rows_within}
use Rattle.co_pairs.specs.declared.prepared.Prepared.{Prepared}
use Rattle.co_state.specs.declared.engine_state.EngineState.{EngineState}
use Rattle.co_state.specs.declared.engine_state.Install.{Install}
use Rattle.co_state.specs.declared.engine_state.Operation.{Operation}
use Rattle.co_state.specs.declared.engine_state.Sets.{Sets}
use Rattle.co_state.specs.declared.engine_state.Vote.{Vote}
use Rattle.co_state.specs.Changes.{sets_of}
use Rattle.co_state.specs.Effects.{with_operation, after_cast, after_install, after_drop, install_vote, restored, dumped_rows}
use Rattle.co_state.specs.EngineState.{operations_in, operations_of, sets_in, sets_at, records_at}
use Rattle.co_state.specs.Keys.{least_key, reads_key}
use Rattle.co_state.specs.LockRule.{lock_blocker, lock_holder, blocker_by}
use Rattle.co_state.specs.ReadRule.{stamp_after, snapshot_of, visible_records, operation_reply}
use Rattle.co_state.specs.StaleRead.{stale_key, keys_since}
use Rattle.co_state.specs.Table.{no_entries, look, without, holds}
use Rattle.co_state.proofs.Tables.{look-put, look-without, put-without}
use Rattle.co_engine.specs.Calls.{may_operate, votes_of}
use Rattle.co_mv.specs.declared.archive.Archive.{Archive}
use Rattle.co_mv.specs.declared.mv_engine.MvEngine.{MvEngine}
use Rattle.co_mv.specs.declared.version.Version.{Version}
use Rattle.co_mv.specs.Chains.{chain_of, chain_in}
use Rattle.co_mv.specs.Kept.{needed, or_now, stamp_of, entered, left, grown, IsNeeded, Keeps, AreStamped, active_sets, voted_sets, IsKept, StandsFor, pinned_numbers, pins_of, own_writes, seen_within, visible_within}
use Rattle.co_engine.specs.Undecided.{or_nothing, grown_by, grown_at}
use Rattle.co_engine.proofs.Answering.{cond-same, not_voted, records_at-all}
use Rattle.co_pairs.specs.Votes.{told_of}
use Rattle.co_pairs.proofs.Votes.{told_voted}
use Rattle.co_engine.proofs.Mapped.{mapped, table-mapped}
use Rattle.co_mv.specs.Overwritten.{written_within}
use Rattle.co_mv.specs.Reading.{all_noted}
use Rattle.co_mv.specs.Recents.{has_key}
use Rattle.co_mv.specs.Versions.{first_stamp, needed_numbers, kept_versions, is_kept, versions_of, seen_value, written_since}
use Rattle.co_mv.proofs.Archiving.{stamp_needed}
use Rattle.co_index.proofs.Least.{least_same}
use Rattle.co_mv.proofs.Needing.{tied, kept_for_all, not_kept, sees_open}
use Rattle.co_mv.proofs.Overwriting.{has-stale, has-within, since-versions, since-kept}
use Rattle.co_mv.proofs.Visible.{noted_records, within_at, laid_at, rows_same}
use Rattle.co_mv.proofs.Versioning.{IsLink, linked, seen_kept, seen_at, written_bound, and_first, and_second}

-- ---- what is kept of one transaction
pub sets_kept : (st : Option ℕ) (x : Option Sets) (os : Option (List Operation)) (vote : Option Vote) → IsKept st x os vote → sets_in vote (operations_in os) ≡ or_nothing x
sets_kept None x None None k = ap or_nothing k.votes_are
sets_kept None x None (Some v) k = ap or_nothing k.votes_are
sets_kept None x (Some os) vote k = absurd k.stamps_are
sets_kept (Some n) x os (Some v) k = absurd (let f : Some v.sets ≡ None = k.votes_are in cc)
sets_kept (Some n) x None None k = absurd k.stamps_are
sets_kept (Some n) x (Some os) None k = ap or_nothing k.sets_are

all_stamped : (st : Option ℕ) (now : ℕ) (os : Option (List Operation)) → AreStamped st os → list_all (λ o. o.stamp == or_now now st) (operations_in os) ≡ true
all_stamped None now None k = refl
all_stamped None now (Some os) k = absurd k
all_stamped (Some n) now None k = absurd k
all_stamped (Some n) now (Some []) k = absurd k
all_stamped (Some n) now (Some (o ∷ os)) k = k

stamp_kept : (st : Option ℕ) (now : ℕ) (os : Option (List Operation)) → AreStamped st os → or_now now st ≡ stamp_after Mv now (operations_in os)
stamp_kept None now None k = refl
stamp_kept None now (Some os) k = absurd k
stamp_kept (Some n) now None k = absurd k
stamp_kept (Some n) now (Some []) k = absurd k
stamp_kept (Some n) now (Some (o ∷ os)) k = sym (eqb→eq o.stamp n (subst T (sym (and_first (o.stamp == n) (list_all (λ p. p.stamp == n) os) k)) tt))

first_at : (n now : ℕ) (o : Operation) (os : List Operation) → list_all (λ p. p.stamp == n) (o ∷ os) ≡ true → first_stamp now (o ∷ os) ≡ n
first_at n now o [] h = eqb→eq o.stamp n (subst T (sym (and_first (o.stamp == n) true h)) tt)
first_at n now o (p ∷ os) h = first_at n now p os (and_second (o.stamp == n) (list_all (λ q. q.stamp == n) (p ∷ os)) h)

first_kept : (st : Option ℕ) (now : ℕ) (os : Option (List Operation)) → AreStamped st os → st ≡ option_map (first_stamp now) os
first_kept None now None k = refl
first_kept None now (Some os) k = absurd k
first_kept (Some n) now None k = absurd k
first_kept (Some n) now (Some []) k = absurd k
first_kept (Some n) now (Some (o ∷ os)) k = ap Some (sym (first_at n now o os k))

kept_along : {st st' : Option ℕ} {x x' : Option Sets} {os os' : Option (List Operation)} {vote vote' : Option Vote} → st ≡ st' → x ≡ x' → os ≡ os' → vote ≡ vote' → IsKept st x os vote → IsKept st' x' os' vote'
kept_along {st} {st'} {x} {x'} {os} {os'} {vote} {vote'} p q r u k = record {
  stamps_are = subst (AreStamped st') r (subst (λ s. AreStamped s os) p k.stamps_are);
  sets_are = ap (option_map sets_of) (sym r) ∙ k.sets_are ∙ (λ i. active_sets (p i) (q i));
  votes_are = ap (option_map (λ v. v.sets)) (sym u) ∙ k.votes_are ∙ (λ i. voted_sets (p i) (q i));
}

kept_cond : (c : Bool) {st st' : Option ℕ} {x x' : Option Sets} {os os' : Option (List Operation)} {vote vote' : Option Vote} → (c ≡ true → IsKept st x os vote) → (c ≡ false → IsKept st' x' os' vote')
    → IsKept (cond c st st') (cond c x x') (cond c os os') (cond c vote vote')
kept_cond true f g = f refl
kept_cond false f g = g refl

nothing_kept : IsKept None None None None
nothing_kept = record { stamps_are = tt; sets_are = refl; votes_are = refl }

-- ---- reading a state
pub sets_alike : (e : MvEngine) (b : EngineState) (t : ℕ) → StandsFor e b → sets_at b t ≡ or_nothing (look e.undecided t)
sets_alike e b t s = sets_kept (look e.archive.snapshots.stamps t) (look e.undecided t) (look b.active t) (look b.voted t) (s.each t)

own_sets : (e : MvEngine) (b : EngineState) (t : ℕ) → StandsFor e b → look b.voted t ≡ None → sets_of (operations_of b t) ≡ or_nothing (look e.undecided t)
own_sets e b t s none = ap (λ v. sets_in v (operations_of b t)) (sym none) ∙ sets_alike e b t s

stamp_alike : (e : MvEngine) (b : EngineState) (t : ℕ) → StandsFor e b → stamp_of e.archive.snapshots t ≡ snapshot_of b t
stamp_alike e b t s =
    stamp_kept (look e.archive.snapshots.stamps t) e.archive.snapshots.installs (look b.active t) (s.each t).stamps_are
    ∙ (λ i. stamp_after (s.kind_is i) (s.keeps.installs_are i) (operations_of b t))

-- what a needed number sees of the versions is what the records then had
pub seen_alike : (a : Archive) (base : Records) (is : List Install) (n : ℕ) (q : List ℕ) → Keeps a base is → IsNeeded a.snapshots n → get (records_at base is n) q ≡ seen_value n (chain_of a.chains q)
seen_alike a base is n q k h = sym
    (ap (seen_value n) (k.chains_are q)
    ∙ seen_kept is q (is_kept (needed a.snapshots)) n None (versions_of base is q) (linked base is q) (λ v e f. not_kept a.snapshots v n h e f)
    ∙ seen_at base is q n)

seen_at_stamp : (e : MvEngine) (b : EngineState) (t : ℕ) (q : List ℕ) → StandsFor e b
    → get (records_at b.base b.installed (stamp_of e.archive.snapshots t)) q ≡ seen_value (stamp_of e.archive.snapshots t) (chain_of e.archive.chains q)
seen_at_stamp e b t q s = seen_alike e.archive b.base b.installed (stamp_of e.archive.snapshots t) q s.keeps (stamp_needed e.archive.snapshots t (look e.archive.snapshots.stamps t) refl)

-- the records at the snapshot of a transaction, with its own writes laid over, are what it sees
visible_alike : (e : MvEngine) (b : EngineState) (t : ℕ) → StandsFor e b → IsTrue (may_operate b t)
    → with_changes (records_at b.base b.installed (stamp_of e.archive.snapshots t)) (own_writes e t) ≡ visible_records b t
visible_alike e b t s h = λ i. with_changes (records_at b.base b.installed (stamp_alike e b t s i)) (sym (own_sets e b t s (not_voted b t h)) i).writes

pub read_alike : (e : MvEngine) (b : EngineState) (t : ℕ) (key : List ℕ) (value : Option (List ℕ)) → StandsFor e b → IsTrue (may_operate b t)
    → ((past : Records) → get past key ≡ seen_value (stamp_of e.archive.snapshots t) (chain_of e.archive.chains key) → value ≡ get (with_changes past (own_writes e t)) key)
    → Got value ≡ operation_reply b t (Read key)
read_alike e b t key value s h is =
    ap Got (is (records_at b.base b.installed (stamp_of e.archive.snapshots t)) (seen_at_stamp e b t key s) ∙ ap (λ m. get m key) (visible_alike e b t s h))

pub scan_alike : (e : MvEngine) (b : EngineState) (t : ℕ) (span : Span) → StandsFor e b → IsTrue (may_operate b t) → Rows (all_rows (visible_within e t span)) ≡ operation_reply b t (Scan span)
scan_alike e b t span s h =
    let n = stamp_of e.archive.snapshots t in
    let past = records_at b.base b.installed n in
    ap Rows
    (rows_same span (visible_within e t span) (with_changes past (own_writes e t))
    (laid_at span (own_writes e t) (all_noted n empty (filter (λ x. span_has span x.0) (entries e.archive.chains))) past (within_at n e.archive.chains past span (λ q. seen_at_stamp e b t q s)))
    ∙ ap (λ m. rows_within m span) (visible_alike e b t s h))

pub dump_alike : (e : MvEngine) (b : EngineState) → StandsFor e b → all_rows (all_noted e.archive.snapshots.installs empty (entries e.archive.chains)) ≡ dumped_rows b.kind b
dump_alike e b s =
    let now = e.archive.snapshots.installs in
    ap all_rows (noted_records now e.archive.chains (records_at b.base b.installed now) (λ q. seen_alike e.archive b.base b.installed now q s.keeps (inl refl))
    ∙ ap (records_at b.base b.installed) s.keeps.installs_are ∙ records_at-all b.base b.installed)
    ∙ ap (λ kind. dumped_rows kind b) s.kind_is

-- ---- overwritten reads
pub since_alike : (a : Archive) (base : Records) (is : List Install) (t n : ℕ) (key : List ℕ) → Keeps a base is → look a.snapshots.stamps t ≡ Some n → written_since n (chain_of a.chains key) ≡ has_key (keys_since is n) key
since_alike a base is t n key k at =
    ap (written_since n) (k.chains_are key)
    ∙ since-kept is key (is_kept (needed a.snapshots)) n (versions_of base is key) (linked base is key) kept
    ∙ since-versions base is key n
  where
    kept : (v : Version) → IsLink is key None v → n < v.written → is_kept (needed a.snapshots) v ≡ true
    kept v l h =
        let b : v.written ≤ length is = written_bound is key v.written l.begun in
        let i = k.installs_are in
        kept_for_all a.snapshots v a.snapshots.installs n (inl refl) (sees_open a.snapshots.installs v l.ended (omega (arith, b, i))) (inr (inl (t, at))) h

active_stamp : (st : Option ℕ) (os : Option (List Operation)) → AreStamped st os → is_some os ≡ true → (n : ℕ) × (st ≡ Some n)
active_stamp None None k h = absurd (true≢false (sym h))
active_stamp None (Some os) k h = absurd k
active_stamp (Some n) os k h = (n, refl)

voted_none : (n : ℕ) (x : Option Sets) (os : Option (List Operation)) (vote : Option Vote) → IsKept (Some n) x os vote → vote ≡ None
voted_none n x os None k = refl
voted_none n x os (Some v) k = absurd (let f : Some v.sets ≡ None = k.votes_are in cc)

pub stale_alike : (e : MvEngine) (b : EngineState) (t : ℕ) → StandsFor e b → IsTrue (holds b.active t)
    → least_key (written_within (stamp_of e.archive.snapshots t) (entries e.archive.chains) (or_nothing (look e.undecided t)).reads) ≡ stale_key b t
stale_alike e b t s h = least_same _ _ (λ k.
    has-within n (entries e.archive.chains) (or_nothing (look e.undecided t)).reads k (entries_sorted e.archive.chains)
    ∙ (λ i. reads_key (sym own i).reads k && (ap (λ o. written_since n (chain_in o)) (sym (get-entries e.archive.chains k)) ∙ since k) i)
    ∙ sym (has-stale b.installed n (operations_of b t) k (all_stamped (look e.archive.snapshots.stamps t) e.archive.snapshots.installs (look b.active t) (s.each t).stamps_are)))
  where
    n : ℕ
    n = stamp_of e.archive.snapshots t

    at : (m : ℕ) × (look e.archive.snapshots.stamps t ≡ Some m)
    at = active_stamp (look e.archive.snapshots.stamps t) (look b.active t) (s.each t).stamps_are h

    none : look b.voted t ≡ None
    none = voted_none at.0 (look e.undecided t) (look b.active t) (look b.voted t) (kept_along at.1 refl refl refl (s.each t))

    own : sets_of (operations_of b t) ≡ or_nothing (look e.undecided t)
    own = own_sets e b t s none

    since : (k : List ℕ) → written_since (stamp_of e.archive.snapshots t) (chain_of e.archive.chains k) ≡ has_key (keys_since b.installed (stamp_of e.archive.snapshots t)) k
    since k =
        let x : or_now e.archive.snapshots.installs (look e.archive.snapshots.stamps t) ≡ at.0 = ap (or_now e.archive.snapshots.installs) at.1 in
        ap (λ m. written_since m (chain_of e.archive.chains k)) x ∙ since_alike e.archive b.base b.installed t at.0 k s.keeps at.1 ∙ ap (λ m. has_key (keys_since b.installed m) k) (sym x)

-- ---- the needed numbers
seconds : {X : Type 0} (f : X → ℕ) (es : List (ℕ × X)) → map (λ e. e.1) (mapped f es) ≡ map (λ e. f e.1) es
seconds f [] = refl
seconds f (e ∷ es) = ap (λ ns. f e.1 ∷ ns) (seconds f es)

pub needed_alike : (e : MvEngine) (b : EngineState) → StandsFor e b → needed e.archive.snapshots ≡ needed_numbers b (pins_of e)
needed_alike e b s =
    let now = length b.installed in
    let f = first_stamp now in
    let same : entries e.archive.snapshots.stamps ≡ mapped f (entries b.active) =
    table-mapped f e.archive.snapshots.stamps b.active (λ q. first_kept (look e.archive.snapshots.stamps q) now (look b.active q) (s.each q).stamps_are) in
    (λ i. s.keeps.installs_are i ∷ ((ap (map (λ e. e.1)) same ∙ seconds f (entries b.active)) i ++ pinned_numbers (pins_of e)))

pub versions_alike : (e : MvEngine) (b : EngineState) (key : List ℕ) → StandsFor e b → reverse (chain_of e.archive.chains key) ≡ kept_versions b (pins_of e) key
versions_alike e b key s = ap reverse (s.keeps.chains_are key ∙ ap (λ ns. filter (is_kept ns) (versions_of b.base b.installed key)) (needed_alike e b s))

-- ---- readers that are pinned
pub look_alike : (e : MvEngine) (b : EngineState) (id installs : ℕ) (span : Span) → StandsFor e b → look (pins_of e) id ≡ Some installs
    → all_rows (seen_within e.archive.chains span installs) ≡ rows_within (records_at b.base b.installed installs) span
look_alike e b id installs span s at =
    rows_same span (seen_within e.archive.chains span installs) (records_at b.base b.installed installs)
    (within_at installs e.archive.chains (records_at b.base b.installed installs) span (λ q. seen_alike e.archive b.base b.installed installs q s.keeps (inr (inr (id, at)))))

pub stands_still : (e e' : MvEngine) (b : EngineState) → StandsFor e b → e'.archive.snapshots.stamps ≡ e.archive.snapshots.stamps → Keeps e'.archive b.base b.installed → e'.undecided ≡ e.undecided → StandsFor e' b
stands_still e e' b s stamps k sets = record {
  kind_is = s.kind_is;
  keeps = k;
  each = λ t. kept_along (ap (λ m. look m t) (sym stamps)) (ap (λ m. look m t) (sym sets)) refl refl (s.each t);
}

-- ---- one operation more
pub stands_with : (e e' : MvEngine) (b : EngineState) (t : ℕ) (op : Op) → StandsFor e b → IsTrue (may_operate b t) → e'.archive.snapshots ≡ entered e.archive.snapshots t → Keeps e'.archive b.base b.installed
    → e'.undecided ≡ grown_at e.undecided t op → StandsFor e' (with_operation b t op)
stands_with e e' b t op s h es k sets =
    let none = not_voted b t h in
    let st = stamp_of e.archive.snapshots t in
    record {
      kind_is = s.kind_is;
      keeps = k;
      each = λ u.
          kept_along (sym (ap (λ x. look x.stamps u) es ∙ look-put e.archive.snapshots.stamps t st u))
          (sym (ap (λ m. look m u) (sets ∙ put-without e.undecided t (grown_by op (or_nothing (look e.undecided t)))) ∙ look-put e.undecided t (grown_by op (or_nothing (look e.undecided t))) u))
          (sym (look-put b.active t (record { op = op; stamp = snapshot_of b t } ∷ operations_of b t) u)) (cond-same (eq_by_cmp nat_cmp u t) (look b.voted u))
          (kept_cond (eq_by_cmp nat_cmp u t)
          (λ y. record {
            stamps_are = (λ i. (ap (λ n. n == st) (sym (stamp_alike e b t s)) ∙ eq-eqb st st refl) i
                && all_stamped (look e.archive.snapshots.stamps t) e.archive.snapshots.installs (look b.active t) (s.each t).stamps_are i);
            sets_are = ap (λ x. Some (grown_by op x)) (own_sets e b t s none);
            votes_are = ap (option_map (λ v. v.sets)) (ap (look b.voted) (tied u t y) ∙ none);
          })
          (λ n. s.each u));
    }

-- nobody is blocked
pub not_blocked : (e : MvEngine) (b : EngineState) (t : ℕ) (op : Op) → StandsFor e b → None ≡ lock_blocker b t op
not_blocked e b t op s = ap (λ kind. blocker_by kind (lock_holder b t op)) s.kind_is

-- ---- votes, commits and drops
left_each : (e e' : MvEngine) (t : ℕ) → e'.archive.snapshots ≡ left e.archive.snapshots t → (u : ℕ) → look e'.archive.snapshots.stamps u ≡ cond (eq_by_cmp nat_cmp u t) None (look e.archive.snapshots.stamps u)
left_each e e' t es u = ap (λ x. look x.stamps u) es ∙ look-without e.archive.snapshots.stamps t u

cast_one : (st : Option ℕ) (x : Option Sets) (os : Option (List Operation)) (vote : Option Vote) (coord count : ℕ) → IsKept st x os vote → is_some os ≡ true
    → IsKept None x None (Some (record { coord = coord; count = count; sets = sets_of (operations_in os) }))
cast_one st x None vote coord count k h = absurd (true≢false (sym h))
cast_one None x (Some os) vote coord count k h = absurd k.stamps_are
cast_one (Some n) x (Some os) vote coord count k h = record { stamps_are = tt; sets_are = refl; votes_are = k.sets_are }

pub stands_cast : (e e' : MvEngine) (b : EngineState) (t coord count : ℕ) → StandsFor e b → IsTrue (holds b.active t) → e'.archive.snapshots ≡ left e.archive.snapshots t → Keeps e'.archive b.base b.installed
    → e'.undecided ≡ e.undecided → StandsFor e' (after_cast b t coord count)
stands_cast e e' b t coord count s h es k sets = record {
  kind_is = s.kind_is;
  keeps = k;
  each = λ u.
      kept_along (sym (left_each e e' t es u)) (cond-same (eq_by_cmp nat_cmp u t) (look e.undecided u) ∙ ap (λ m. look m u) (sym sets)) (sym (look-without b.active t u)) (sym (look-put b.voted t _ u))
      (kept_cond (eq_by_cmp nat_cmp u t)
      (λ y. kept_along refl (ap (look e.undecided) (sym (tied u t y))) refl refl (cast_one (look e.archive.snapshots.stamps t) (look e.undecided t) (look b.active t) (look b.voted t) coord count (s.each t) h))
      (λ n. s.each u));
}

pub stands_drop : (e e' : MvEngine) (b : EngineState) (t : ℕ) → StandsFor e b → e'.archive.snapshots ≡ left e.archive.snapshots t → Keeps e'.archive b.base b.installed
    → e'.undecided ≡ without e.undecided t → StandsFor e' (after_drop b t)
stands_drop e e' b t s es k sets = record {
  kind_is = s.kind_is;
  keeps = k;
  each = λ u.
      kept_along (sym (left_each e e' t es u)) (sym (ap (λ m. look m u) sets ∙ look-without e.undecided t u)) (sym (look-without b.active t u)) (sym (look-without b.voted t u))
      (kept_cond (eq_by_cmp nat_cmp u t) (λ y. nothing_kept) (λ n. s.each u));
}

voted_stamp : (st : Option ℕ) (x : Option Sets) (os : Option (List Operation)) (vote : Vote) → IsKept st x os (Some vote) → st ≡ None
voted_stamp None x os vote k = refl
voted_stamp (Some n) x os vote k = absurd (let f : Some vote.sets ≡ None = k.votes_are in cc)

voted_active : (x : Option Sets) (os : Option (List Operation)) (vote : Option Vote) → IsKept None x os vote → os ≡ None
voted_active x None vote k = refl
voted_active x (Some os) vote k = absurd k.stamps_are

install_at : (e e' : MvEngine) (b : EngineState) (t : ℕ) (own : Sets) (o : Option Vote) → StandsFor e b → is_some o ≡ true → look b.voted t ≡ o → look e.undecided t ≡ Some own
    → e'.archive.snapshots ≡ grown e.archive.snapshots → Keeps e'.archive b.base (record { txn = t; writes = own.writes } ∷ b.installed) → e'.undecided ≡ without e.undecided t → StandsFor e' (install_vote b t o)
install_at e e' b t own None s h f is es k sets = absurd (true≢false (sym h))
install_at e e' b t own (Some vote) s h f is es k sets =
    let kt : IsKept (look e.archive.snapshots.stamps t) (look e.undecided t) (look b.active t) (Some vote) = kept_along refl refl refl f (s.each t) in
    let no_stamp : look e.archive.snapshots.stamps t ≡ None = voted_stamp (look e.archive.snapshots.stamps t) (look e.undecided t) (look b.active t) vote kt in
    let kn : IsKept None (Some own) (look b.active t) (Some vote) = kept_along no_stamp is refl refl kt in
    let same : vote.sets ≡ own = (let g : Some vote.sets ≡ Some own = kn.votes_are in cc) in
    record {
      kind_is = s.kind_is;
      keeps = subst (λ x. Keeps e'.archive b.base (record { txn = t; writes = x.writes } ∷ b.installed)) (sym same) k;
      each = λ u.
          kept_along (cond-same (eq_by_cmp nat_cmp u t) (look e.archive.snapshots.stamps u) ∙ ap (λ x. look x.stamps u) (sym es)) (sym (ap (λ m. look m u) sets ∙ look-without e.undecided t u))
          (cond-same (eq_by_cmp nat_cmp u t) (look b.active u)) (sym (look-without b.voted t u))
          (kept_cond (eq_by_cmp nat_cmp u t)
          (λ y. kept_along (sym (ap (look e.archive.snapshots.stamps) (tied u t y) ∙ no_stamp)) refl (sym (ap (look b.active) (tied u t y) ∙ voted_active (Some own) (look b.active t) (Some vote) kn)) refl nothing_kept)
          (λ n. s.each u));
    }

pub stands_install : (e e' : MvEngine) (b : EngineState) (t : ℕ) (own : Sets) → StandsFor e b → IsTrue (holds b.voted t) → look e.undecided t ≡ Some own
    → e'.archive.snapshots ≡ grown e.archive.snapshots → Keeps e'.archive b.base (record { txn = t; writes = own.writes } ∷ b.installed) → e'.undecided ≡ without e.undecided t → StandsFor e' (after_install b t)
stands_install e e' b t own s h is es k sets = install_at e e' b t own (look b.voted t) s h refl is es k sets

absent_vote : (st : Option ℕ) (os : Option (List Operation)) (vote : Option Vote) → IsKept st None os vote → is_some vote ≡ false
absent_vote st os None k = refl
absent_vote None os (Some vote) k = absurd (let f : Some vote.sets ≡ None = k.votes_are in cc)
absent_vote (Some n) os (Some vote) k = absurd (let f : Some vote.sets ≡ None = k.votes_are in cc)

pub install_absent : (e : MvEngine) (b : EngineState) (t : ℕ) {A : Type 0} → StandsFor e b → IsTrue (holds b.voted t) → look e.undecided t ≡ None → A
install_absent e b t s h is = absurd (true≢false (sym h ∙ absent_vote (look e.archive.snapshots.stamps t) (look b.active t) (look b.voted t) (kept_along refl is refl refl (s.each t))))

absent_active : (st : Option ℕ) (os : Option (List Operation)) (vote : Option Vote) → IsKept st None os vote → is_some os ≡ false
absent_active st None vote k = refl
absent_active None (Some os) vote k = absurd k.stamps_are
absent_active (Some n) (Some os) vote k = absurd (let f : Some (sets_of os) ≡ None = k.sets_are in cc)

pub stale_absent : (e : MvEngine) (b : EngineState) (t : ℕ) {A : Type 0} → StandsFor e b → IsTrue (holds b.active t) → look e.undecided t ≡ None → A
stale_absent e b t s h is = absurd (true≢false (sym h ∙ absent_active (look e.archive.snapshots.stamps t) (look b.active t) (look b.voted t) (kept_along refl is refl refl (s.each t))))

-- ---- the start
prepared_kept : (vote : Option Vote) → IsKept None (option_map (λ v. v.sets) vote) None vote
prepared_kept None = nothing_kept
prepared_kept (Some vote) = record { stamps_are = tt; sets_are = refl; votes_are = refl }

pub stands_restored : (e : MvEngine) (kind : Kind) (records : Records) (ps : List Prepared) → Mv ≡ kind → Keeps e.archive records [] → e.archive.snapshots.stamps ≡ no_entries → e.undecided ≡ told_of (λ p. p.sets) ps
    → StandsFor e (restored kind records (votes_of ps))
stands_restored e kind records ps is k none sets = record {
  kind_is = is;
  keeps = k;
  each = λ u. kept_along (sym (ap (λ m. look m u) none ∙ get-empty nat_cmp u)) (sym (ap (λ m. look m u) sets ∙ told_voted (λ p. p.sets) (λ v. v.sets) (λ p. refl) ps u)) (sym (get-empty nat_cmp u)) refl (prepared_kept (look (votes_of ps) u));
}
