-- What an archive keeps after a number is held no more.
use Rattle.std.proofs.Common.{◌≡◌, ◌⊎◌, inl, inr, ℕ, ◌<◌, ◌≤◌, Bool, true, false, not, cond, ◌&&◌, ◌||◌, List, [], filter, is_some, Option, None, Some, refl, sym, ap, ◌∙◌, subst, true≢false, arith}
use Rattle.std.specs.Prelude.{nat_lt, nat_le}
use Rattle.std.specs.List.{list_any, list_all}
use Rattle.std.proofs.lemmas.Bool.Decides.{nat_tests}
use Rattle.std.specs.Ordering.{nat_cmp, eq_by_cmp}
use Rattle.std.specs.Cmp.{both_ways}
use Rattle.co_serial.specs.Records.{Records}
use Rattle.co_state.specs.declared.engine_state.Install.{Install}
use Rattle.co_state.specs.Table.{Table, look, without}
use Rattle.co_state.proofs.Tables.{look-without, same_table}
use Rattle.co_mv.specs.declared.archive.Archive.{Archive}
use Rattle.co_mv.specs.declared.snapshots.Snapshots.{Snapshots}
use Rattle.co_mv.specs.declared.version.Version.{Version}
use Rattle.co_mv.specs.Chains.{chain_of}
use Rattle.co_stamps.specs.Stamped.{IsStamp}
use Rattle.co_mv.specs.Kept.{needed, left, unpinned, IsHeld, IsNeeded, IsNext, IsReleased, IsReadFrom, WereKept, WereAllKept, IsPruned, Keeps, wrote_at}
use Rattle.co_mv.specs.Recents.{Recents, keys_at, has_key}
use Rattle.co_mv.specs.Versions.{versions_of, is_before, sees, is_gone, is_kept, is_apart, stays}
use Rattle.co_mv.proofs.Chaining.{each_one}
use Rattle.co_mv.proofs.Needing.{tied, some_same, any-needed, needed-any, within-alike, kept_to, kept_fewer, each_link, filter-within, filter-alike}
use Rattle.co_mv.proofs.Ordering.{ordered_filter, ordered_linked, each_filtered}
use Rattle.co_mv.proofs.Versioning.{le_true, true_le, lt_true, true_lt, and_first, and_second, IsLink, linked, IsWritten}

-- ---- a number is held no more
without_was : (m : Table ℕ) (t n : ℕ) → IsStamp (without m t) n → IsStamp m n
without_was m t n (u, e) = by (eq_by_cmp nat_cmp u t) (sym (look-without m t u) ∙ e)
  where
    by : (b : Bool) → cond b None (look m u) ≡ Some n → IsStamp m n
    by true f = absurd (let g : None ≡ Some n = f in cc)
    by false f = (u, f)

-- a number stays, or it was the one that was taken away
without_stays : (m : Table ℕ) (t n : ℕ) → IsStamp m n → IsStamp (without m t) n ⊎ (look m t ≡ Some n)
without_stays m t n (u, e) = by (eq_by_cmp nat_cmp u t) refl
  where
    by : (b : Bool) → eq_by_cmp nat_cmp u t ≡ b → IsStamp (without m t) n ⊎ (look m t ≡ Some n)
    by true y = inr (ap (look m) (sym (tied u t y)) ∙ e)
    by false y = inl (u, look-without m t u ∙ ap (λ b. cond b None (look m u)) y ∙ e)

pub left_released : (s : Snapshots) (t m : ℕ) → look s.stamps t ≡ Some m → IsReleased s (left s t) m
left_released s t m at = record { installs_stay = refl; was_held = inl (t, at); was = was; others_stay = others }
  where
    was : (n : ℕ) → IsHeld (left s t) n → IsHeld s n
    was n (inl h) = inl (without_was s.stamps t n h)
    was n (inr h) = inr h

    by : (n : ℕ) → IsStamp (without s.stamps t) n ⊎ (look s.stamps t ≡ Some n) → IsHeld (left s t) n ⊎ (n ≡ m)
    by n (inl h) = inl (inl h)
    by n (inr e) = inr (some_same n m (sym e ∙ at))

    others : (n : ℕ) → IsHeld s n → IsHeld (left s t) n ⊎ (n ≡ m)
    others n (inl h) = by n (without_stays s.stamps t n h)
    others n (inr h) = inl (inr h)

pub unpinned_released : (s : Snapshots) (id m : ℕ) → look s.pins id ≡ Some m → IsReleased s (unpinned s id) m
unpinned_released s id m at = record { installs_stay = refl; was_held = inr (id, at); was = was; others_stay = others }
  where
    was : (n : ℕ) → IsHeld (unpinned s id) n → IsHeld s n
    was n (inl h) = inl h
    was n (inr h) = inr (without_was s.pins id n h)

    by : (n : ℕ) → IsStamp (without s.pins id) n ⊎ (look s.pins id ≡ Some n) → IsHeld (unpinned s id) n ⊎ (n ≡ m)
    by n (inl h) = inl (inr h)
    by n (inr e) = inr (some_same n m (sym e ∙ at))

    others : (n : ℕ) → IsHeld s n → IsHeld (unpinned s id) n ⊎ (n ≡ m)
    others n (inl h) = inl (inl h)
    others n (inr h) = by n (without_stays s.pins id n h)

-- where nobody held it, nothing changes
without_absent : (m : Table ℕ) (t : ℕ) → look m t ≡ None → without m t ≡ m
without_absent m t none = same_table (without m t) m (λ u. look-without m t u ∙ by u (eq_by_cmp nat_cmp u t) refl)
  where
    by : (u : ℕ) (b : Bool) → eq_by_cmp nat_cmp u t ≡ b → cond b None (look m u) ≡ look m u
    by u true y = sym (ap (look m) (tied u t y) ∙ none)
    by u false y = refl

keeps_same : (a b : Archive) (base : Records) (is : List Install) → b.snapshots ≡ a.snapshots → b.chains ≡ a.chains → b.recents ≡ a.recents → Keeps a base is → Keeps b base is
keeps_same a b base is es ec er k = subst (λ (x : Archive). Keeps x base is) (λ i. record { snapshots = sym es i; chains = sym ec i; recents = sym er i }) k

pub keeps_absent : (a b : Archive) (base : Records) (is : List Install) (t : ℕ) → look a.snapshots.stamps t ≡ None → b.snapshots ≡ left a.snapshots t → b.chains ≡ a.chains → b.recents ≡ a.recents → Keeps a base is → Keeps b base is
keeps_absent a b base is t none es = keeps_same a b base is (es ∙ (λ i. record a.snapshots { stamps = without_absent a.snapshots.stamps t none i }))

pub keeps_unpinned : (a b : Archive) (base : Records) (is : List Install) (id : ℕ) → look a.snapshots.pins id ≡ None → b.snapshots ≡ unpinned a.snapshots id → b.chains ≡ a.chains → b.recents ≡ a.recents → Keeps a base is
    → Keeps b base is
keeps_unpinned a b base is id none es = keeps_same a b base is (es ∙ (λ i. record a.snapshots { pins = without_absent a.snapshots.pins id none i }))

-- a needed number stays needed, or it was the one that is held no more
released_case : (s s' : Snapshots) (m n : ℕ) → IsReleased s s' m → IsNeeded s n → IsNeeded s' n ⊎ (n ≡ m)
released_case s s' m n r (inl e) = inl (inl (e ∙ sym r.installs_stay))
released_case s s' m n r (inr h) = by (r.others_stay n h)
  where
    by : IsHeld s' n ⊎ (n ≡ m) → IsNeeded s' n ⊎ (n ≡ m)
    by (inl x) = inl (inr x)
    by (inr x) = inr x

released_was : (s s' : Snapshots) (m n : ℕ) → IsReleased s s' m → IsNeeded s' n → IsNeeded s n
released_was s s' m n r (inl e) = inl (e ∙ r.installs_stay)
released_was s s' m n r (inr h) = inr (r.was n h)

-- what is kept is what was so while the number was held
pub were_all_kept : (a : Archive) (base : Records) (is : List Install) (s : Snapshots) (m : ℕ) → IsReleased a.snapshots s m → Keeps a base is → WereAllKept s m a.chains
were_all_kept a base is s m r k key = subst (WereKept s m) (sym (k.chains_are key)) (record {
  ordered = ordered_filter keep vs (ordered_linked is key None vs (linked base is key));
  read = each_filtered (IsReadFrom s m) keep vs read;
})
  where
    keep : Version → Bool
    keep = is_kept (needed a.snapshots)

    vs : List Version
    vs = versions_of base is key

    by : (v : Version) (n : ℕ) → sees n v ≡ true → IsNeeded s n ⊎ (n ≡ m) → IsReadFrom s m v
    by v n e (inl h) = inr (n, h, e)
    by v n e (inr x) = inl (ap (λ j. sees j v) (sym x) ∙ e)

    read : (v : Version) → is_kept (needed a.snapshots) v ≡ true → IsReadFrom s m v
    read v e =
        let q = needed-any (λ n. sees n v) a.snapshots (and_first (list_any (λ n. sees n v) (needed a.snapshots)) (not (is_gone (needed a.snapshots) v)) e) in
        by v q.0 q.2 (released_case a.snapshots s m q.0 r q.1)

-- no install after a number and up to another one wrote the key
abbrev pub Unwritten : List Install → List ℕ → ℕ → ℕ → Type 0
Unwritten is key from to = (n : ℕ) → from < n → n ≤ to → wrote_at is n key ≡ true → ⊥

not_zero : (is : List Install) (key : List ℕ) (m n : ℕ) → m < n → IsWritten is key n → wrote_at is n key ≡ true
not_zero is key m n l (inl z) = absurd (omega (arith, l, z))
not_zero is key m n l (inr w) = w

kept_above : (is : List Install) (key : List ℕ) (s s' : Snapshots) (m next : ℕ) → IsReleased s s' m → IsNext s' m next → Unwritten is key m next
    → (v : Version) (end : Option ℕ) → IsLink is key end v → is_kept (needed s) v ≡ true → is_kept (needed s') v ≡ true
kept_above is key s s' m next r after none v end l = kept_to s s' v (λ n h e. seen n e (released_case s s' m n r h)) (λ all n h. gone all n (released_case s s' m n r h))
  where
    still_before : (end : Option ℕ) → IsLink is key end v → sees m v ≡ true → is_before next v.overwritten ≡ true
    still_before None l e = ap (is_before next) l.ended
    still_before (Some o) l e =
        let a : m < o = true_lt m o (ap (is_before m) (sym l.ended) ∙ and_second (nat_le v.written m) (is_before m v.overwritten) e) in
        ap (is_before next) l.ended ∙ by a (nat_lt next o) refl
      where
        by : m < o → (b : Bool) → nat_lt next o ≡ b → b ≡ true
        by a true f = refl
        by a false f = absurd (none o a (grind (arith, nat_tests)) (not_zero is key m o a l.end_begun))

    seen : (n : ℕ) → sees n v ≡ true → IsNeeded s' n ⊎ (n ≡ m) → (k : ℕ) × IsNeeded s' k × (sees k v ≡ true)
    seen n e (inl h) = (n, h, e)
    seen n e (inr x) =
        let f : sees m v ≡ true = ap (λ j. sees j v) (sym x) ∙ e in
        let a : v.written ≤ m = true_le v.written m (and_first (nat_le v.written m) (is_before m v.overwritten) f) in
        let b = after.is_above in
        (next, after.is_needed, (λ i. le_true v.written next (omega (arith, a, b)) i && still_before end l f i))

    gone : ((k : ℕ) → IsNeeded s' k → v.written ≤ k) → (n : ℕ) → IsNeeded s' n ⊎ (n ≡ m) → v.written ≤ n
    gone all n (inl h) = all n h
    gone all n (inr x) = by (nat_le v.written m) refl
      where
        by : (b : Bool) → nat_le v.written m ≡ b → v.written ≤ n
        by true f = let a : v.written ≤ m = true_le v.written m f in omega (arith, a, x)
        by false f =
            let a : m < v.written = grind (arith, nat_tests) in
            absurd (none v.written a (all next after.is_needed) (not_zero is key m v.written a l.begun))

-- the same where no install after an earlier needed number and up to that of the transaction wrote the key
kept_below : (is : List Install) (key : List ℕ) (s s' : Snapshots) (m before : ℕ) → IsReleased s s' m → IsNeeded s' before → before < m → Unwritten is key before m
    → (v : Version) (end : Option ℕ) → IsLink is key end v → is_kept (needed s) v ≡ true → is_kept (needed s') v ≡ true
kept_below is key s s' m before r there l none v end link = kept_to s s' v (λ n h e. seen n e (released_case s s' m n r h)) (λ all n h. gone all n (released_case s s' m n r h))
  where
    written_before : v.written ≤ m → v.written ≤ before
    written_before a = by (nat_le v.written before) refl
      where
        by : (b : Bool) → nat_le v.written before ≡ b → v.written ≤ before
        by true f = true_le v.written before f
        by false f = let g : before < v.written = grind (arith, nat_tests) in absurd (none v.written g a (not_zero is key before v.written g link.begun))

    still_open : (end : Option ℕ) → end ≡ v.overwritten → is_before m end ≡ true → is_before before end ≡ true
    still_open None e h = refl
    still_open (Some o) e h = let a : m < o = true_lt m o h in lt_true before o (omega (arith, a, l))

    seen : (n : ℕ) → sees n v ≡ true → IsNeeded s' n ⊎ (n ≡ m) → (k : ℕ) × IsNeeded s' k × (sees k v ≡ true)
    seen n e (inl h) = (n, h, e)
    seen n e (inr x) =
        let f : sees m v ≡ true = ap (λ j. sees j v) (sym x) ∙ e in
        let a : v.written ≤ m = true_le v.written m (and_first (nat_le v.written m) (is_before m v.overwritten) f) in
        (before, there, (λ i. le_true v.written before (written_before a) i && still_open v.overwritten refl (and_second (nat_le v.written m) (is_before m v.overwritten) f) i))

    gone : ((k : ℕ) → IsNeeded s' k → v.written ≤ k) → (n : ℕ) → IsNeeded s' n ⊎ (n ≡ m) → v.written ≤ n
    gone all n (inl h) = all n h
    gone all n (inr x) = let a : v.written ≤ before = all before there in omega (arith, a, x, l)

-- nothing is kept of installs that all readers see
pub record Ends (s : Snapshots) (recents : Recents) : Type 0 where
  pub seen : (n : ℕ) → ((m : ℕ) → IsHeld s m → n ≤ m) → keys_at recents n ≡ []
  pub bound : (n : ℕ) → s.installs < n → keys_at recents n ≡ []

-- versions of a key that no install of a window wrote are kept as before
abbrev pub StayKept : Archive → List Install → Snapshots → ℕ → ℕ → Type 0
StayKept a is s from to =
    (key : List ℕ) → ((n : ℕ) → from < n → n ≤ to → has_key (keys_at a.recents n) key ≡ false)
    → (v : Version) (end : Option ℕ) → IsLink is key end v → is_kept (needed a.snapshots) v ≡ true → is_kept (needed s) v ≡ true

pub stay_kept_above : (a : Archive) (base : Records) (is : List Install) (s : Snapshots) (m next : ℕ) → IsReleased a.snapshots s m → IsNext s m next → Keeps a base is → StayKept a is s m next
stay_kept_above a base is s m next r after k key none = kept_above is key a.snapshots s m next r after (λ n x y w. true≢false (sym (k.recents_are m n key r.was_held x w) ∙ none n x y))

pub stay_kept_below : (a : Archive) (base : Records) (is : List Install) (s : Snapshots) (m before : ℕ) → IsReleased a.snapshots s m → IsHeld s before → before < m → Keeps a base is → StayKept a is s before m
stay_kept_below a base is s m before r there l k key none =
    kept_below is key a.snapshots s m before r (inr there) l (λ n x y w. true≢false (sym (k.recents_are before n key (r.was before there) x w) ∙ none n x y))

-- what the reader that has gone did not see, and what is no more gone than before, is still kept
apart_kept : (s s' : Snapshots) (m : ℕ) (v : Version) → IsReleased s s' m → is_kept (needed s) v ≡ true → sees m v ≡ false → (v.value ≡ None → v.written ≤ m) → is_kept (needed s') v ≡ true
apart_kept s s' m v r k unseen early = by v.value refl
  where
    seen : (n : ℕ) → IsNeeded s n → sees n v ≡ true → IsNeeded s' n ⊎ (n ≡ m) → (j : ℕ) × IsNeeded s' j × (sees j v ≡ true)
    seen n h e (inl g) = (n, g, e)
    seen n h e (inr x) = absurd (true≢false (sym e ∙ ap (λ j. sees j v) x ∙ unseen))

    gone : v.written ≤ m → ((j : ℕ) → IsNeeded s' j → v.written ≤ j) → (n : ℕ) → IsNeeded s' n ⊎ (n ≡ m) → v.written ≤ n
    gone l all n (inl g) = all n g
    gone l all n (inr x) = omega (arith, l, x)

    by : (o : Option (List ℕ)) → v.value ≡ o → is_kept (needed s') v ≡ true
    by None e = kept_to s s' v (λ n h f. seen n h f (released_case s s' m n r h)) (λ all n h. gone (early e) all n (released_case s s' m n r h)) k
    by (Some x) e =
        let q = needed-any (λ n. sees n v) s (and_first (list_any (λ n. sees n v) (needed s)) (not (is_gone (needed s) v)) k) in
        let t = seen q.0 q.1 q.2 (released_case s s' m q.0 r q.1) in
        (λ i. any-needed (λ n. sees n v) s' t.0 t.1 t.2 i && not (not (is_some (e i)) && list_all (λ n. nat_le v.written n) (needed s')))

apart_early : (m : ℕ) (v : Version) → (is_some v.value || nat_le v.written m) ≡ true → v.value ≡ None → v.written ≤ m
apart_early m v h e = true_le v.written m (ap (λ o. is_some o || nat_le v.written m) (sym e) ∙ h)

stays_alike : (s s' : Snapshots) (m : ℕ) (v : Version) → IsReleased s s' m → is_kept (needed s) v ≡ true → stays m (needed s') v ≡ is_kept (needed s') v
stays_alike s s' m v r k = by (is_apart m v) refl
  where
    not_true : (b : Bool) → not b ≡ true → b ≡ false
    not_true true e = sym e
    not_true false e = refl

    by : (b : Bool) → is_apart m v ≡ b → (b || is_kept (needed s') v) ≡ is_kept (needed s') v
    by true e = sym (apart_kept s s' m v r k (not_true (sees m v) (and_first (not (sees m v)) (is_some v.value || nat_le v.written m) e)) (apart_early m v (and_second (not (sees m v)) (is_some v.value || nat_le v.written m) e)))
    by false e = refl

keeps_released_at : (a b : Archive) (base : Records) (is : List Install) (m from to : ℕ) → IsReleased a.snapshots b.snapshots m → StayKept a is b.snapshots from to
    → IsPruned (stays m (needed b.snapshots)) a.recents from to a.chains b.chains
    → ((k n : ℕ) → IsHeld b.snapshots k → k < n → keys_at b.recents n ≡ keys_at a.recents n) → Ends b.snapshots b.recents → Keeps a base is → Keeps b base is
keeps_released_at a b base is m from to r stay pruned recents ends k = record {
  installs_are = r.installs_stay ∙ k.installs_are;
  held_are = λ n h. let i = r.installs_stay in let j : n ≤ a.snapshots.installs = k.held_are n (r.was n h) in omega (arith, i, j);
  chains_are = λ key. by key (pruned key);
  recents_are = λ x n key h l w. ap (λ ks. has_key ks key) (recents x n h l) ∙ k.recents_are x n key (r.was x h) l w;
  recents_end = ends.seen;
  recents_bound = ends.bound;
}
  where
    fewer : (v : Version) → is_kept (needed b.snapshots) v ≡ true → is_kept (needed a.snapshots) v ≡ true
    fewer v = kept_fewer a.snapshots b.snapshots v (λ n. released_was a.snapshots b.snapshots m n r)

    by : (key : List ℕ) → (chain_of b.chains key ≡ filter (stays m (needed b.snapshots)) (chain_of a.chains key))
        ⊎ ((chain_of b.chains key ≡ chain_of a.chains key) × ((n : ℕ) → from < n → n ≤ to → has_key (keys_at a.recents n) key ≡ false))
        → chain_of b.chains key ≡ filter (is_kept (needed b.snapshots)) (versions_of base is key)
    by key (inl e) =
        e ∙ ap (filter (stays m (needed b.snapshots))) (k.chains_are key)
        ∙ within-alike (is_kept (needed a.snapshots)) (stays m (needed b.snapshots)) (is_kept (needed b.snapshots)) (versions_of base is key) (λ v. stays_alike a.snapshots b.snapshots m v r)
        ∙ filter-within (is_kept (needed a.snapshots)) (is_kept (needed b.snapshots)) (versions_of base is key) (each_one _ fewer (versions_of base is key))
    by key (inr e) =
        e.0 ∙ k.chains_are key
        ∙ filter-alike (is_kept (needed a.snapshots)) (is_kept (needed b.snapshots)) (versions_of base is key)
        (each_link is key (λ v. is_kept (needed a.snapshots) v ≡ is_kept (needed b.snapshots) v) None (versions_of base is key) (linked base is key)
        (λ v end l. both_ways _ _ (stay key e.1 v end l) (fewer v)))

pub keeps_released : (a b : Archive) (base : Records) (is : List Install) (s : Snapshots) (m from to : ℕ) → b.snapshots ≡ s → IsReleased a.snapshots s m → StayKept a is s from to
    → IsPruned (stays m (needed s)) a.recents from to a.chains b.chains
    → ((k n : ℕ) → IsHeld s k → k < n → keys_at b.recents n ≡ keys_at a.recents n) → Ends s b.recents → Keeps a base is → Keeps b base is
keeps_released a b base is s m from to es r stay pruned recents ends =
    keeps_released_at a b base is m from to (subst (λ x. IsReleased a.snapshots x m) (sym es) r) (subst (λ x. StayKept a is x from to) (sym es) stay)
    (subst (λ x. IsPruned (stays m (needed x)) a.recents from to a.chains b.chains) (sym es) pruned)
    (λ k n h. recents k n (subst (λ x. IsHeld x k) es h)) (subst (λ x. Ends x b.recents) (sym es) ends)
