-- What an archive keeps after each call.
use Rattle.std.proofs.Common.{◌≡◌, ◌⊎◌, inl, inr, T, ℕ, suc, ◌<◌, ◌≤◌, Bool, true, false, cond, ◌&&◌, ◌||◌, List, [], ◌∷◌, map, filter, length, Option, None, Some, refl, sym, ap, ◌∙◌, subst, arith, eqb→eq}
use Rattle.std.specs.Prelude.{◌==◌}
use Rattle.std.proofs.lemmas.Bool.Decides.{nat_tests}
use Rattle.std.specs.FinMap.{get, get-empty}
use Rattle.std.specs.Ordering.{nat_cmp, eq_by_cmp}
use Rattle.std.specs.Cmp.{both_ways}
use Rattle.co_base.specs.Order.{key_cmp}
use Rattle.co_base.specs.declared.row.Row.{Row}
use Rattle.co_base.specs.declared.written.Written.{Written}
use Rattle.co_serial.specs.Records.{Records}
use Rattle.co_state.specs.declared.engine_state.Install.{Install}
use Rattle.co_state.specs.Effects.{records_from}
use Rattle.co_state.specs.Keys.{same_key, writes_key}
use Rattle.co_state.specs.Table.{Table, no_entries, look, put}
use Rattle.co_state.proofs.Tables.{look-put}
use Rattle.co_mv.specs.declared.archive.Archive.{Archive}
use Rattle.co_mv.specs.declared.snapshots.Snapshots.{Snapshots}
use Rattle.co_mv.specs.declared.version.Version.{Version}
use Rattle.co_mv.specs.Chains.{chain_of, chains_from, rewritten_all}
use Rattle.co_stamps.specs.Stamped.{IsStamp}
use Rattle.co_mv.specs.Kept.{needed, stamp_of, or_now, entered, pinned, grown, IsHeld, IsNeeded, Keeps, wrote_at}
use Rattle.co_mv.specs.Recents.{Recents, keys_at, has_key, keys_in}
use Rattle.co_mv.specs.Versions.{with_write, with_closed, later, last_change, base_versions, closed_by, closed, versions_of, written_over, sees, is_kept}
use Rattle.co_mv.proofs.Chaining.{chain-insert, chain-rewritten_all, after_change, fresh, each_one}
use Rattle.co_mv.proofs.Needing.{tied, some_same, any-needed, kept_fewer, Each, each_link, filter-alike, closed-kept, each_closed, grown_alike, never_kept, closed_kept, sees_open}
use Rattle.co_mv.proofs.Versioning.{and_first, and_second, Linked, linked, wrote_bound, get-with_change}

-- ---- at the start
base-cond : (b : Bool) (v o : Option (List ℕ)) → cond b (base_versions v) (base_versions o) ≡ base_versions (cond b v o)
base-cond true v o = refl
base-cond false v o = refl

rows_chain : (rs : List Row) (key : List ℕ) → chain_of (chains_from rs) key ≡ base_versions (get (records_from rs) key)
rows_chain [] key = ap (λ o. chain_in_of o) (get-empty key_cmp key) ∙ sym (ap base_versions (get-empty key_cmp key))
  where
    chain_in_of : Option (List Version) → List Version
    chain_in_of None = []
    chain_in_of (Some vs) = vs
rows_chain (r ∷ rs) key =
    chain-insert (chains_from rs) r.key (base_versions (Some r.value)) key
    ∙ ap (cond (same_key key r.key) (base_versions (Some r.value))) (rows_chain rs key)
    ∙ base-cond (same_key key r.key) (Some r.value) (get (records_from rs) key)
    ∙ sym (ap base_versions (get-with_change (records_from rs) r.key (Some r.value) key))

base_kept : (s : Snapshots) (o : Option (List ℕ)) → base_versions o ≡ filter (is_kept (needed s)) (base_versions o)
base_kept s None = refl
base_kept s (Some value) =
    let v : Version = record { written = 0; overwritten = None; value = Some value } in
    sym (ap (λ b. cond (b && true) (v ∷ []) []) (any-needed (λ n. sees n v) s s.installs (inl refl) (sees_open s.installs v refl (omega arith))))

nothing : (n : ℕ) → IsStamp no_entries n → ⊥
nothing n (t, e) = let f : None ≡ Some n = sym (get-empty nat_cmp t) ∙ e in cc

pub keeps_rows : (a : Archive) (rs : List Row) → a.snapshots.installs ≡ 0 → a.snapshots.stamps ≡ no_entries → a.snapshots.pins ≡ no_entries → a.chains ≡ chains_from rs → a.recents ≡ no_entries
    → Keeps a (records_from rs) []
keeps_rows a rs i s p c r = record {
  installs_are = i;
  held_are = λ n h. absurd (free n h);
  chains_are = λ key. ap (λ m. chain_of m key) c ∙ rows_chain rs key ∙ base_kept a.snapshots (get (records_from rs) key);
  recents_are = λ m n key h l w. absurd (free m h);
  recents_end = λ n h. ap (λ m. keys_at m n) r ∙ ap keys_in (get-empty nat_cmp n);
  recents_bound = λ n h. ap (λ m. keys_at m n) r ∙ ap keys_in (get-empty nat_cmp n);
}
  where
    free : (n : ℕ) → IsHeld a.snapshots n → ⊥
    free n (inl h) = nothing n (subst (λ (m : Table ℕ). IsStamp m n) s h)
    free n (inr h) = nothing n (subst (λ (m : Table ℕ). IsStamp m n) p h)

-- ---- the number of installs becomes held, or the same numbers as before are
same_kept : (s s' : Snapshots) → ((n : ℕ) → IsNeeded s n → IsNeeded s' n) → ((n : ℕ) → IsNeeded s' n → IsNeeded s n) → (vs : List Version) → filter (is_kept (needed s)) vs ≡ filter (is_kept (needed s')) vs
same_kept s s' f g vs = filter-alike (is_kept (needed s)) (is_kept (needed s')) vs (each_one (λ v. is_kept (needed s) v ≡ is_kept (needed s') v) (λ v. both_ways _ _ (kept_fewer s' s v f) (kept_fewer s s' v g)) vs)

pub keeps_alike : (a b : Archive) (base : Records) (is : List Install) → b.snapshots.installs ≡ a.snapshots.installs → ((n : ℕ) → IsHeld a.snapshots n → IsHeld b.snapshots n)
    → ((n : ℕ) → IsHeld b.snapshots n → IsNeeded a.snapshots n) → b.chains ≡ a.chains → b.recents ≡ a.recents → Keeps a base is → Keeps b base is
keeps_alike a b base is i stay was ec er k = record {
  installs_are = i ∙ k.installs_are;
  held_are = λ n h. below n (was n h);
  chains_are = λ key. ap (λ m. chain_of m key) ec ∙ k.chains_are key ∙ same_kept a.snapshots b.snapshots to from (versions_of base is key);
  recents_are = λ m n key h l w. ap (λ r. has_key (keys_at r n) key) er ∙ seen m n key l w (was m h);
  recents_end = λ n h. ap (λ r. keys_at r n) er ∙ k.recents_end n (λ m g. h m (stay m g));
  recents_bound = λ n h. ap (λ r. keys_at r n) er ∙ k.recents_bound n (omega (arith, h, i));
}
  where
    below : (n : ℕ) → IsNeeded a.snapshots n → n ≤ b.snapshots.installs
    below n (inl x) = omega (arith, x, i)
    below n (inr h) = let j : n ≤ a.snapshots.installs = k.held_are n h in omega (arith, i, j)

    to : (n : ℕ) → IsNeeded a.snapshots n → IsNeeded b.snapshots n
    to n (inl x) = inl (x ∙ sym i)
    to n (inr h) = inr (stay n h)

    from : (n : ℕ) → IsNeeded b.snapshots n → IsNeeded a.snapshots n
    from n (inl x) = inl (x ∙ i)
    from n (inr h) = was n h

    seen : (m n : ℕ) (key : List ℕ) → m < n → wrote_at is n key ≡ true → IsNeeded a.snapshots m → has_key (keys_at a.recents n) key ≡ true
    seen m n key l w (inl x) = let j : n ≤ length is = wrote_bound is n key w in let y = k.installs_are in absurd (omega (arith, x, l, j, y))
    seen m n key l w (inr h) = k.recents_are m n key h l w

-- the stamp of a transaction is one of the needed numbers
pub stamp_needed : (s : Snapshots) (t : ℕ) (o : Option ℕ) → look s.stamps t ≡ o → IsNeeded s (or_now s.installs o)
stamp_needed s t None e = inl refl
stamp_needed s t (Some n) e = inr (inl (t, e))

put_stays : (m : Table ℕ) (t x n : ℕ) → ((y : ℕ) → look m t ≡ Some y → x ≡ y) → IsStamp m n → IsStamp (put m t x) n
put_stays m t x n same (u, e) = (u, look-put m t x u ∙ by (eq_by_cmp nat_cmp u t) refl)
  where
    by : (b : Bool) → eq_by_cmp nat_cmp u t ≡ b → cond b (Some x) (look m u) ≡ Some n
    by true y = ap Some (same n (ap (look m) (sym (tied u t y)) ∙ e))
    by false y = e

put_was : (m : Table ℕ) (t x n : ℕ) → IsStamp (put m t x) n → (n ≡ x) ⊎ IsStamp m n
put_was m t x n (u, e) = by (eq_by_cmp nat_cmp u t) (sym (look-put m t x u) ∙ e)
  where
    by : (b : Bool) → cond b (Some x) (look m u) ≡ Some n → (n ≡ x) ⊎ IsStamp m n
    by true f = inl (sym (some_same x n f))
    by false f = inr (u, f)

entered_stays : (s : Snapshots) (t n : ℕ) → IsHeld s n → IsHeld (entered s t) n
entered_stays s t n (inl h) = inl (put_stays s.stamps t (stamp_of s t) n (λ y e. ap (or_now s.installs) e) h)
entered_stays s t n (inr h) = inr h

entered_was : (s : Snapshots) (t n : ℕ) → IsHeld (entered s t) n → IsNeeded s n
entered_was s t n (inl h) = by (put_was s.stamps t (stamp_of s t) n h)
  where
    by : (n ≡ stamp_of s t) ⊎ IsStamp s.stamps n → IsNeeded s n
    by (inl x) = subst (IsNeeded s) (sym x) (stamp_needed s t (look s.stamps t) refl)
    by (inr x) = inr (inl x)
entered_was s t n (inr h) = inr (inr h)

pub keeps_entered : (a b : Archive) (base : Records) (is : List Install) (t : ℕ) → b.snapshots ≡ entered a.snapshots t → b.chains ≡ a.chains → b.recents ≡ a.recents → Keeps a base is → Keeps b base is
keeps_entered a b base is t es =
    keeps_alike a b base is (ap (λ x. x.installs) es) (λ n h. subst (λ x. IsHeld x n) (sym es) (entered_stays a.snapshots t n h)) (λ n h. entered_was a.snapshots t n (subst (λ x. IsHeld x n) es h))

pinned_stays : (s : Snapshots) (id n : ℕ) → look s.pins id ≡ None → IsHeld s n → IsHeld (pinned s id) n
pinned_stays s id n none (inl h) = inl h
pinned_stays s id n none (inr h) = inr (put_stays s.pins id s.installs n (λ y e. absurd (let f : None ≡ Some y = sym none ∙ e in cc)) h)

pinned_was : (s : Snapshots) (id n : ℕ) → IsHeld (pinned s id) n → IsNeeded s n
pinned_was s id n (inl h) = inr (inl h)
pinned_was s id n (inr h) = by (put_was s.pins id s.installs n h)
  where
    by : (n ≡ s.installs) ⊎ IsStamp s.pins n → IsNeeded s n
    by (inl x) = inl x
    by (inr x) = inr (inr x)

pub keeps_pinned : (a b : Archive) (base : Records) (is : List Install) (id : ℕ) → look a.snapshots.pins id ≡ None → b.snapshots ≡ pinned a.snapshots id → b.chains ≡ a.chains → b.recents ≡ a.recents → Keeps a base is
    → Keeps b base is
keeps_pinned a b base is id none es =
    keeps_alike a b base is (ap (λ x. x.installs) es) (λ n h. subst (λ x. IsHeld x n) (sym es) (pinned_stays a.snapshots id n none h)) (λ n h. pinned_was a.snapshots id n (subst (λ x. IsHeld x n) es h))

-- ---- an install
pub has-keys : (ws : List Written) (key : List ℕ) → has_key (map (λ w. w.key) ws) key ≡ writes_key ws key
has-keys [] key = refl
has-keys (w ∷ ws) key = ap (λ b. same_key w.key key || b) (has-keys ws key)

over_again : (n : ℕ) (o : Option ℕ) → closed_by n (closed_by n o) ≡ closed_by n o
over_again n None = refl
over_again n (Some m) = refl

closed_each : (is : List Install) (key : List ℕ) (n : ℕ) (vs : List Version) → Linked is key None vs → Each (λ v. closed_by n v.overwritten ≡ v.overwritten) (closed n vs)
closed_each is key n [] l = tt
closed_each is key n (v ∷ vs) l = (over_again n v.overwritten, each_closed is key n v.written vs l.1)

again : (is : List Install) (key : List ℕ) (s : Snapshots) (n : ℕ) (vs : List Version) → s.installs ≡ length is → Linked is key None vs
    → (o : Option (Option (List ℕ))) (value : Option (List ℕ))
    → with_write (is_kept (needed (grown s))) n value (after_change (is_kept (needed (grown s))) n (filter (is_kept (needed s)) vs) vs o) ≡ filter (is_kept (needed (grown s))) (fresh n value ∷ closed n vs)
again is key s n vs same l o value = ap (λ xs. cond (is_kept (needed (grown s)) (fresh n value)) (fresh n value ∷ xs) xs) (rest o)
  where
    over : List Version
    over = filter (is_kept (needed (grown s))) (closed n vs)

    rest : (o : Option (Option (List ℕ))) → with_closed (is_kept (needed (grown s))) n (after_change (is_kept (needed (grown s))) n (filter (is_kept (needed s)) vs) vs o) ≡ over
    rest None = closed_kept is key s n vs same l
    rest (Some x) = by (is_kept (needed (grown s)) (fresh n x))
      where
        by : (b : Bool) → with_closed (is_kept (needed (grown s))) n (cond b (fresh n x ∷ over) over) ≡ over
        by true = ap (λ b. cond b (record { written = n; overwritten = Some n; value = x } ∷ over) over) (never_kept (grown s) n x)
        by false = closed-kept n (is_kept (needed (grown s))) (closed n vs) (closed_each is key n vs l)

later_none : {X : Type 0} (o : Option X) → later o None ≡ o
later_none None = refl
later_none (Some x) = refl

chain_over : (is : List Install) (key : List ℕ) (s : Snapshots) (n : ℕ) (vs : List Version) → s.installs ≡ length is → Linked is key None vs → (o : Option (Option (List ℕ)))
    → after_change (is_kept (needed (grown s))) n (filter (is_kept (needed s)) vs) vs o ≡ filter (is_kept (needed (grown s))) (written_over n o vs)
chain_over is key s n vs same l None =
    filter-alike (is_kept (needed s)) (is_kept (needed (grown s))) vs (each_link is key (λ v. is_kept (needed s) v ≡ is_kept (needed (grown s)) v) None vs l (λ v end m. grown_alike is key end v s same m))
chain_over is key s n vs same l (Some value) = refl

or_cases : (a b : Bool) → (a || b) ≡ true → (a ≡ true) ⊎ (b ≡ true)
or_cases true b e = inl refl
or_cases false b e = inr e

-- what is kept of the keys of recent installs
pub record Noted (a : Archive) (recents : Recents) (n : ℕ) (ws : List Written) : Type 0 where
  pub newest : (m : ℕ) → IsHeld a.snapshots m → keys_at recents n ≡ map (λ w. w.key) ws
  pub others : (m : ℕ) → (m == n) ≡ false → keys_at recents m ≡ keys_at a.recents m
  pub read : (keys_at recents n ≡ keys_at a.recents n) ⊎ ((m : ℕ) × IsHeld a.snapshots m)

pub keeps_installed : (a b : Archive) (base : Records) (is : List Install) (txn : ℕ) (ws : List Written) → b.snapshots ≡ grown a.snapshots
    → b.chains ≡ rewritten_all (is_kept (needed (grown a.snapshots))) (suc a.snapshots.installs) a.chains ws → Noted a b.recents (suc a.snapshots.installs) ws
    → Keeps a base is → Keeps b base (record { txn = txn; writes = ws } ∷ is)
keeps_installed a b base is txn ws es ec r k = record {
  installs_are = ap (λ x. x.installs) es ∙ ap suc k.installs_are;
  held_are = λ n h.
      let j : n ≤ a.snapshots.installs = k.held_are n (was n h) in
      let i : b.snapshots.installs ≡ suc a.snapshots.installs = ap (λ x. x.installs) es in
      omega (arith, i, j);
  chains_are = λ key.
      ap (λ m. chain_of m key) ec
      ∙ chain-rewritten_all (is_kept (needed (grown a.snapshots))) (suc a.snapshots.installs) (filter (is_kept (needed a.snapshots)) (versions_of base is key)) (versions_of base is key) key
      (again is key a.snapshots (suc a.snapshots.installs) (versions_of base is key) k.installs_are (linked base is key)) a.chains ws None (k.chains_are key)
      ∙ ap (after_change (is_kept (needed (grown a.snapshots))) (suc a.snapshots.installs) (filter (is_kept (needed a.snapshots)) (versions_of base is key)) (versions_of base is key)) (later_none (last_change ws key))
      ∙ chain_over is key a.snapshots (suc a.snapshots.installs) (versions_of base is key) k.installs_are (linked base is key) (last_change ws key)
      ∙ (λ i. filter (is_kept (needed (sym es i))) (written_over (suc (k.installs_are i)) (last_change ws key) (versions_of base is key)));
  recents_are = λ m n key h l w. by m n key (was m h) l (or_cases ((n == suc (length is)) && writes_key ws key) (wrote_at is n key) w);
  recents_end = λ n h. end n (n == suc a.snapshots.installs) refl (λ m g. h m (subst (λ x. IsHeld x m) (sym es) g)) r.read;
  recents_bound = λ n h.
      let i : b.snapshots.installs ≡ suc a.snapshots.installs = ap (λ x. x.installs) es in
      let d : (n == suc a.snapshots.installs) ≡ false = grind (arith, nat_tests, h, i) in
      r.others n d ∙ k.recents_bound n (omega (arith, h, i));
}
  where
    was : (n : ℕ) → IsHeld b.snapshots n → IsHeld a.snapshots n
    was n h = subst (λ x. IsHeld x n) es h

    end : (n : ℕ) (b' : Bool) → (n == suc a.snapshots.installs) ≡ b' → ((m : ℕ) → IsHeld a.snapshots m → n ≤ m)
        → (keys_at b.recents (suc a.snapshots.installs) ≡ keys_at a.recents (suc a.snapshots.installs)) ⊎ ((m : ℕ) × IsHeld a.snapshots m) → keys_at b.recents n ≡ []
    end n false y h o = r.others n y ∙ k.recents_end n h
    end n true y h (inl e) =
        let x : n ≡ suc a.snapshots.installs = eqb→eq n (suc a.snapshots.installs) (subst T (sym y) tt) in
        ap (keys_at b.recents) x ∙ e ∙ k.recents_bound (suc a.snapshots.installs) (omega arith)
    end n true y h (inr (m, g)) =
        let x : n ≡ suc a.snapshots.installs = eqb→eq n (suc a.snapshots.installs) (subst T (sym y) tt) in
        let i : n ≤ m = h m g in
        let j : m ≤ a.snapshots.installs = k.held_are m g in
        absurd (omega (arith, x, i, j))

    number : suc (length is) ≡ suc a.snapshots.installs
    number = ap suc (sym k.installs_are)

    by : (m n : ℕ) (key : List ℕ) → IsHeld a.snapshots m → m < n → (((n == suc (length is)) && writes_key ws key) ≡ true) ⊎ (wrote_at is n key ≡ true) → has_key (keys_at b.recents n) key ≡ true
    by m n key h l (inl w) =
        let x : n ≡ suc (length is) = eqb→eq n (suc (length is)) (subst T (sym (and_first (n == suc (length is)) (writes_key ws key) w)) tt) in
        ap (λ j. has_key (keys_at b.recents j) key) (x ∙ number) ∙ ap (λ ks. has_key ks key) (r.newest m h) ∙ has-keys ws key ∙ and_second (n == suc (length is)) (writes_key ws key) w
    by m n key h l (inr w) =
        let j : n ≤ length is = wrote_bound is n key w in
        let i = k.installs_are in
        let d : (n == suc a.snapshots.installs) ≡ false = grind (arith, nat_tests, i, j) in
        ap (λ ks. has_key ks key) (r.others n d) ∙ k.recents_are m n key h l w
