-- Versions in order: those that are read at a number stand together.
use Rattle.std.proofs.Common.{◌≡◌, ℕ, zero, suc, ◌-◌, ◌<◌, ◌≤◌, Bool, true, false, cond, not, ◌&&◌, ◌||◌, List, [], ◌∷◌, ◌++◌, filter, reverse, length, get_or, remove, is_some, Option, None, Some, inl, inr, refl, sym, ap, ◌∙◌, subst, arith}
use Rattle.std.specs.Prelude.{nat_le}
use Rattle.std.specs.List.Sorted.{IsPartitionedBy}
use Rattle.std.proofs.lemmas.Bool.Decides.{nat_tests}
use Rattle.std.proofs.lemmas.List.{append-nil, reverse-append, reverse-reverse}
use Rattle.std.proofs.lemmas.List.Elements.{filter-append}
use Rattle.co_state.specs.declared.engine_state.Install.{Install}
use Rattle.co_mv.specs.declared.snapshots.Snapshots.{Snapshots}
use Rattle.co_mv.specs.declared.version.Version.{Version}
use Rattle.co_mv.specs.Kept.{needed, IsReadFrom, WereKept}
use Rattle.co_mv.specs.Ordered.{Each, IsOlder, IsOrdered, IsCountUntil, forgotten_at}
use Rattle.co_mv.specs.Versions.{with_newest, is_before, sees, is_kept, is_apart, stays}
use Rattle.co_mv.proofs.Needing.{kept_for_all}
use Rattle.co_mv.proofs.Versioning.{le_true, true_le, true_lt, and_first, and_second, Linked}

-- ---- each of some versions
each_more : (P : Version → Type 0) (vs : List Version) (v : Version) → Each P vs → P v → Each P (vs ++ v ∷ [])
each_more P [] v h p = (p, tt)
each_more P (u ∷ us) v h p = (h.0, each_more P us v h.1 p)

pub each_reverse : (P : Version → Type 0) (vs : List Version) → Each P vs → Each P (reverse vs)
each_reverse P [] h = tt
each_reverse P (v ∷ vs) h = subst (Each P) (sym (reverse-append (v ∷ []) vs)) (each_more P (reverse vs) v (each_reverse P vs h.1) h.0)

each_at : (P : Version → Type 0) (vs : List Version) (k : ℕ) (d : Version) → Each P vs → k < length vs → P (get_or vs k d)
each_at P [] k d h l = absurd (omega (arith, l))
each_at P (v ∷ vs) zero d h l = h.0
each_at P (v ∷ vs) (suc k) d h l = each_at P vs k d h.1 (omega (arith, l))

pub each_filter : (P : Version → Type 0) (keep : Version → Bool) (vs : List Version) → Each P vs → Each P (filter keep vs)
each_filter P keep [] h = tt
each_filter P keep (v ∷ vs) h = by (each_filter P keep vs h.1) (keep v)
  where
    by : Each P (filter keep vs) → (b : Bool) → Each P (cond b (v ∷ filter keep vs) (filter keep vs))
    by rest true = (h.0, rest)
    by rest false = rest

-- each that is kept, where each is so if it is kept
pub each_filtered : (P : Version → Type 0) (keep : Version → Bool) (vs : List Version) → ((v : Version) → keep v ≡ true → P v) → Each P (filter keep vs)
each_filtered P keep [] f = tt
each_filtered P keep (v ∷ vs) f = by (each_filtered P keep vs f) (keep v) refl
  where
    by : Each P (filter keep vs) → (b : Bool) → keep v ≡ b → Each P (cond b (v ∷ filter keep vs) (filter keep vs))
    by rest true e = (f v e, rest)
    by rest false e = rest

pub filter-reverse : (keep : Version → Bool) (vs : List Version) → filter keep (reverse vs) ≡ reverse (filter keep vs)
filter-reverse keep [] = refl
filter-reverse keep (v ∷ vs) =
    ap (filter keep) (reverse-append (v ∷ []) vs) ∙ filter-append keep (reverse vs) (v ∷ []) ∙ ap (λ us. us ++ filter keep (v ∷ [])) (filter-reverse keep vs) ∙ by (keep v)
  where
    by : (b : Bool) → reverse (filter keep vs) ++ cond b (v ∷ []) [] ≡ reverse (cond b (v ∷ filter keep vs) (filter keep vs))
    by true = sym (reverse-append (v ∷ []) (filter keep vs))
    by false = append-nil (reverse (filter keep vs))

all_kept : (keep : Version → Bool) (vs : List Version) → Each (λ v. keep v ≡ true) vs → filter keep vs ≡ vs
all_kept keep [] h = refl
all_kept keep (v ∷ vs) h = (λ i. cond (h.0 i) (v ∷ all_kept keep vs h.1 i) (all_kept keep vs h.1 i))

-- ---- their order
pub ordered_filter : (keep : Version → Bool) (vs : List Version) → IsOrdered vs → IsOrdered (filter keep vs)
ordered_filter keep [] o = tt
ordered_filter keep (v ∷ vs) o = by (ordered_filter keep vs o.1) (keep v)
  where
    by : IsOrdered (filter keep vs) → (b : Bool) → IsOrdered (cond b (v ∷ filter keep vs) (filter keep vs))
    by rest true = (each_filter (IsOlder v) keep vs o.0, rest)
    by rest false = rest

older_linked : (is : List Install) (key : List ℕ) (w : Version) (m : ℕ) (vs : List Version) → m ≤ w.written → Linked is key (Some m) vs → Each (IsOlder w) vs
older_linked is key w m [] h l = tt
older_linked is key w m (v ∷ vs) h l =
    let b : v.written < m = true_lt v.written m l.0.before in
    (record { begun = omega (arith, b, h); ended = ended }, older_linked is key w v.written vs (omega (arith, b, h)) l.1)
  where
    ended : (n : ℕ) → is_before n v.overwritten ≡ true → n < w.written
    ended n e = let a : n < m = true_lt n m (ap (is_before n) (sym l.0.ended) ∙ e) in omega (arith, a, h)

pub ordered_linked : (is : List Install) (key : List ℕ) (end : Option ℕ) (vs : List Version) → Linked is key end vs → IsOrdered vs
ordered_linked is key end [] l = tt
ordered_linked is key end (v ∷ vs) l = (older_linked is key v v.written vs (omega arith) l.1, ordered_linked is key (Some v.written) vs l.1)

-- the same, where the oldest one stands first
abbrev pub IsRising : List Version → Type 0
IsRising [] = Unit {0}
IsRising (v ∷ vs) = Each (λ u. IsOlder u v) vs × IsRising vs

rising_more : (vs : List Version) (v : Version) → IsRising vs → Each (IsOlder v) vs → IsRising (vs ++ v ∷ [])
rising_more [] v r h = (tt, tt)
rising_more (u ∷ us) v r h = (each_more (λ w. IsOlder w u) us v r.0 h.0, rising_more us v r.1 h.1)

pub rising_reverse : (vs : List Version) → IsOrdered vs → IsRising (reverse vs)
rising_reverse [] o = tt
rising_reverse (v ∷ vs) o = subst IsRising (sym (reverse-append (v ∷ []) vs)) (rising_more (reverse vs) v (rising_reverse vs o.1) (each_reverse (IsOlder v) vs o.0))

pub parted : (n : ℕ) (vs : List Version) → IsRising vs → IsPartitionedBy (λ v. nat_le v.written n) vs
parted n [] r i j d low within e = absurd (omega (arith, within))
parted n (v ∷ vs) r zero zero d low within e = e
parted n (v ∷ vs) r zero (suc j) d low within e =
    let a = (each_at (λ u. IsOlder u v) vs j d r.0 (omega (arith, within))).begun in
    let b : (get_or vs j d).written ≤ n = true_le (get_or vs j d).written n e in
    le_true v.written n (omega (arith, a, b))
parted n (v ∷ vs) r (suc i) zero d low within e = absurd (omega (arith, low))
parted n (v ∷ vs) r (suc i) (suc j) d low within e = parted n vs r.1 i j d (omega (arith, low)) (omega (arith, within)) e

-- ---- what a reader read that has gone
-- one that was overwritten before it stays
early_stays : (s : Snapshots) (n : ℕ) (v w : Version) → IsOlder w v → nat_le w.written n ≡ true → stays n (needed s) v ≡ true
early_stays s n v w o h = by (is_before n v.overwritten) refl
  where
    a : w.written ≤ n
    a = true_le w.written n h

    written : nat_le v.written n ≡ true
    written = let b = o.begun in let c = a in le_true v.written n (omega (arith, b, c))

    or-true : (b : Bool) → (b || true) ≡ true
    or-true true = refl
    or-true false = refl

    by : (b : Bool) → is_before n v.overwritten ≡ b → ((not (nat_le v.written n && is_before n v.overwritten) && (is_some v.value || nat_le v.written n)) || is_kept (needed s) v) ≡ true
    by true e = let c = o.ended n e in let d = a in absurd (omega (arith, c, d))
    by false e = (λ i. (not (written i && e i) && (is_some v.value || written i)) || is_kept (needed s) v) ∙ ap (λ b. b || is_kept (needed s) v) (or-true (is_some v.value))

-- so does one that was written after it, if another one of these stands before that
late_stays : (s : Snapshots) (n : ℕ) (v w : Version) → IsOlder v w → nat_le w.written n ≡ false → IsReadFrom s n w → IsReadFrom s n v → stays n (needed s) v ≡ true
late_stays s n v w o h r q = by v.value refl
  where
    a : n < w.written
    a = grind (arith, nat_tests)

    unseen : (u : Version) → n < u.written → sees n u ≡ true → ⊥
    unseen u l e = let b : u.written ≤ n = true_le u.written n (and_first (nat_le u.written n) (is_before n u.overwritten) e) in omega (arith, b, l)

    later : n < v.written
    later = let b = o.begun in let c = a in omega (arith, b, c)

    not_seen : sees n v ≡ false
    not_seen = test (sees n v) refl
      where
        test : (b : Bool) → sees n v ≡ b → b ≡ false
        test true e = absurd (unseen v later e)
        test false e = refl

    or-true : (b : Bool) → (b || true) ≡ true
    or-true true = refl
    or-true false = refl

    kept : is_kept (needed s) v ≡ true
    kept = from r q
      where
        from : IsReadFrom s n w → IsReadFrom s n v → is_kept (needed s) v ≡ true
        from (inl e) x = absurd (unseen w a e)
        from (inr e) (inl f) = absurd (unseen v later f)
        from (inr e) (inr f) = kept_for_all s v f.0 e.0 f.1 f.2 e.1 (o.ended e.0 (and_second (nat_le w.written e.0) (is_before e.0 w.overwritten) e.2))

    by : (x : Option (List ℕ)) → v.value ≡ x → ((not (sees n v) && (is_some v.value || nat_le v.written n)) || is_kept (needed s) v) ≡ true
    by None e = ap (λ b. is_apart n v || b) kept ∙ or-true (is_apart n v)
    by (Some x) e = (λ i. (not (not_seen i) && (is_some (e i) || nat_le v.written n)) || is_kept (needed s) v)

late_stay : (s : Snapshots) (n : ℕ) (w : Version) (vs : List Version) → Each (λ u. IsOlder u w) vs → nat_le w.written n ≡ false → IsReadFrom s n w → Each (IsReadFrom s n) vs → Each (λ v. stays n (needed s) v ≡ true) vs
late_stay s n w [] o h r q = tt
late_stay s n w (v ∷ vs) o h r q = (late_stays s n v w o.0 h r q.0, late_stay s n w vs o.1 h r q.1)

-- the version at a place goes if it does not stay, and so does the one before it
abbrev pub forgotten_both : (Version → Bool) → ℕ → List Version → List Version
forgotten_both keep zero vs = forgotten_at keep zero vs
forgotten_both keep (suc place) vs = forgotten_at keep place (forgotten_at keep (suc place) vs)

first_late : (s : Snapshots) (n : ℕ) (vs : List Version) → IsRising vs → Each (IsReadFrom s n) vs → ((k : ℕ) (d : Version) → 0 ≤ k → k < length vs → nat_le (get_or vs k d).written n ≡ false)
    → forgotten_at (stays n (needed s)) zero vs ≡ filter (stays n (needed s)) vs
first_late s n [] r q high = refl
first_late s n (v ∷ vs) r q high =
    let same = all_kept (stays n (needed s)) vs (late_stay s n v vs r.0 (high 0 v (omega arith) (omega arith)) q.0 q.1) in
    (λ i. cond (stays n (needed s) v) (v ∷ sym same i) (sym same i))

-- the version that the reader read is the last one that was written by its number
pub forgotten_around : (s : Snapshots) (n : ℕ) (vs : List Version) (place : ℕ) → IsRising vs → Each (IsReadFrom s n) vs → place ≤ length vs
    → ((k : ℕ) (d : Version) → 0 ≤ k → k < place → nat_le (get_or vs k d).written n ≡ true)
    → ((k : ℕ) (d : Version) → place ≤ k → k < length vs → nat_le (get_or vs k d).written n ≡ false)
    → forgotten_both (stays n (needed s)) place vs ≡ filter (stays n (needed s)) vs
forgotten_around s n vs zero r q bound low high = first_late s n vs r q high
forgotten_around s n [] (suc place) r q bound low high = absurd (omega (arith, bound))
forgotten_around s n (v ∷ vs) (suc zero) r q bound low high =
    ap (λ us. with_newest (stays n (needed s)) v us) (first_late s n vs r.1 q.1 (λ k d a b. high (suc k) d (omega arith) (omega (arith, b))))
forgotten_around s n (v ∷ []) (suc (suc place)) r q bound low high = absurd (omega (arith, bound))
forgotten_around s n (v ∷ w ∷ vs) (suc (suc place)) r q bound low high =
    ap (λ us. v ∷ us)
    (forgotten_around s n (w ∷ vs) (suc place) r.1 q.1 (omega (arith, bound)) (λ k d a b. low (suc k) d (omega arith) (omega (arith, b))) (λ k d a b. high (suc k) d (omega (arith, a)) (omega (arith, b))))
    ∙ sym (ap (λ b. cond b (v ∷ filter (stays n (needed s)) (w ∷ vs)) (filter (stays n (needed s)) (w ∷ vs))) (early_stays s n v w r.0.0 (low 1 v (omega arith) (omega arith))))

-- versions that were kept are so after others have gone
pub were_filter : (s : Snapshots) (n : ℕ) (keep : Version → Bool) (vs : List Version) → WereKept s n vs → WereKept s n (filter keep vs)
were_filter s n keep vs w = record { ordered = ordered_filter keep vs w.ordered; read = each_filter (IsReadFrom s n) keep vs w.read }

-- ---- the version at a place
pub none_at : (keep : Version → Bool) (vs : List Version) (k : ℕ) → length vs ≤ k → vs ≡ forgotten_at keep k vs
none_at keep [] k l = refl
none_at keep (v ∷ vs) zero l = absurd (omega (arith, l))
none_at keep (v ∷ vs) (suc k) l = ap (λ us. v ∷ us) (none_at keep vs k (omega (arith, l)))

pub kept_at : (keep : Version → Bool) (vs : List Version) (k : ℕ) (v d : Version) → k < length vs → v ≡ get_or vs k d → true ≡ keep v → vs ≡ forgotten_at keep k vs
kept_at keep [] k v d l e h = refl
kept_at keep (u ∷ us) zero v d l e h = ap (λ b. cond b (u ∷ us) us) (h ∙ ap keep e)
kept_at keep (u ∷ us) (suc k) v d l e h = ap (λ ws. u ∷ ws) (kept_at keep us k v d (omega (arith, l)) e h)

pub gone_at : (keep : Version → Bool) (vs : List Version) (k : ℕ) (v d : Version) → k < length vs → v ≡ get_or vs k d → false ≡ keep v → remove vs k ≡ forgotten_at keep k vs
gone_at keep [] k v d l e h = absurd (omega (arith, l))
gone_at keep (u ∷ us) zero v d l e h = ap (λ b. cond b (u ∷ us) us) (h ∙ ap keep e)
gone_at keep (u ∷ us) (suc k) v d l e h = ap (λ ws. u ∷ ws) (gone_at keep us k v d (omega (arith, l)) e h)

-- ---- the whole
pub both_at : (keep : Version → Bool) (place : ℕ) (vs : List Version) → 0 < place → forgotten_at keep (place - 1) (forgotten_at keep place vs) ≡ forgotten_both keep place vs
both_at keep zero vs l = absurd (omega (arith, l))
both_at keep (suc place) vs l = let e : suc place - 1 ≡ place = omega arith in ap (λ k. forgotten_at keep k (forgotten_at keep (suc place) vs)) e

pub first_at : (keep : Version → Bool) (place : ℕ) (vs : List Version) → place ≤ 0 → forgotten_at keep place vs ≡ forgotten_both keep place vs
first_at keep zero vs l = refl
first_at keep (suc place) vs l = absurd (omega (arith, l))

pub pruned_around : (s : Snapshots) (n : ℕ) (slice oldest_first chain : List Version) (place : ℕ) → slice ≡ oldest_first → reverse oldest_first ≡ chain → place ≤ length slice → IsCountUntil n slice place → WereKept s n chain → reverse (forgotten_both (stays n (needed s)) place oldest_first) ≡ filter (stays n (needed s)) chain
pruned_around s n slice oldest_first chain place same view bound count were =
    let back : reverse chain ≡ oldest_first = ap reverse (sym view) ∙ reverse-reverse oldest_first in
    let rising = subst IsRising back (rising_reverse chain were.ordered) in
    let read = subst (Each (IsReadFrom s n)) back (each_reverse (IsReadFrom s n) chain were.read) in
    let at = subst (λ (vs : List Version). IsCountUntil n vs place) same count (parted n oldest_first rising) in
    ap reverse (forgotten_around s n oldest_first place rising read (subst (λ (vs : List Version). place ≤ length vs) same bound) at.0 at.1) ∙ sym (filter-reverse (stays n (needed s)) oldest_first) ∙ ap (filter (stays n (needed s))) view
