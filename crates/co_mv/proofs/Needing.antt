-- The needed numbers, and which versions are kept for them.
use Rattle.std.proofs.Common.{◌≡◌, inl, inr, T, ℕ, suc, ◌<◌, ◌≤◌, Bool, true, false, cond, not, ◌&&◌, ◌||◌, List, [], ◌∷◌, map, filter, length, is_some, Option, None, Some, refl, sym, ap, ◌∙◌, true≢false, arith}
use Rattle.std.specs.Prelude.{nat_lt, nat_le}
use Rattle.std.specs.List.{list_any, list_all}
use Rattle.std.proofs.lemmas.List.Folds.{list_any-append}
use Rattle.std.specs.FinMap.{entries, entries_sorted, get-entries}
use Rattle.std.specs.FinMap.Entries.{find, below_all, is_sorted}
use Rattle.std.specs.Ordering.{nat_cmp, eq_by_cmp}
use Rattle.std.specs.Cmp.{both_ways}
use Rattle.co_state.specs.declared.engine_state.Install.{Install}
use Rattle.co_mv.specs.declared.snapshots.Snapshots.{Snapshots}
use Rattle.co_mv.specs.declared.version.Version.{Version}
use Rattle.co_state.specs.Table.{Table}
use Rattle.co_stamps.specs.Stamped.{IsStamp}
use Rattle.co_mv.specs.Kept.{stamps, pinned_numbers, held, needed, grown, IsHeld, IsNeeded}
use Rattle.co_mv.specs.Versions.{closed_by, closed, with_closed, is_before, sees, is_gone, is_kept}
pub use Rattle.co_mv.specs.Ordered.{Each}
use Rattle.co_mv.proofs.Versioning.{le_true, true_le, true_lt, and_first, and_second, and-false, IsLink, Linked, written_bound}
pub use Rattle.co_state.proofs.Ties.{first, second, tied, ties-itself}
use Rattle.co_state.proofs.Ties.{nothing_below}

-- ---- one of the needed numbers passes a test
pub some_same : (x y : ℕ) → Some x ≡ Some y → x ≡ y
some_same x y e = cc

or_first : (a b : Bool) → a ≡ true → (a || b) ≡ true
or_first a b e = ap (λ c. c || b) e

or_second : (a b : Bool) → b ≡ true → (a || b) ≡ true
or_second true b e = refl
or_second false b e = e

found_step : (p : ℕ → Bool) (x n : ℕ) (rest : Bool) (o : Option ℕ) (b : Bool) → cond b (Some x) o ≡ Some n → p n ≡ true → (o ≡ Some n → rest ≡ true) → (p x || rest) ≡ true
found_step p x n rest o true e h f = or_first (p x) rest (ap p (some_same x n e) ∙ h)
found_step p x n rest o false e h f = or_second (p x) rest (f e)

any-found : (p : ℕ → Bool) (es : List (ℕ × ℕ)) (t n : ℕ) → find nat_cmp t es ≡ Some n → p n ≡ true → list_any p (map (λ e. e.1) es) ≡ true
any-found p [] t n e h = absurd (let f : None ≡ Some n = e in cc)
any-found p (f ∷ es) t n e h = found_step p f.1 n (list_any p (map (λ e. e.1) es)) (find nat_cmp t es) (eq_by_cmp nat_cmp t f.0) e h (λ e. any-found p es t n e h)

-- what is found behind the first entry is found
pub find-later : {X : Type 0} (f : ℕ × X) (es : List (ℕ × X)) (t : ℕ) (x : X) (b : Bool) → T (below_all nat_cmp f.0 es) → eq_by_cmp nat_cmp t f.0 ≡ b → find nat_cmp t es ≡ Some x → cond b (Some f.1) (find nat_cmp t es) ≡ Some x
find-later f es t x true s y is = absurd (let g : None ≡ Some x = sym (ap (λ k. find nat_cmp k es) (tied t f.0 y) ∙ nothing_below nat_cmp f.0 es s) ∙ is in cc)
find-later f es t x false s y is = is

pub find-first : {X : Type 0} (f : ℕ × X) (es : List (ℕ × X)) → find nat_cmp f.0 (f ∷ es) ≡ Some f.1
find-first f es = ap (λ b. cond b (Some f.1) (find nat_cmp f.0 es)) (ties-itself f.0)

abbrev pub Found : (ℕ → Bool) → List (ℕ × ℕ) → Type 0
Found p es = (t : ℕ) × (n : ℕ) × (find nat_cmp t es ≡ Some n) × (p n ≡ true)

any_step : (p : ℕ → Bool) (f : ℕ × ℕ) (es : List (ℕ × ℕ)) (b : Bool) → T (below_all nat_cmp f.0 es) → p f.1 ≡ b → (b || list_any p (map (λ e. e.1) es)) ≡ true → (list_any p (map (λ e. e.1) es) ≡ true → Found p es) → Found p (f ∷ es)
any_step p f es true s y e rest = (f.0, f.1, find-first f es, y)
any_step p f es false s y e rest = let r = rest e in (r.0, r.1, find-later f es r.0 r.1 (eq_by_cmp nat_cmp r.0 f.0) s refl r.2, r.3)

found-any : (p : ℕ → Bool) (es : List (ℕ × ℕ)) → T (is_sorted nat_cmp es) → list_any p (map (λ e. e.1) es) ≡ true → Found p es
found-any p [] h e = absurd (true≢false (sym e))
found-any p (f ∷ es) h e = any_step p f es (p f.1) (first _ _ h) refl e (found-any p es (second _ _ h))

any-stamp : (p : ℕ → Bool) (numbers : Table ℕ) (n : ℕ) → IsStamp numbers n → p n ≡ true → list_any p (map (λ e. e.1) (entries numbers)) ≡ true
any-stamp p numbers n (t, e) h = any-found p (entries numbers) t n (sym (get-entries numbers t) ∙ e) h

stamp-any : (p : ℕ → Bool) (numbers : Table ℕ) → list_any p (map (λ e. e.1) (entries numbers)) ≡ true → (n : ℕ) × IsStamp numbers n × (p n ≡ true)
stamp-any p numbers e = let r = found-any p (entries numbers) (entries_sorted numbers) e in (r.1, (r.0, get-entries numbers r.0 ∙ r.2), r.3)

pub any-held : (p : ℕ → Bool) (s : Snapshots) (n : ℕ) → IsHeld s n → p n ≡ true → list_any p (held s) ≡ true
any-held p s n (inl m) h = list_any-append p (stamps s) (pinned_numbers s.pins) ∙ or_first _ _ (any-stamp p s.stamps n m h)
any-held p s n (inr m) h = list_any-append p (stamps s) (pinned_numbers s.pins) ∙ or_second _ _ (any-stamp p s.pins n m h)

pub held-any : (p : ℕ → Bool) (s : Snapshots) → list_any p (held s) ≡ true → (n : ℕ) × IsHeld s n × (p n ≡ true)
held-any p s e = by (list_any p (stamps s)) refl (sym (list_any-append p (stamps s) (pinned_numbers s.pins)) ∙ e)
  where
    by : (b : Bool) → list_any p (stamps s) ≡ b → (b || list_any p (pinned_numbers s.pins)) ≡ true → (n : ℕ) × IsHeld s n × (p n ≡ true)
    by true y e = let r = stamp-any p s.stamps y in (r.0, inl r.1, r.2)
    by false y e = let r = stamp-any p s.pins e in (r.0, inr r.1, r.2)

pub none-held : (p : ℕ → Bool) (s : Snapshots) → ((n : ℕ) → IsHeld s n → p n ≡ false) → list_any p (held s) ≡ false
none-held p s h = by (list_any p (held s)) refl
  where
    by : (b : Bool) → list_any p (held s) ≡ b → b ≡ false
    by true e = let r = held-any p s e in absurd (true≢false (sym r.2 ∙ h r.0 r.1))
    by false e = refl

pub any-needed : (p : ℕ → Bool) (s : Snapshots) (n : ℕ) → IsNeeded s n → p n ≡ true → list_any p (needed s) ≡ true
any-needed p s n (inl e) h = or_first _ _ (ap p (sym e) ∙ h)
any-needed p s n (inr m) h = or_second _ _ (any-held p s n m h)

pub needed-any : (p : ℕ → Bool) (s : Snapshots) → list_any p (needed s) ≡ true → (n : ℕ) × IsNeeded s n × (p n ≡ true)
needed-any p s e = by (p s.installs) refl e
  where
    by : (b : Bool) → p s.installs ≡ b → (b || list_any p (held s)) ≡ true → (n : ℕ) × IsNeeded s n × (p n ≡ true)
    by true y e = (s.installs, inl refl, y)
    by false y e = let r = held-any p s e in (r.0, inr r.1, r.2)

not_or : (a b : Bool) → (a && not b) ≡ not (not a || b)
not_or true b = refl
not_or false b = refl

all-any : (p : ℕ → Bool) (xs : List ℕ) → list_all p xs ≡ not (list_any (λ x. not (p x)) xs)
all-any p [] = refl
all-any p (x ∷ xs) = ap (λ b. p x && b) (all-any p xs) ∙ not_or (p x) (list_any (λ x. not (p x)) xs)

pub all-needed : (p : ℕ → Bool) (s : Snapshots) (n : ℕ) → list_all p (needed s) ≡ true → IsNeeded s n → p n ≡ true
all-needed p s n e h = by (p n) refl
  where
    by : (b : Bool) → p n ≡ b → b ≡ true
    by true y = refl
    by false y = absurd (true≢false (sym e ∙ all-any p (needed s) ∙ ap not (any-needed (λ x. not (p x)) s n h (ap not y))))

pub needed-all : (p : ℕ → Bool) (s : Snapshots) → ((n : ℕ) → IsNeeded s n → p n ≡ true) → list_all p (needed s) ≡ true
needed-all p s h = all-any p (needed s) ∙ by (list_any (λ x. not (p x)) (needed s)) refl
  where
    by : (b : Bool) → list_any (λ x. not (p x)) (needed s) ≡ b → not b ≡ true
    by true y = let r = needed-any (λ x. not (p x)) s y in absurd (true≢false (sym r.2 ∙ ap not (h r.0 r.1)))
    by false y = refl

-- ---- a version that is kept for some numbers is kept for others
still : (a l l' c : Bool) → a ≡ true → (c ≡ true → l' ≡ true → l ≡ true) → not (c && l) ≡ true → (a && not (c && l')) ≡ true
still a l l' false e g h = ap (λ b. b && true) e
still a l false true e g h = ap (λ b. b && true) e
still a l true true e g h = absurd (true≢false (sym h ∙ ap not (g refl refl)))

pub kept_to : (s s' : Snapshots) (v : Version) → ((n : ℕ) → IsNeeded s n → sees n v ≡ true → (m : ℕ) × IsNeeded s' m × (sees m v ≡ true))
    → (((m : ℕ) → IsNeeded s' m → v.written ≤ m) → (n : ℕ) → IsNeeded s n → v.written ≤ n) → is_kept (needed s) v ≡ true → is_kept (needed s') v ≡ true
kept_to s s' v seen gone k =
    let r = needed-any (λ n. sees n v) s (and_first (list_any (λ n. sees n v) (needed s)) (not (is_gone (needed s) v)) k) in
    let q = seen r.0 r.1 r.2 in
    still (list_any (λ n. sees n v) (needed s')) (list_all (λ n. nat_le v.written n) (needed s)) (list_all (λ n. nat_le v.written n) (needed s')) (not (is_some v.value))
    (any-needed (λ n. sees n v) s' q.0 q.1 q.2)
    (λ none all. needed-all (λ n. nat_le v.written n) s (λ n h. le_true v.written n (gone (λ m g. true_le v.written m (all-needed (λ n. nat_le v.written n) s' m all g)) n h)))
    (and_second (list_any (λ n. sees n v) (needed s)) (not (is_gone (needed s) v)) k)

pub kept_fewer : (s s' : Snapshots) (v : Version) → ((n : ℕ) → IsNeeded s' n → IsNeeded s n) → is_kept (needed s') v ≡ true → is_kept (needed s) v ≡ true
kept_fewer s s' v sub = kept_to s' s v (λ n h e. (n, sub n h, e)) (λ all n h. all n (sub n h))

-- a version that is seen and not kept has no value
pub not_kept : (s : Snapshots) (v : Version) (n : ℕ) → IsNeeded s n → sees n v ≡ true → is_kept (needed s) v ≡ false → v.value ≡ None
not_kept s v n h e k = by v.value (is_gone (needed s) v) refl (sym k ∙ ap (λ b. b && not (is_gone (needed s) v)) (any-needed (λ n. sees n v) s n h e))
  where
    by : (o : Option (List ℕ)) (g : Bool) → (not (is_some o) && list_all (λ n. nat_le v.written n) (needed s)) ≡ g → false ≡ not g → o ≡ None
    by None g y z = refl
    by (Some x) g y z = absurd (true≢false (sym (z ∙ ap not (sym y))))

-- ---- lists of versions that are filtered
pub each_link : (is : List Install) (key : List ℕ) (P : Version → Type 0) (end : Option ℕ) (vs : List Version) → Linked is key end vs
    → ((v : Version) (end : Option ℕ) → IsLink is key end v → P v) → Each P vs
each_link is key P end [] l f = tt
each_link is key P end (v ∷ vs) l f = (f v end l.0, each_link is key P (Some v.written) vs l.1 f)

within_step : (k k' : Version → Bool) (v : Version) (vs : List Version) (a b : Bool) → k v ≡ a → k' v ≡ b → (k' v ≡ true → k v ≡ true) → filter k' (filter k vs) ≡ filter k' vs
    → filter k' (cond a (v ∷ filter k vs) (filter k vs)) ≡ cond b (v ∷ filter k' vs) (filter k' vs)
within_step k k' v vs true b e f h rest = (λ i. cond (f i) (v ∷ rest i) (rest i))
within_step k k' v vs false true e f h rest = absurd (true≢false (sym (h f) ∙ e))
within_step k k' v vs false false e f h rest = rest

pub filter-within : (k k' : Version → Bool) (vs : List Version) → Each (λ v. k' v ≡ true → k v ≡ true) vs → filter k' (filter k vs) ≡ filter k' vs
filter-within k k' [] h = refl
filter-within k k' (v ∷ vs) h = within_step k k' v vs (k v) (k' v) refl refl h.0 (filter-within k k' vs h.1)

within_alike_step : (k p q : Version → Bool) (v : Version) (ws : List Version) (a : Bool) → k v ≡ a → (k v ≡ true → p v ≡ q v) → filter p ws ≡ filter q ws → filter p (cond a (v ∷ ws) ws) ≡ filter q (cond a (v ∷ ws) ws)
within_alike_step k p q v ws true e h rest = (λ i. cond (h e i) (v ∷ rest i) (rest i))
within_alike_step k p q v ws false e h rest = rest

-- two tests that agree on what is left
pub within-alike : (k p q : Version → Bool) (vs : List Version) → ((v : Version) → k v ≡ true → p v ≡ q v) → filter p (filter k vs) ≡ filter q (filter k vs)
within-alike k p q [] h = refl
within-alike k p q (v ∷ vs) h = within_alike_step k p q v (filter k vs) (k v) refl (h v) (within-alike k p q vs h)

pub filter-alike : (k k' : Version → Bool) (vs : List Version) → Each (λ v. k v ≡ k' v) vs → filter k vs ≡ filter k' vs
filter-alike k k' [] h = refl
filter-alike k k' (v ∷ vs) h = (λ i. cond (h.0 i) (v ∷ filter-alike k k' vs h.1 i) (filter-alike k k' vs h.1 i))

pub each_closed : (is : List Install) (key : List ℕ) (n m : ℕ) (vs : List Version) → Linked is key (Some m) vs → Each (λ v. closed_by n v.overwritten ≡ v.overwritten) vs
each_closed is key n m [] l = tt
each_closed is key n m (v ∷ vs) l = (ap (closed_by n) l.0.ended ∙ sym l.0.ended, each_closed is key n v.written vs l.1)

closed_kept_step : (n : ℕ) (k : Version → Bool) (v : Version) (vs ws : List Version) (a : Bool) → k v ≡ a → closed_by n v.overwritten ≡ v.overwritten → with_closed k n ws ≡ ws
    → with_closed k n (cond a (v ∷ ws) ws) ≡ cond a (v ∷ ws) ws
closed_kept_step n k v vs ws true e h rest = (λ i. cond (k (record v { overwritten = h i })) (record v { overwritten = h i } ∷ ws) ws) ∙ ap (λ b. cond b (v ∷ ws) ws) e
closed_kept_step n k v vs ws false e h rest = rest

pub closed-kept : (n : ℕ) (k : Version → Bool) (vs : List Version) → Each (λ v. closed_by n v.overwritten ≡ v.overwritten) vs → with_closed k n (filter k vs) ≡ filter k vs
closed-kept n k [] h = refl
closed-kept n k (v ∷ vs) h = closed_kept_step n k v vs (filter k vs) (k v) refl h.0 (closed-kept n k vs h.1)

-- ---- one install more
pub sees_open : (n : ℕ) (v : Version) → v.overwritten ≡ None → v.written ≤ n → sees n v ≡ true
sees_open n v e h = (λ i. le_true v.written n h i && is_before n (e i))

-- what all installs see was not overwritten
pub open_at : (is : List Install) (key : List ℕ) (end : Option ℕ) (v : Version) (n : ℕ) → IsLink is key end v → length is ≤ n → sees n v ≡ true → v.overwritten ≡ None
open_at is key None v n l h e = l.ended
open_at is key (Some m) v n l h e =
    let a : n < m = true_lt n m (ap (is_before n) (sym l.ended) ∙ and_second (nat_le v.written n) (is_before n v.overwritten) e) in
    let b : m ≤ length is = written_bound is key m l.end_begun in
    absurd (omega (arith, a, b, h))

pub grown_to : (is : List Install) (key : List ℕ) (end : Option ℕ) (v : Version) (s : Snapshots) → s.installs ≡ length is → IsLink is key end v → is_kept (needed s) v ≡ true → is_kept (needed (grown s)) v ≡ true
grown_to is key end v s same l =
    let b : v.written ≤ length is = written_bound is key v.written l.begun in
    kept_to s (grown s) v seen (λ all n h. gone b all n h)
  where
    seen : (n : ℕ) → IsNeeded s n → sees n v ≡ true → (m : ℕ) × IsNeeded (grown s) m × (sees m v ≡ true)
    seen n (inl x) e =
        let b : v.written ≤ length is = written_bound is key v.written l.begun in
        (suc s.installs, inl refl, sees_open (suc s.installs) v (open_at is key end v n l (omega (arith, x, same)) e) (omega (arith, b, same)))
    seen n (inr x) e = (n, inr x, e)

    gone : v.written ≤ length is → ((m : ℕ) → IsNeeded (grown s) m → v.written ≤ m) → (n : ℕ) → IsNeeded s n → v.written ≤ n
    gone b all n (inl x) = omega (arith, b, x, same)
    gone b all n (inr x) = all n (inr x)

pub grown_from : (is : List Install) (key : List ℕ) (end : Option ℕ) (v : Version) (s : Snapshots) → s.installs ≡ length is → IsLink is key end v → is_kept (needed (grown s)) v ≡ true → is_kept (needed s) v ≡ true
grown_from is key end v s same l =
    let b : v.written ≤ length is = written_bound is key v.written l.begun in
    kept_to (grown s) s v seen (λ all n h. gone b all n h)
  where
    seen : (n : ℕ) → IsNeeded (grown s) n → sees n v ≡ true → (m : ℕ) × IsNeeded s m × (sees m v ≡ true)
    seen n (inl x) e =
        let b : v.written ≤ length is = written_bound is key v.written l.begun in
        (s.installs, inl refl, sees_open s.installs v (open_at is key end v n l (omega (arith, x, same)) e) (omega (arith, b, same)))
    seen n (inr x) e = (n, inr x, e)

    gone : v.written ≤ length is → ((m : ℕ) → IsNeeded s m → v.written ≤ m) → (n : ℕ) → IsNeeded (grown s) n → v.written ≤ n
    gone b all n (inl x) = omega (arith, b, x, same)
    gone b all n (inr x) = all n (inr x)

pub grown_alike : (is : List Install) (key : List ℕ) (end : Option ℕ) (v : Version) (s : Snapshots) → s.installs ≡ length is → IsLink is key end v → is_kept (needed s) v ≡ is_kept (needed (grown s)) v
grown_alike is key end v s same l = both_ways _ _ (grown_to is key end v s same l) (grown_from is key end v s same l)

-- the newest version stays, if it is kept once it is overwritten
newest_still : (is : List Install) (key : List ℕ) (v : Version) (s : Snapshots) (n : ℕ) → s.installs ≡ length is → IsLink is key None v
    → is_kept (needed (grown s)) (record v { overwritten = closed_by n v.overwritten }) ≡ true → is_kept (needed s) v ≡ true
newest_still is key v s n same l k =
    let b : v.written ≤ length is = written_bound is key v.written l.begun in
    still (list_any (λ n. sees n v) (needed s)) (list_all (λ n. nat_le v.written n) (needed (grown s))) (list_all (λ n. nat_le v.written n) (needed s)) (not (is_some v.value))
    (any-needed (λ n. sees n v) s s.installs (inl refl) (sees_open s.installs v l.ended (omega (arith, b, same))))
    (λ none all. needed-all (λ n. nat_le v.written n) (grown s) (λ m h. le_true v.written m (above m all h)))
    (and_second (list_any (λ m. sees m (record v { overwritten = closed_by n v.overwritten })) (needed (grown s))) (not (is_gone (needed (grown s)) v)) k)
  where
    above : (m : ℕ) → list_all (λ n. nat_le v.written n) (needed s) ≡ true → IsNeeded (grown s) m → v.written ≤ m
    above m all (inl x) =
        let b : v.written ≤ length is = written_bound is key v.written l.begun in
        omega (arith, b, x, same)
    above m all (inr x) = true_le v.written m (all-needed (λ n. nat_le v.written n) s m all (inr x))

-- a version that was overwritten by the install that wrote it is read by nobody
pub never_kept : (s : Snapshots) (n : ℕ) (value : Option (List ℕ)) → is_kept (needed s) (record { written = n; overwritten = Some n; value = value }) ≡ false
never_kept s n value = by (list_any (λ m. nat_le n m && nat_lt m n) (needed s)) refl
  where
    by : (b : Bool) → list_any (λ m. nat_le n m && nat_lt m n) (needed s) ≡ b → (b && not (is_gone (needed s) (record { written = n; overwritten = Some n; value = value }))) ≡ false
    by true e =
        let r = needed-any (λ m. nat_le n m && nat_lt m n) s e in
        let a : n ≤ r.0 = true_le n r.0 (and_first (nat_le n r.0) (nat_lt r.0 n) r.2) in
        let b : r.0 < n = true_lt r.0 n (and_second (nat_le n r.0) (nat_lt r.0 n) r.2) in
        absurd (omega (arith, a, b))
    by false e = refl

-- of the versions that were kept before an install only the newest one can become unread
pub closed_kept : (is : List Install) (key : List ℕ) (s : Snapshots) (n : ℕ) (vs : List Version) → s.installs ≡ length is → Linked is key None vs
    → with_closed (is_kept (needed (grown s))) n (filter (is_kept (needed s)) vs) ≡ filter (is_kept (needed (grown s))) (closed n vs)
closed_kept is key s n [] same l = refl
closed_kept is key s n (v ∷ vs) same l = by (is_kept (needed s) v) refl
  where
    alike : filter (is_kept (needed s)) vs ≡ filter (is_kept (needed (grown s))) vs
    alike = filter-alike (is_kept (needed s)) (is_kept (needed (grown s))) vs
        (each_link is key (λ u. is_kept (needed s) u ≡ is_kept (needed (grown s)) u) (Some v.written) vs l.1 (λ u end m. grown_alike is key end u s same m))

    gone : (b : Bool) → is_kept (needed (grown s)) (record v { overwritten = closed_by n v.overwritten }) ≡ b → is_kept (needed s) v ≡ false → b ≡ false
    gone true e f = absurd (true≢false (sym (newest_still is key v s n same l.0 e) ∙ f))
    gone false e f = refl

    by : (b : Bool) → is_kept (needed s) v ≡ b
        → with_closed (is_kept (needed (grown s))) n (cond b (v ∷ filter (is_kept (needed s)) vs) (filter (is_kept (needed s)) vs))
        ≡ cond (is_kept (needed (grown s)) (record v { overwritten = closed_by n v.overwritten })) (record v { overwritten = closed_by n v.overwritten } ∷ filter (is_kept (needed (grown s))) vs) (filter (is_kept (needed (grown s))) vs)
    by true e = (λ i. cond (is_kept (needed (grown s)) (record v { overwritten = closed_by n v.overwritten })) (record v { overwritten = closed_by n v.overwritten } ∷ alike i) (alike i))
    by false e =
        ap (with_closed (is_kept (needed (grown s))) n) alike ∙ closed-kept n (is_kept (needed (grown s))) vs (each_closed is key n v.written vs l.1)
        ∙ sym (ap (λ b. cond b (record v { overwritten = closed_by n v.overwritten } ∷ filter (is_kept (needed (grown s))) vs) (filter (is_kept (needed (grown s))) vs)) (gone _ refl e))

-- a version that some number sees is kept where another number is before it
pub kept_for_all : (s : Snapshots) (v : Version) (n m : ℕ) → IsNeeded s n → sees n v ≡ true → IsNeeded s m → m < v.written → is_kept (needed s) v ≡ true
kept_for_all s v n m h e g l = (λ i. any-needed (λ k. sees k v) s n h e i && not (by (list_all (λ k. nat_le v.written k) (needed s)) refl (not (is_some v.value)) i))
  where
    by : (b : Bool) → list_all (λ k. nat_le v.written k) (needed s) ≡ b → (c : Bool) → (c && b) ≡ false
    by true f c = let x : v.written ≤ m = true_le v.written m (all-needed (λ k. nat_le v.written k) s m f g) in absurd (omega (arith, x, l))
    by false f c = and-false c
