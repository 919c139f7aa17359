-- What is seen of versions in order.
use Rattle.std.proofs.Common.{◌≡◌, T, ℕ, zero, suc, ◌+◌, ◌-◌, ◌<◌, ◌≤◌, Bool, true, false, cond, ◌&&◌, ◌||◌, List, [], ◌∷◌, ◌++◌, reverse, filter, length, get_or, slice_get, if◌then◌else◌, Option, None, Some, refl, sym, ap, ◌∙◌, subst, arith}
use Rattle.std.specs.Prelude.{nat_lt, nat_le}
use Rattle.std.proofs.lemmas.Bool.Decides.{nat_tests}
use Rattle.std.proofs.lemmas.List.{get_or_push, length_push, reverse-append, reverse-reverse}
use Rattle.std.proofs.lemmas.Option.{get_or_from_slice_get}
use Rattle.std.specs.FinMap.{entries, entries_sorted, get-entries}
use Rattle.std.specs.FinMap.Entries.{find, is_sorted}
use Rattle.co_base.specs.Order.{key_cmp}
use Rattle.co_base.specs.Span.{Span, span_has}
use Rattle.co_serial.specs.Records.{Records}
use Rattle.co_state.specs.declared.engine_state.Install.{Install}
use Rattle.co_state.specs.Keys.{same_key}
use Rattle.co_state.proofs.Ties.{tied_keys, key_ties-itself}
use Rattle.co_pairs.proofs.Picking.{first, second}
use Rattle.co_index.proofs.Listed.{key-below}
use Rattle.co_mv.specs.declared.archive.Archive.{Archive}
use Rattle.co_mv.specs.declared.version.Version.{Version}
use Rattle.co_mv.specs.Chains.{chain_in, chain_of}
use Rattle.co_mv.specs.Kept.{needed, Keeps}
use Rattle.co_mv.specs.Ordered.{Each, IsOlder, IsOrdered, IsCountUntil, AreOrdered}
use Rattle.co_mv.specs.Versions.{is_before, sees, is_kept, versions_of, seen_value, written_since}
use Rattle.co_mv.proofs.Ordering.{IsRising, parted, rising_reverse, each_reverse, ordered_filter, ordered_linked}
use Rattle.co_mv.proofs.Versioning.{true_le, lt_false, and_second, linked}

-- ---- the version that is seen at a number
abbrev pub seen_in : ℕ → Version → Option (List ℕ)
seen_in n v = if sees n v then v.value else None

unseen_last : (n : ℕ) (vs : List Version) (v : Version) → sees n v ≡ false → seen_value n (vs ++ v ∷ []) ≡ seen_value n vs
unseen_last n [] v e = ap (λ b. if b then v.value else None) e
unseen_last n (u ∷ us) v e = ap (λ o. if sees n u then u.value else o) (unseen_last n us v e)

only_last : (n : ℕ) (vs : List Version) (v : Version) → Each (λ u. sees n u ≡ false) vs → seen_value n (vs ++ v ∷ []) ≡ seen_in n v
only_last n [] v h = refl
only_last n (u ∷ us) v h = ap (λ b. if b then u.value else seen_value n (us ++ v ∷ [])) h.0 ∙ only_last n us v h.1

none_seen : (n : ℕ) (vs : List Version) → Each (λ u. sees n u ≡ false) vs → seen_value n vs ≡ None
none_seen n [] h = refl
none_seen n (u ∷ us) h = ap (λ b. if b then u.value else seen_value n us) h.0 ∙ none_seen n us h.1

-- neither a version that was written later is seen
late : (n : ℕ) (v : Version) → nat_le v.written n ≡ false → sees n v ≡ false
late n v e = ap (λ b. b && is_before n v.overwritten) e

all_late : (n : ℕ) (vs : List Version) → ((k : ℕ) (d : Version) → 0 ≤ k → k < length vs → nat_le (get_or vs k d).written n ≡ false) → Each (λ u. sees n u ≡ false) vs
all_late n [] h = tt
all_late n (v ∷ vs) h = (late n v (h 0 v (omega arith) (omega arith)), all_late n vs (λ k d a b. h (suc k) d (omega arith) (omega (arith, b))))

-- nor one that was overwritten before
early : (n : ℕ) (v w : Version) → IsOlder w v → nat_le w.written n ≡ true → sees n v ≡ false
early n v w o h = by (sees n v) refl
  where
    by : (b : Bool) → sees n v ≡ b → b ≡ false
    by true e =
        let a : n < w.written = o.ended n (and_second (nat_le v.written n) (is_before n v.overwritten) e) in
        let b : w.written ≤ n = true_le w.written n h in
        absurd (omega (arith, a, b))
    by false e = refl

-- of so many versions, the oldest one first, the last one
abbrev pub seen_last : ℕ → List Version → ℕ → Option (List ℕ)
seen_last n vs zero = None
seen_last n [] (suc place) = None
seen_last n (v ∷ vs) (suc zero) = seen_in n v
seen_last n (v ∷ vs) (suc (suc place)) = seen_last n vs (suc place)

seen_around : (n : ℕ) (vs : List Version) (place : ℕ) → IsRising vs → place ≤ length vs
    → ((k : ℕ) (d : Version) → 0 ≤ k → k < place → nat_le (get_or vs k d).written n ≡ true)
    → ((k : ℕ) (d : Version) → place ≤ k → k < length vs → nat_le (get_or vs k d).written n ≡ false)
    → seen_last n vs place ≡ seen_value n (reverse vs)
seen_around n vs zero r bound low high = sym (none_seen n (reverse vs) (each_reverse (λ u. sees n u ≡ false) vs (all_late n vs high)))
seen_around n [] (suc place) r bound low high = absurd (omega (arith, bound))
seen_around n (v ∷ vs) (suc zero) r bound low high =
    sym (ap (seen_value n) (reverse-append (v ∷ []) vs)
    ∙ only_last n (reverse vs) v (each_reverse (λ u. sees n u ≡ false) vs (all_late n vs (λ k d a b. high (suc k) d (omega arith) (omega (arith, b))))))
seen_around n (v ∷ []) (suc (suc place)) r bound low high = absurd (omega (arith, bound))
seen_around n (v ∷ w ∷ vs) (suc (suc place)) r bound low high =
    seen_around n (w ∷ vs) (suc place) r.1 (omega (arith, bound)) (λ k d a b. low (suc k) d (omega arith) (omega (arith, b))) (λ k d a b. high (suc k) d (omega (arith, a)) (omega (arith, b)))
    ∙ sym (ap (seen_value n) (reverse-append (v ∷ []) (w ∷ vs)) ∙ unseen_last n (reverse (w ∷ vs)) v (early n v w r.0.0 (low 1 v (omega arith) (omega arith))))

pub seen_before : (n : ℕ) (slice oldest_first chain : List Version) (place : ℕ) → slice ≡ oldest_first → reverse oldest_first ≡ chain → place ≤ length slice → IsCountUntil n slice place
    → IsOrdered chain → seen_last n oldest_first place ≡ seen_value n chain
seen_before n slice oldest_first chain place same view bound count ordered =
    let back : reverse chain ≡ oldest_first = ap reverse (sym view) ∙ reverse-reverse oldest_first in
    let rising = subst IsRising back (rising_reverse chain ordered) in
    let at = subst (λ (vs : List Version). IsCountUntil n vs place) same count (parted n oldest_first rising) in
    seen_around n oldest_first place rising (subst (λ (vs : List Version). place ≤ length vs) same bound) at.0 at.1 ∙ ap (seen_value n) view

pub seen_none : (n : ℕ) (vs : List Version) (place : ℕ) → place ≡ 0 → None ≡ seen_last n vs place
seen_none n vs zero e = refl
seen_none n vs (suc place) e = absurd (omega (arith, e))

seen_place : (n : ℕ) (vs : List Version) (place : ℕ) (v d : Version) → 0 < place → place ≤ length vs → v ≡ get_or vs (place - 1) d → seen_in n v ≡ seen_last n vs place
seen_place n vs zero v d a b e = absurd (omega (arith, a))
seen_place n [] (suc place) v d a b e = absurd (omega (arith, b))
seen_place n (u ∷ us) (suc zero) v d a b e = let z : suc zero - 1 ≡ zero = omega arith in ap (seen_in n) (e ∙ ap (λ k. get_or (u ∷ us) k d) z)
seen_place n (u ∷ us) (suc (suc place)) v d a b e =
    let y : suc (suc place) - 1 ≡ suc place = omega arith in
    let z : place ≡ suc place - 1 = omega arith in
    seen_place n us (suc place) v d (omega arith) (omega (arith, b)) (e ∙ ap (λ k. get_or (u ∷ us) k d) y ∙ ap (λ k. get_or us k d) z)

some : (n : ℕ) → (n ≡ 0 → ⊥) → 0 < n
some zero h = absurd (h refl)
some (suc n) h = omega arith

pub seen_found : (n : ℕ) (slice oldest_first chain : List Version) (place : ℕ) (v : Version) → slice ≡ oldest_first → reverse oldest_first ≡ chain → place ≤ length slice → IsCountUntil n slice place
    → (place ≡ 0 → ⊥) → v ≡ get_or oldest_first (place - 1) v → IsOrdered chain → seen_in n v ≡ seen_value n chain
seen_found n slice oldest_first chain place v same view bound count nonzero at ordered =
    seen_place n oldest_first place v v (some place nonzero) (subst (λ (vs : List Version). place ≤ length vs) same bound) at
    ∙ seen_before n slice oldest_first chain place same view bound count ordered

-- ---- the newest one tells whether the key was written
all_before : (n : ℕ) (v : Version) (vs : List Version) → v.written ≤ n → Each (IsOlder v) vs → written_since n vs ≡ false
all_before n v [] l h = refl
all_before n v (u ∷ us) l h =
    let b = h.0.begun in
    (λ i. lt_false n u.written (omega (arith, b, l)) i || all_before n v us l h.1 i)

pub newest_tells : (n : ℕ) (v : Version) (vs : List Version) → IsOrdered (v ∷ vs) → nat_lt n v.written ≡ written_since n (v ∷ vs)
newest_tells n v vs o = by (nat_lt n v.written) refl
  where
    by : (b : Bool) → nat_lt n v.written ≡ b → b ≡ (b || written_since n vs)
    by true e = refl
    by false e = let l : v.written ≤ n = grind (arith, nat_tests) in sym (all_before n v vs l o.0)

pub last_tells : (n : ℕ) (oldest_first chain : List Version) (v : Version) → reverse oldest_first ≡ chain → Some v ≡ slice_get oldest_first (length oldest_first - 1) → IsOrdered chain → nat_lt n v.written ≡ written_since n chain
last_tells n oldest_first [] v view at o =
    let none : oldest_first ≡ [] = sym (reverse-reverse oldest_first) ∙ ap reverse view in
    let no : Some v ≡ None = at ∙ ap (λ (vs : List Version). slice_get vs (length oldest_first - 1)) none in
    absurd (cc)
last_tells n oldest_first (u ∷ us) v view at o =
    let whole : oldest_first ≡ reverse us ++ u ∷ [] = sym (reverse-reverse oldest_first) ∙ ap reverse view ∙ reverse-append (u ∷ []) us in
    let long : length oldest_first ≡ length (reverse us) + 1 = ap length whole ∙ length_push (reverse us) u in
    let here : v ≡ u =
    sym (get_or_from_slice_get oldest_first (length oldest_first - 1) v u (sym at))
    ∙ ap (λ (vs : List Version). get_or vs (length oldest_first - 1) u) whole
    ∙ get_or_push (reverse us) u u (length oldest_first - 1) (omega (arith, long)) in
    ap (λ (w : Version). nat_lt n w.written) here ∙ newest_tells n u us o

-- ---- what is kept is in order
pub ordered_kept : (a : Archive) (base : Records) (is : List Install) (key : List ℕ) → Keeps a base is → IsOrdered (chain_of a.chains key)
ordered_kept a base is key k =
    subst IsOrdered (sym (k.chains_are key)) (ordered_filter (is_kept (needed a.snapshots)) (versions_of base is key) (ordered_linked is key None (versions_of base is key) (linked base is key)))

ordered_entries : (es : List (List ℕ × List Version)) → T (is_sorted key_cmp es) → ((q : List ℕ) → IsOrdered (chain_in (find key_cmp q es))) → AreOrdered es
ordered_entries [] s h = tt
ordered_entries (e ∷ es) s h = (
  subst (λ b. IsOrdered (chain_in (cond b (Some e.1) (find key_cmp e.0 es)))) (key_ties-itself e.0) (h e.0),
  ordered_entries es (second _ _ s) (λ q. by q (same_key q e.0) refl (h q)),
)
  where
    by : (q : List ℕ) (b : Bool) → same_key q e.0 ≡ b → IsOrdered (chain_in (cond b (Some e.1) (find key_cmp q es))) → IsOrdered (chain_in (find key_cmp q es))
    by q true t o = subst (λ x. IsOrdered (chain_in x)) (sym (ap (λ k. find key_cmp k es) (tied_keys q e.0 t) ∙ key-below e.0 es (first _ _ s))) tt
    by q false t o = o

pub all_ordered : (a : Archive) (base : Records) (is : List Install) → Keeps a base is → AreOrdered (entries a.chains)
all_ordered a base is k =
    ordered_entries (entries a.chains) (entries_sorted a.chains) (λ q. subst (λ x. IsOrdered (chain_in x)) (get-entries a.chains q) (ordered_kept a base is q k))

pub ordered_within : (span : Span) (es : List (List ℕ × List Version)) → AreOrdered es → AreOrdered (filter (λ e. span_has span e.0) es)
ordered_within span [] h = tt
ordered_within span (e ∷ es) h = by (ordered_within span es h.1) (span_has span e.0)
  where
    by : AreOrdered (filter (λ x. span_has span x.0) es) → (b : Bool) → AreOrdered (cond b (e ∷ filter (λ x. span_has span x.0) es) (filter (λ x. span_has span x.0) es))
    by rest true = (h.0, rest)
    by rest false = rest
