-- The keys that were written since a transaction read them.
use Rattle.std.proofs.Common.{◌≡◌, T, ℕ, suc, ◌<◌, ◌≤◌, Bool, true, false, cond, ◌&&◌, ◌||◌, List, [], ◌∷◌, ◌++◌, map, filter, length, if◌then◌else◌, is_some, Option, None, Some, refl, sym, ap, ◌∙◌, subst, true≢false, eqb→eq, arith}
use Rattle.std.specs.Prelude.{nat_lt, nat_le, ◌==◌}
use Rattle.std.proofs.lemmas.Bool.Decides.{nat_tests}
use Rattle.std.specs.List.{list_any, list_all}
use Rattle.std.specs.Cmp.{both_ways}
use Rattle.std.specs.FinMap.{get}
use Rattle.std.specs.FinMap.Entries.{find, is_sorted}
use Rattle.co_base.specs.Order.{key_cmp}
use Rattle.co_base.specs.Span.{Span, span_has}
use Rattle.co_serial.specs.Records.{Records}
use Rattle.co_state.specs.declared.engine_state.Install.{Install}
use Rattle.co_state.specs.declared.engine_state.Operation.{Operation}
use Rattle.co_state.specs.Changes.{span_read, spans_of, with_span}
use Rattle.co_state.specs.Keys.{same_key, writes_key, reads_key}
use Rattle.co_state.specs.Search.{range_has}
use Rattle.co_state.specs.StaleRead.{keys_since, overwritten, stale_keys}
use Rattle.co_mv.specs.declared.version.Version.{Version}
use Rattle.co_mv.specs.Chains.{chain_in}
use Rattle.co_mv.specs.Overwritten.{written_keys, written_within}
use Rattle.co_mv.specs.Recents.{has_key}
use Rattle.co_mv.specs.Versions.{last_change, base_versions, closed, written_over, versions_of, written_since}
use Rattle.co_mv.proofs.Archiving.{has-keys}
use Rattle.co_mv.proofs.Chaining.{same_keys}
use Rattle.co_index.proofs.Putting.{reads_key-put}
use Rattle.co_pairs.proofs.Picking.{first, second}
use Rattle.co_index.proofs.Listed.{has-append, has-filter, either, key-below, find-within, sorted-within}
use Rattle.co_mv.proofs.Versioning.{true_le, lt_true, true_lt, lt_false, and_first, and_second, key_symm, writes-change, IsLink, Linked, linked, written_bound}

has-overwritten : (o : Option Span) (xs : List (List ℕ)) (k : List ℕ) → has_key (overwritten o xs) k ≡ (range_has o k && has_key xs k)
has-overwritten None xs k = refl
has-overwritten (Some span) xs k = has-filter span xs k

reads-with : (o : Option Span) (ss : List Span) (k : List ℕ) → reads_key (with_span o ss) k ≡ (range_has o k || reads_key ss k)
reads-with None ss k = refl
reads-with (Some span) ss k = reads_key-put span ss k

-- operations of one stamp
pub has-stale : (is : List Install) (n : ℕ) (os : List Operation) (k : List ℕ) → list_all (λ o. o.stamp == n) os ≡ true → has_key (stale_keys is os) k ≡ (reads_key (spans_of os) k && has_key (keys_since is n) k)
has-stale is n [] k h = refl
has-stale is n (o ∷ os) k h =
    let x : o.stamp ≡ n = eqb→eq o.stamp n (subst T (sym (and_first (o.stamp == n) (list_all (λ p. p.stamp == n) os) h)) tt) in
    has-append (overwritten (span_read o.op) (keys_since is o.stamp)) (stale_keys is os) k
    ∙ (λ i. (has-overwritten (span_read o.op) (keys_since is o.stamp) k ∙ ap (λ m. range_has (span_read o.op) k && has_key (keys_since is m) k) x) i
    || has-stale is n os k (and_second (o.stamp == n) (list_all (λ p. p.stamp == n) os) h) i)
    ∙ either (range_has (span_read o.op) k) (reads_key (spans_of os) k) (has_key (keys_since is n) k)
    ∙ ap (λ b. b && has_key (keys_since is n) k) (sym (reads-with (span_read o.op) (spans_of os) k))

-- ---- the keys of chains
keys_step : (n : ℕ) (e : List ℕ × List Version) (es : List (List ℕ × List Version)) (k : List ℕ) (b c : Bool) → written_since n e.1 ≡ b → same_key k e.0 ≡ c → (c ≡ true → find key_cmp k es ≡ None)
    → has_key (written_keys n es) k ≡ written_since n (chain_in (find key_cmp k es))
    → has_key (map (λ x. x.0) (cond b (e ∷ filter (λ x. written_since n x.1) es) (filter (λ x. written_since n x.1) es))) k ≡ written_since n (chain_in (cond c (Some e.1) (find key_cmp k es)))
keys_step n e es k true true f g none rest = ap (λ c. c || has_key (written_keys n es) k) (key_symm e.0 k ∙ g) ∙ sym f
keys_step n e es k true false f g none rest = ap (λ c. c || has_key (written_keys n es) k) (key_symm e.0 k ∙ g) ∙ rest
keys_step n e es k false true f g none rest = rest ∙ ap (λ o. written_since n (chain_in o)) (none refl) ∙ sym f
keys_step n e es k false false f g none rest = rest

has-written : (n : ℕ) (es : List (List ℕ × List Version)) (k : List ℕ) → T (is_sorted key_cmp es) → has_key (written_keys n es) k ≡ written_since n (chain_in (find key_cmp k es))
has-written n [] k h = refl
has-written n (e ∷ es) k h =
    keys_step n e es k (written_since n e.1) (same_key k e.0) refl refl (λ t. ap (λ q. find key_cmp q es) (same_keys k e.0 t) ∙ key-below e.0 es (first _ _ h)) (has-written n es k (second _ _ h))

since_cond : (n : ℕ) (b : Bool) (o : Option (List Version)) → written_since n (chain_in (cond b o None)) ≡ (b && written_since n (chain_in o))
since_cond n true o = refl
since_cond n false o = refl

pub has-within : (n : ℕ) (es : List (List ℕ × List Version)) (spans : List Span) (k : List ℕ) → T (is_sorted key_cmp es)
    → has_key (written_within n es spans) k ≡ (reads_key spans k && written_since n (chain_in (find key_cmp k es)))
has-within n es [] k h = refl
has-within n es (span ∷ spans) k h =
    has-append (written_keys n (filter (λ e. span_has span e.0) es)) (written_within n es spans) k
    ∙ (λ i. (has-written n (filter (λ e. span_has span e.0) es) k (sorted-within span es h)
    ∙ ap (λ o. written_since n (chain_in o)) (find-within span k es)
    ∙ since_cond n (span_has span k) (find key_cmp k es)) i || has-within n es spans k h i)
    ∙ either (span_has span k) (reads_key spans k) (written_since n (chain_in (find key_cmp k es)))

-- ---- the versions of one key
none_written : (is : List Install) (key : List ℕ) (end : Option ℕ) (n : ℕ) (vs : List Version) → Linked is key end vs → length is ≤ n → written_since n vs ≡ false
none_written is key end n [] l h = refl
none_written is key end n (v ∷ vs) l h =
    let b : v.written ≤ length is = written_bound is key v.written l.0.begun in
    (λ i. lt_false n v.written (omega (arith, b, h)) i || none_written is key (Some v.written) n vs l.1 h i)

since-closed : (n m : ℕ) (vs : List Version) → written_since n (closed m vs) ≡ written_since n vs
since-closed n m [] = refl
since-closed n m (v ∷ vs) = refl

since_base : (n : ℕ) (o : Option (List ℕ)) → written_since n (base_versions o) ≡ false
since_base n None = refl
since_base n (Some v) = ap (λ b. b || false) (lt_false n 0 (omega arith))

since_step : (i : Install) (is : List Install) (key : List ℕ) (n : ℕ) (vs : List Version) (o : Option (Option (List ℕ))) (b : Bool) → writes_key i.writes key ≡ is_some o → nat_le n (length is) ≡ b
    → written_since n vs ≡ has_key (keys_since is n) key → (length is ≤ n → written_since n vs ≡ false)
    → written_since n (written_over (suc (length is)) o vs) ≡ has_key (if b then map (λ w. w.key) i.writes ++ keys_since is n else []) key
since_step i is key n vs None true w e rest none =
    rest ∙ ap (λ b. b || has_key (keys_since is n) key) (sym (has-keys i.writes key ∙ w)) ∙ sym (has-append (map (λ w. w.key) i.writes) (keys_since is n) key)
since_step i is key n vs None false w e rest none = none (grind (arith, nat_tests))
since_step i is key n vs (Some x) true w e rest none =
    let h : n ≤ length is = true_le n (length is) e in
    ap (λ b. b || written_since n (closed (suc (length is)) vs)) (lt_true n (suc (length is)) (omega (arith, h)))
    ∙ ap (λ b. b || has_key (keys_since is n) key) (sym (has-keys i.writes key ∙ w)) ∙ sym (has-append (map (λ w. w.key) i.writes) (keys_since is n) key)
since_step i is key n vs (Some x) false w e rest none =
    let h : suc (length is) ≤ n = grind (arith, nat_tests) in
    (λ j. lt_false n (suc (length is)) h j || (since-closed n (suc (length is)) vs ∙ none (omega (arith, h))) j)

pub since-versions : (base : Records) (is : List Install) (key : List ℕ) (n : ℕ) → written_since n (versions_of base is key) ≡ has_key (keys_since is n) key
since-versions base [] key n = since_base n (get base key)
since-versions base (i ∷ is) key n =
    since_step i is key n (versions_of base is key) (last_change i.writes key) (nat_le n (length is)) (writes-change i.writes key) refl (since-versions base is key n)
    (none_written is key None n (versions_of base is key) (linked base is key))

since_below : (is : List Install) (key : List ℕ) (m n : ℕ) (vs : List Version) → Linked is key (Some m) vs → written_since n vs ≡ true → n < m
since_below is key m n [] l e = absurd (true≢false (sym e))
since_below is key m n (v ∷ vs) l e = by (nat_lt n v.written) refl e (since_below is key v.written n vs l.1)
  where
    by : (b : Bool) → nat_lt n v.written ≡ b → (b || written_since n vs) ≡ true → (written_since n vs ≡ true → n < v.written) → n < m
    by true f e rest = let a : n < v.written = true_lt n v.written f in let b : v.written < m = true_lt v.written m l.0.before in omega (arith, a, b)
    by false f e rest = let a : n < v.written = rest e in let b : v.written < m = true_lt v.written m l.0.before in omega (arith, a, b)

any_fewer : (p : Version → Bool) (k : Version → Bool) (vs : List Version) → list_any p (filter k vs) ≡ true → list_any p vs ≡ true
any_fewer p k [] e = e
any_fewer p k (v ∷ vs) e = by (k v) (p v) e (any_fewer p k vs)
  where
    by : (a b : Bool) → list_any p (cond a (v ∷ filter k vs) (filter k vs)) ≡ true → (list_any p (filter k vs) ≡ true → list_any p vs ≡ true) → (p v || list_any p vs) ≡ true
    by true b e rest = both (p v) (list_any p (filter k vs)) (list_any p vs) e rest
      where
        both : (a b c : Bool) → (a || b) ≡ true → (b ≡ true → c ≡ true) → (a || c) ≡ true
        both true b c e f = refl
        both false b c e f = f e
    by false b e rest = last (p v) (list_any p vs) (rest e)
      where
        last : (a b : Bool) → b ≡ true → (a || b) ≡ true
        last true b e = refl
        last false b e = e

-- the newest version tells, and it is kept
pub since-kept : (is : List Install) (key : List ℕ) (k : Version → Bool) (n : ℕ) (vs : List Version) → Linked is key None vs
    → ((v : Version) → IsLink is key None v → n < v.written → k v ≡ true) → written_since n (filter k vs) ≡ written_since n vs
since-kept is key k n [] l kept = refl
since-kept is key k n (v ∷ vs) l kept = both_ways _ _ (any_fewer (λ v. nat_lt n v.written) k (v ∷ vs)) (λ e. by (nat_lt n v.written) refl e)
  where
    here : n < v.written → written_since n (filter k (v ∷ vs)) ≡ true
    here h = ap (λ b. written_since n (cond b (v ∷ filter k vs) (filter k vs))) (kept v l.0 h) ∙ ap (λ b. b || written_since n (filter k vs)) (lt_true n v.written h)

    by : (b : Bool) → nat_lt n v.written ≡ b → (b || written_since n vs) ≡ true → written_since n (filter k (v ∷ vs)) ≡ true
    by true f e = here (true_lt n v.written f)
    by false f e = here (since_below is key v.written n vs l.1 e)
