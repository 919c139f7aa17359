-- A store with its locks after each call, by the plain data for which it stands.
use Rattle.std.proofs.Common.{◌≡◌, ◌≢◌, ◌⊎◌, inl, inr, T, ℕ, Bool, true, false, cond, not, ◌&&◌, ◌||◌, List, [], ◌∷◌, ◌++◌, if◌then◌else◌, Option, None, Some, is_some, refl, sym, ap, ◌∙◌, subst, true≢false, eqb→eq, eq-eqb}
use Rattle.std.specs.Prelude.{◌==◌}
use Rattle.std.specs.List.{list_any}
use Rattle.std.specs.Ordering.{nat_cmp, is_eq}
use Rattle.std.specs.Cmp.{both_ways}
use Rattle.std.specs.FinMap.{get, entries, entries_sorted, get-empty, get-entries, contains_key, same_map}
use Rattle.std.specs.FinMap.Entries.{find, below_all, is_sorted}
use Rattle.co_base.specs.Order.{key_cmp}
use Rattle.co_base.specs.Span.{Span, span_has}
use Rattle.co_base.specs.declared.written.Written.{Written}
use Rattle.co_serial.specs.Records.{Records, with_change}
use Rattle.co_state.specs.Keys.{same_key, reads_key, writes_key, writes_within}
use Rattle.co_state.specs.Table.{Table, look, put, without}
use Rattle.co_store.specs.declared.slots.Slot.{Slot}
use Rattle.co_store.specs.Images.{Images, slot_of, or_nothing}
use Rattle.co_store.specs.StoreState.{StoreState, images_of, laid_back, all_laid_back, clean_records}
use Rattle.co_locktab.specs.Locks.{Locks, or_none, read_by, written_by, with_read, with_write, same_span}
use Rattle.co_locktab.proofs.Locking.{any_more, any_gone}
use Rattle.co_locktab.proofs.Orders.{keys_total, keys_apart, spans_total, spans_apart, tied, same_number, one_number, number_itself}
use Rattle.co_law_engine.proofs.Keys.{get-change, same_key_sym, same_key_is, same_key_refl}
pub use Rattle.co_state.proofs.Ties.{left_true, right_true, and_false, or_true}
use Rattle.co_state.proofs.Ties.{first, second, less, nothing_below}

-- ---- truth tables
pub or_false : (b : Bool) → (b || false) ≡ b
or_false true = refl
or_false false = refl

pub neither_left : (a b : Bool) → (a || b) ≡ false → a ≡ false
neither_left true b e = e
neither_left false b e = refl

pub neither_right : (a b : Bool) → (a || b) ≡ false → b ≡ false
neither_right true b e = absurd (true≢false e)
neither_right false b e = e

-- ---- numbers
pub same_as : (u t : ℕ) → same_number u t ≡ (u == t)
same_as u t = both_ways (same_number u t) (u == t) (λ e. eq-eqb u t (one_number u t e)) (λ e. subst (λ j. same_number u j ≡ true) (eqb→eq u t (subst T (sym e) tt)) (number_itself u))

pub one_of : (u t : ℕ) → (u == t) ≡ true → u ≡ t
one_of u t e = eqb→eq u t (subst T (sym e) tt)

pub other_than : (u t : ℕ) → (u == t) ≡ false → u ≢ t
other_than u t e is = true≢false (sym (eq-eqb u t is) ∙ e)

pub not_same : (u t : ℕ) → u ≢ t → (u == t) ≡ false
not_same u t n = by (u == t) refl
  where
    by : (b : Bool) → (u == t) ≡ b → b ≡ false
    by true e = absurd (n (one_of u t e))
    by false e = refl

pub itself : (t : ℕ) → (t == t) ≡ true
itself t = eq-eqb t t refl

-- ---- locks taken
taken_again : {A : Type 0} (p : A → Bool) (x : A) (b : Bool) (has : Bool) (L : Bool) → (b ≡ true → p x ≡ true → L ≡ true) → L ≡ ((b && p x) || L)
taken_again p x true has L h = by (p x) refl
  where
    by : (c : Bool) → p x ≡ c → L ≡ (c || L)
    by true e = h refl e
    by false e = refl
taken_again p x false has L h = refl

listed_key : (k q : List ℕ) (ks : List (List ℕ)) → list_any (same_key k) ks ≡ true → same_key q k ≡ true → list_any (same_key q) ks ≡ true
listed_key k q ks h e = ap (λ j. list_any (same_key j) ks) (same_key_is q k e) ∙ h

pub written_with : (locks : Locks) (t : ℕ) (key : List ℕ) (u : ℕ) (q : List ℕ) → list_any (same_key q) (written_by (with_write locks t key) u) ≡ (((u == t) && same_key key q) || list_any (same_key q) (written_by locks u))
written_with locks t key u q = by (list_any (same_key key) (written_by locks t)) refl
  where
    by : (b : Bool) → list_any (same_key key) (written_by locks t) ≡ b
        → list_any (same_key q) (written_by (if b then locks else record locks { writes = put locks.writes t (written_by locks t ++ key ∷ []) }) u) ≡ (((u == t) && same_key key q) || list_any (same_key q) (written_by locks u))
    by true e = taken_again (λ k. same_key k q) key (u == t) true (list_any (same_key q) (written_by locks u))
        (λ is f. listed_key key q (written_by locks u) (ap (λ j. list_any (same_key key) (written_by locks j)) (one_of u t is) ∙ e) (same_key_sym q key ∙ f))
    by false e = any_more (same_key q) locks.writes t key u ∙ (λ i. (same_as u t i && same_key_sym q key i) || list_any (same_key q) (written_by locks u))

reads_any : (ss : List Span) (q : List ℕ) → reads_key ss q ≡ list_any (λ s. span_has s q) ss
reads_any [] q = refl
reads_any (s ∷ ss) q = ap (λ b. span_has s q || b) (reads_any ss q)

spans_tied : (s r : Span) → same_span s r ≡ true → s ≡ r
spans_tied = tied spans_total spans_apart

listed_span : (span : Span) (q : List ℕ) (ss : List Span) → list_any (same_span span) ss ≡ true → span_has span q ≡ true → reads_key ss q ≡ true
listed_span span q [] h e = absurd (true≢false (sym h))
listed_span span q (s ∷ ss) h e = by (same_span span s) refl h (λ r. listed_span span q ss r e)
  where
    by : (b : Bool) → same_span span s ≡ b → (b || list_any (same_span span) ss) ≡ true → (list_any (same_span span) ss ≡ true → reads_key ss q ≡ true) → (span_has s q || reads_key ss q) ≡ true
    by true t f rest = ap (λ b. b || reads_key ss q) (ap (λ r. span_has r q) (sym (spans_tied span s t)) ∙ e)
    by false t f rest = ap (λ b. span_has s q || b) (rest f) ∙ or_true (span_has s q)

pub read_with : (locks : Locks) (t : ℕ) (span : Span) (u : ℕ) (q : List ℕ) → reads_key (read_by (with_read locks t span) u) q ≡ (((u == t) && span_has span q) || reads_key (read_by locks u) q)
read_with locks t span u q = by (list_any (same_span span) (read_by locks t)) refl
  where
    by : (b : Bool) → list_any (same_span span) (read_by locks t) ≡ b
        → reads_key (read_by (if b then locks else record locks { reads = put locks.reads t (read_by locks t ++ span ∷ []) }) u) q ≡ (((u == t) && span_has span q) || reads_key (read_by locks u) q)
    by true e = taken_again (λ s. span_has s q) span (u == t) true (reads_key (read_by locks u) q)
        (λ is f. listed_span span q (read_by locks u) (ap (λ j. list_any (same_span span) (read_by locks j)) (one_of u t is) ∙ e) f)
    by false e = reads_any (or_none (look (put locks.reads t (read_by locks t ++ span ∷ [])) u)) q ∙ any_more (λ s. span_has s q) locks.reads t span u
        ∙ (λ i. (same_as u t i && span_has span q) || sym (reads_any (read_by locks u) q) i)

gone_if : (a b L : Bool) → a ≡ b → cond a false L ≡ (not b && L)
gone_if true b L e = sym (ap (λ c. not c && L) (sym e))
gone_if false b L e = sym (ap (λ c. not c && L) (sym e))

pub written_without : (table : Table (List (List ℕ))) (t u : ℕ) (q : List ℕ) → list_any (same_key q) (or_none (look (without table t) u)) ≡ (not (u == t) && list_any (same_key q) (or_none (look table u)))
written_without table t u q = any_gone (same_key q) table t u ∙ gone_if (same_number u t) (u == t) _ (same_as u t)

pub read_without : (table : Table (List Span)) (t u : ℕ) (q : List ℕ) → reads_key (or_none (look (without table t) u)) q ≡ (not (u == t) && reads_key (or_none (look table u)) q)
read_without table t u q = reads_any (or_none (look (without table t) u)) q ∙ any_gone (λ s. span_has s q) table t u ∙ gone_if (same_number u t) (u == t) _ (same_as u t)
    ∙ ap (λ b. not (u == t) && b) (sym (reads_any (or_none (look table u)) q))

-- ---- what was written, by lists of keys and of changes
pub holds_key : (k : List ℕ) (ws : List Written) → writes_key ws k ≡ true → (span : Span) → span_has span k ≡ true → writes_within ws span ≡ true
holds_key k [] h span e = absurd (true≢false (sym h))
holds_key k (w ∷ ws) h span e = by (same_key w.key k) refl h (λ r. holds_key k ws r span e)
  where
    by : (b : Bool) → same_key w.key k ≡ b → (b || writes_key ws k) ≡ true → (writes_key ws k ≡ true → writes_within ws span ≡ true) → (span_has span w.key || writes_within ws span) ≡ true
    by true t f rest = ap (λ b. b || writes_within ws span) (ap (span_has span) (same_key_is w.key k t) ∙ e)
    by false t f rest = ap (λ b. span_has span w.key || b) (rest f) ∙ or_true (span_has span w.key)

record Within (test : List ℕ → Bool) (span : Span) : Type 0 where
  pub key : List ℕ
  pub there : test key ≡ true
  pub inside : span_has span key ≡ true

within_written : (ws : List Written) (span : Span) → writes_within ws span ≡ true → Within (writes_key ws) span
within_written [] span h = absurd (true≢false (sym h))
within_written (w ∷ ws) span h = by (span_has span w.key) refl h (within_written ws span)
  where
    by : (b : Bool) → span_has span w.key ≡ b → (b || writes_within ws span) ≡ true → (writes_within ws span ≡ true → Within (writes_key ws) span) → Within (writes_key (w ∷ ws)) span
    by true t f rest = record { key = w.key; there = ap (λ b. b || writes_key ws w.key) (same_key_refl w.key); inside = t }
    by false t f rest = let x = rest f in record { key = x.key; there = ap (λ b. same_key w.key x.key || b) x.there ∙ or_true (same_key w.key x.key); inside = x.inside }

within_keys : (ks : List (List ℕ)) (span : Span) → list_any (span_has span) ks ≡ true → Within (λ q. list_any (same_key q) ks) span
within_keys [] span h = absurd (true≢false (sym h))
within_keys (k ∷ ks) span h = by (span_has span k) refl h (within_keys ks span)
  where
    by : (b : Bool) → span_has span k ≡ b → (b || list_any (span_has span) ks) ≡ true → (list_any (span_has span) ks ≡ true → Within (λ q. list_any (same_key q) ks) span) → Within (λ q. list_any (same_key q) (k ∷ ks)) span
    by true t f rest = record { key = k; there = ap (λ b. b || list_any (same_key k) ks) (same_key_refl k); inside = t }
    by false t f rest = let x = rest f in record { key = x.key; there = ap (λ b. same_key x.key k || b) x.there ∙ or_true (same_key x.key k); inside = x.inside }

has_within : (ks : List (List ℕ)) (span : Span) (q : List ℕ) → list_any (same_key q) ks ≡ true → span_has span q ≡ true → list_any (span_has span) ks ≡ true
has_within [] span q h e = absurd (true≢false (sym h))
has_within (k ∷ ks) span q h e = by (same_key q k) refl h (λ r. has_within ks span q r e)
  where
    by : (b : Bool) → same_key q k ≡ b → (b || list_any (same_key q) ks) ≡ true → (list_any (same_key q) ks ≡ true → list_any (span_has span) ks ≡ true) → (span_has span k || list_any (span_has span) ks) ≡ true
    by true t f rest = ap (λ b. b || list_any (span_has span) ks) (ap (span_has span) (sym (same_key_is q k t)) ∙ e)
    by false t f rest = ap (λ b. span_has span k || b) (rest f) ∙ or_true (span_has span k)

pub within_alike : (ks : List (List ℕ)) (ws : List Written) (span : Span) → ((q : List ℕ) → list_any (same_key q) ks ≡ writes_key ws q) → list_any (span_has span) ks ≡ writes_within ws span
within_alike ks ws span same = both_ways _ _
    (λ e. let x = within_keys ks span e in holds_key x.key ws (sym (same x.key) ∙ x.there) span x.inside)
    (λ e. let x = within_written ws span e in has_within ks span x.key (same x.key ∙ x.there) x.inside)

-- ---- images laid back
abbrev pub slot_value : Option Slot → Option (List ℕ) → Option (List ℕ)
slot_value None v = v
slot_value (Some s) v = s.value

laid_step : (b : Bool) (s : Slot) (o : Option Slot) (v : Option (List ℕ)) → (b ≡ true → o ≡ None) → slot_value o (if b then s.value else v) ≡ slot_value (cond b (Some s) o) v
laid_step true s o v none = ap (λ p. slot_value p s.value) (none refl)
laid_step false s o v none = refl

pub get-laid_back : (m : Records) (es : List (List ℕ × Slot)) (q : List ℕ) → T (is_sorted key_cmp es) → get (laid_back m es) q ≡ slot_value (find key_cmp q es) (get m q)
get-laid_back m [] q h = refl
get-laid_back m (e ∷ es) q h =
    get-laid_back (with_change m e.0 e.1.value) es q (second _ _ h)
    ∙ ap (slot_value (find key_cmp q es)) (get-change m e.0 e.1.value q)
    ∙ laid_step (same_key q e.0) e.1 (find key_cmp q es) (get m q)
    (λ t. ap (λ k. find key_cmp k es) (same_key_is q e.0 t) ∙ nothing_below key_cmp e.0 es (first _ _ h))

pub get-undone : (m : Records) (images : Images) (q : List ℕ) → get (laid_back m (entries images)) q ≡ slot_value (get images q) (get m q)
get-undone m images q = get-laid_back m (entries images) q (entries_sorted images) ∙ ap (λ o. slot_value o (get m q)) (sym (get-entries images q))

number_below : (u : ℕ) (es : List (ℕ × Images)) → T (below_all nat_cmp u es) → find nat_cmp u es ≡ None
number_below u [] h = refl
number_below u (e ∷ es) h = ap (λ r. cond (is_eq r) (Some e.1) (find nat_cmp u es)) (less _ (first _ _ h)) ∙ number_below u es (second _ _ h)

-- every image of a key holds one value, and stands there or is to be laid back
settles : (v old : Option (List ℕ)) (o : Option Slot) → ((s : Slot) → o ≡ Some s → s.value ≡ v) → old ≡ v → slot_value o old ≡ v
settles v old None h e = e
settles v old (Some s) h e = h s refl

pub all_back : (es : List (ℕ × Images)) (m : Records) (q : List ℕ) (v : Option (List ℕ)) → ((u : ℕ) (images : Images) (s : Slot) → find nat_cmp u es ≡ Some images → get images q ≡ Some s → s.value ≡ v) → T (is_sorted nat_cmp es)
    → (get m q ≡ v) ⊎ (list_any (λ (e : ℕ × Images). contains_key e.1 q) es ≡ true) → get (all_laid_back m es) q ≡ v
all_back [] m q v h k (inl is) = is
all_back [] m q v h k (inr e) = absurd (true≢false (sym e))
all_back (f ∷ es) m q v h k now = all_back es (laid_back m (entries f.1)) q v (λ u images s is. h u images s (later u images is (same_number u f.0) refl)) (second _ _ k) (next now)
  where
    later : (u : ℕ) (images : Images) → find nat_cmp u es ≡ Some images → (b : Bool) → same_number u f.0 ≡ b → find nat_cmp u (f ∷ es) ≡ Some images
    later u images is true e = absurd (let g : None ≡ Some images = sym (number_below u es (subst (λ j. T (below_all nat_cmp j es)) (sym (one_number u f.0 e)) (first _ _ k))) ∙ is in cc)
    later u images is false e = ap (λ b. cond b (Some f.1) (find nat_cmp u es)) e ∙ is

    own : find nat_cmp f.0 (f ∷ es) ≡ Some f.1
    own = ap (λ b. cond b (Some f.1) (find nat_cmp f.0 es)) (number_itself f.0)

    by : (o : Option Slot) → get f.1 q ≡ o → (is_some o || list_any (λ (e : ℕ × Images). contains_key e.1 q) es) ≡ true → (get (laid_back m (entries f.1)) q ≡ v) ⊎ (list_any (λ (e : ℕ × Images). contains_key e.1 q) es ≡ true)
    by None is e = inr e
    by (Some s) is e = inl (get-undone m f.1 q ∙ ap (λ o. slot_value o (get m q)) is ∙ h f.0 f.1 s own is)

    next : (get m q ≡ v) ⊎ (list_any (λ (e : ℕ × Images). contains_key e.1 q) (f ∷ es) ≡ true) → (get (laid_back m (entries f.1)) q ≡ v) ⊎ (list_any (λ (e : ℕ × Images). contains_key e.1 q) es ≡ true)
    next (inl is) = inl (get-undone m f.1 q ∙ settles v (get m q) (get f.1 q) (λ s e. h f.0 f.1 s own e) is)
    next (inr e) = by (get f.1 q) refl e

nobody_has : (es : List (ℕ × Images)) (q : List ℕ) (u : ℕ) → list_any (λ (e : ℕ × Images). contains_key e.1 q) es ≡ false → get (or_nothing (find nat_cmp u es)) q ≡ None
nobody_has [] q u e = get-empty key_cmp q
nobody_has (f ∷ es) q u e = by (same_number u f.0) (get f.1 q) refl (nobody_has es q u (neither_right _ _ e))
  where
    by : (b : Bool) (o : Option Slot) → get f.1 q ≡ o → get (or_nothing (find nat_cmp u es)) q ≡ None → get (or_nothing (cond b (Some f.1) (find nat_cmp u es))) q ≡ None
    by true None is rest = is
    by true (Some s) is rest = absurd (true≢false (ap is_some (sym is) ∙ neither_left _ _ e))
    by false o is rest = rest

pub clean_by : (s : StoreState) (installed : Records) (wrote : ℕ → List ℕ → Bool) → ((u : ℕ) (q : List ℕ) → get (images_of s u) q ≡ (if wrote u q then Some (slot_of (get installed q)) else None))
    → ((q : List ℕ) → ((u : ℕ) → wrote u q ≡ false) → get s.now q ≡ get installed q) → clean_records s ≡ installed
clean_by s installed wrote images clean =
    same_map keys_total keys_apart (clean_records s) installed
    (λ q. all_back (entries s.undos) s.now q (get installed q) (λ u im slot is e. value_of q (wrote u q) slot (sym (images u q) ∙ ap (λ o. get (or_nothing o) q) (get-entries s.undos u ∙ is) ∙ e)) (entries_sorted s.undos)
    (by q (list_any (λ (e : ℕ × Images). contains_key e.1 q) (entries s.undos)) refl))
  where
    value_of : (q : List ℕ) (b : Bool) (slot : Slot) → (if b then Some (slot_of (get installed q)) else None) ≡ Some slot → slot.value ≡ get installed q
    value_of q true slot e = let f : Some (slot_of (get installed q)) ≡ Some slot = e in ap (λ o. slot_value o None) (sym f)
    value_of q false slot e = absurd (let f : None ≡ Some slot = e in cc)

    none_wrote : (q : List ℕ) (b : Bool) → (if b then Some (slot_of (get installed q)) else None) ≡ None → b ≡ false
    none_wrote q true e = absurd (let f : Some (slot_of (get installed q)) ≡ None = e in cc)
    none_wrote q false e = refl

    by : (q : List ℕ) (b : Bool) → list_any (λ (e : ℕ × Images). contains_key e.1 q) (entries s.undos) ≡ b → (get s.now q ≡ get installed q) ⊎ (list_any (λ (e : ℕ × Images). contains_key e.1 q) (entries s.undos) ≡ true)
    by q true e = inr e
    by q false e = inl (clean q (λ u. none_wrote q (wrote u q) (sym (images u q) ∙ ap (λ o. get (or_nothing o) q) (get-entries s.undos u) ∙ nobody_has (entries s.undos) q u e)))

-- a read lock is no write lock, and the other way round
pub writes_unread : (locks : Locks) (t : ℕ) (span : Span) (u : ℕ) (q : List ℕ) → list_any (same_key q) (written_by (with_read locks t span) u) ≡ list_any (same_key q) (written_by locks u)
writes_unread locks t span u q = by (list_any (same_span span) (read_by locks t))
  where
    by : (b : Bool) → list_any (same_key q) (written_by (if b then locks else record locks { reads = put locks.reads t (read_by locks t ++ span ∷ []) }) u) ≡ list_any (same_key q) (written_by locks u)
    by true = refl
    by false = refl

pub reads_unwritten : (locks : Locks) (t : ℕ) (key : List ℕ) (u : ℕ) (q : List ℕ) → reads_key (read_by (with_write locks t key) u) q ≡ reads_key (read_by locks u) q
reads_unwritten locks t key u q = by (list_any (same_key key) (written_by locks t))
  where
    by : (b : Bool) → reads_key (read_by (if b then locks else record locks { writes = put locks.writes t (written_by locks t ++ key ∷ []) }) u) q ≡ reads_key (read_by locks u) q
    by true = refl
    by false = refl
