-- What operations read and wrote, key by key.
use Rattle.std.proofs.Common.{◌≡◌, ℕ, Bool, true, false, ◌||◌, if◌then◌else◌, List, [], ◌∷◌, refl, sym, ap, ◌∙◌, subst}
use Rattle.std.specs.Ordering.{ordering_then}
use Rattle.std.specs.declared.cmp.Ordering.{Ordering}
use Rattle.std.specs.declared.cmp.Ordering.TheVariants.{Less, Equal, Greater}
use Rattle.std.specs.Ordering.{ordering_reverse}
use Rattle.std.proofs.lemmas.Cmp.{nat_list_cmp_total}
use Rattle.std.proofs.lemmas.Bool.{or_parts, or_from}
use Rattle.std.specs.FinMap.{get}
use Rattle.std.specs.FinMap.Entries.{by_order}
use Rattle.co_base.specs.Order.{key_cmp}
use Rattle.co_base.specs.Span.{Span, span_has, span_cmp}
use Rattle.co_base.specs.declared.written.Written.{Written}
use Rattle.co_serial.specs.Records.{Records, with_change, with_changes}
use Rattle.co_state.specs.Changes.{put_change, put_span}
use Rattle.co_state.specs.Keys.{same_key, writes_key, reads_key, reads_meet, writes_meet}
use Rattle.co_law_engine.proofs.Keys.{same_key_refl, same_key_sym, same_key_is, equal_keys, get-change, changes_agree, unchanged}

twice : (b c : Bool) → (b || c) ≡ (b || (b || c))
twice true c = refl
twice false c = refl

swapped : (a b c : Bool) → (a || (b || c)) ≡ (b || (a || c))
swapped true true c = refl
swapped true false c = refl
swapped false true c = refl
swapped false false c = refl

-- one more change, at each key
pub writes-put : (c : Written) (ws : List Written) (q : List ℕ) → writes_key (put_change c ws) q ≡ (same_key c.key q || writes_key ws q)
writes-put c [] q = refl
writes-put c (w ∷ ws) q = by (writes-put c ws q) (key_cmp c.key w.key) refl
  where
    by : writes_key (put_change c ws) q ≡ (same_key c.key q || writes_key ws q) → (r : Ordering) → key_cmp c.key w.key ≡ r →
        writes_key (put_change c (w ∷ ws)) q ≡ (same_key c.key q || (same_key w.key q || writes_key ws q))
    by rest Less e = ap (λ r. writes_key (by_order r (c ∷ w ∷ ws) (c ∷ ws) (w ∷ put_change c ws)) q) e
    by rest Equal e =
        ap (λ r. writes_key (by_order r (c ∷ w ∷ ws) (c ∷ ws) (w ∷ put_change c ws)) q) e
        ∙ twice (same_key c.key q) (writes_key ws q)
        ∙ ap (λ k. same_key c.key q || (same_key k q || writes_key ws q)) (equal_keys c.key w.key e)
    by rest Greater e =
        ap (λ r. writes_key (by_order r (c ∷ w ∷ ws) (c ∷ ws) (w ∷ put_change c ws)) q) e
        ∙ ap (λ b. same_key w.key q || b) rest ∙ swapped (same_key w.key q) (same_key c.key q) (writes_key ws q)

same_span : (s u : Span) → span_cmp s u ≡ Equal → s ≡ u
same_span s u h = by (key_cmp s.lo u.lo) refl h
  where
    by : (r : Ordering) → key_cmp s.lo u.lo ≡ r → ordering_then r (key_cmp s.hi u.hi) ≡ Equal → s ≡ u
    by Less e f = absurd (let q : Less ≡ Equal = f in cc)
    by Greater e f = absurd (let q : Greater ≡ Equal = f in cc)
    by Equal e f = λ i. record { lo = equal_keys s.lo u.lo e i; hi = equal_keys s.hi u.hi f i }

-- one more range
pub reads-put : (s : Span) (ss : List Span) (q : List ℕ) → reads_key (put_span s ss) q ≡ (span_has s q || reads_key ss q)
reads-put s [] q = refl
reads-put s (u ∷ ss) q = by (reads-put s ss q) (span_cmp s u) refl
  where
    by : reads_key (put_span s ss) q ≡ (span_has s q || reads_key ss q) → (r : Ordering) → span_cmp s u ≡ r →
        reads_key (put_span s (u ∷ ss)) q ≡ (span_has s q || (span_has u q || reads_key ss q))
    by rest Less e = ap (λ r. reads_key (by_order r (s ∷ u ∷ ss) (u ∷ ss) (u ∷ put_span s ss)) q) e
    by rest Equal e =
        ap (λ r. reads_key (by_order r (s ∷ u ∷ ss) (u ∷ ss) (u ∷ put_span s ss)) q) e
        ∙ twice (span_has u q) (reads_key ss q)
        ∙ ap (λ k. span_has k q || (span_has u q || reads_key ss q)) (sym (same_span s u e))
    by rest Greater e =
        ap (λ r. reads_key (by_order r (s ∷ u ∷ ss) (u ∷ ss) (u ∷ put_span s ss)) q) e
        ∙ ap (λ b. span_has u q || b) rest ∙ swapped (span_has u q) (span_has s q) (reads_key ss q)

-- changes in ascending order of their keys
abbrev pub Above : List ℕ → List Written → Type 0
Above k [] = Unit {0}
Above k (w ∷ ws) = (key_cmp k w.key ≡ Less) × Above k ws

abbrev pub Ascends : List Written → Type 0
Ascends [] = Unit {0}
Ascends (w ∷ ws) = Above w.key ws × Ascends ws

above_all : (j k : List ℕ) (ws : List Written) → key_cmp j k ≡ Less → Above k ws → Above j ws
above_all j k [] l a = tt
above_all j k (w ∷ ws) l a = (nat_list_cmp_total.trans j k w.key l a.0, above_all j k ws l a.1)

turned : (a b : List ℕ) → key_cmp a b ≡ Greater → key_cmp b a ≡ Less
turned a b e = nat_list_cmp_total.antisymm b a ∙ ap ordering_reverse e

not_same : (k j : List ℕ) → key_cmp k j ≡ Less → same_key j k ≡ false
not_same k j e = same_key_sym j k ∙ ap (λ r. is_eq' r) e
  where
    is_eq' : Ordering → Bool
    is_eq' Less = false
    is_eq' Equal = true
    is_eq' Greater = false

-- a key below all is not changed
pub above_unwritten : (k : List ℕ) (ws : List Written) → Above k ws → writes_key ws k ≡ false
above_unwritten k [] a = refl
above_unwritten k (w ∷ ws) a = or_from (same_key w.key k) (writes_key ws k) (not_same k w.key a.0) (above_unwritten k ws a.1)

above-put : (k : List ℕ) (c : Written) (ws : List Written) → key_cmp k c.key ≡ Less → Above k ws → Above k (put_change c ws)
above-put k c [] l a = (l, tt)
above-put k c (w ∷ ws) l a = by (above-put k c ws l a.1) (key_cmp c.key w.key) refl
  where
    by : Above k (put_change c ws) → (r : Ordering) → key_cmp c.key w.key ≡ r → Above k (put_change c (w ∷ ws))
    by rest Less e = subst (λ r. Above k (by_order r (c ∷ w ∷ ws) (c ∷ ws) (w ∷ put_change c ws))) (sym e) (l, a)
    by rest Equal e = subst (λ r. Above k (by_order r (c ∷ w ∷ ws) (c ∷ ws) (w ∷ put_change c ws))) (sym e) (l, a.1)
    by rest Greater e = subst (λ r. Above k (by_order r (c ∷ w ∷ ws) (c ∷ ws) (w ∷ put_change c ws))) (sym e) (a.0, rest)

pub ascends-put : (c : Written) (ws : List Written) → Ascends ws → Ascends (put_change c ws)
ascends-put c [] a = (tt, tt)
ascends-put c (w ∷ ws) a = by (ascends-put c ws a.1) (key_cmp c.key w.key) refl
  where
    by : Ascends (put_change c ws) → (r : Ordering) → key_cmp c.key w.key ≡ r → Ascends (put_change c (w ∷ ws))
    by rest Less e =
        subst (λ r. Ascends (by_order r (c ∷ w ∷ ws) (c ∷ ws) (w ∷ put_change c ws))) (sym e) ((e, above_all c.key w.key ws e a.0), a)
    by rest Equal e =
        subst (λ r. Ascends (by_order r (c ∷ w ∷ ws) (c ∷ ws) (w ∷ put_change c ws))) (sym e)
        (subst (λ k. Above k ws) (sym (equal_keys c.key w.key e)) a.0, a.1)
    by rest Greater e =
        subst (λ r. Ascends (by_order r (c ∷ w ∷ ws) (c ∷ ws) (w ∷ put_change c ws))) (sym e)
        (above-put w.key c ws (turned c.key w.key e) a.0, rest)

-- a change before others of other keys is as one behind them
front : (c : Written) (vs : List Written) (r : Records) (q : List ℕ) → writes_key vs c.key ≡ false →
    get (with_changes (with_change r c.key c.value) vs) q ≡ get (with_change (with_changes r vs) c.key c.value) q
front c vs r q h = by (same_key q c.key) refl
  where
    by : (b : Bool) → same_key q c.key ≡ b → get (with_changes (with_change r c.key c.value) vs) q ≡ get (with_change (with_changes r vs) c.key c.value) q
    by true e =
        unchanged vs (with_change r c.key c.value) q (ap (writes_key vs) (same_key_is q c.key e) ∙ h)
        ∙ get-change r c.key c.value q ∙ ap (λ b. if b then c.value else get r q) e
        ∙ sym (get-change (with_changes r vs) c.key c.value q ∙ ap (λ b. if b then c.value else get (with_changes r vs) q) e)
    by false e =
        changes_agree vs (with_change r c.key c.value) r q (get-change r c.key c.value q ∙ ap (λ b. if b then c.value else get r q) e)
        ∙ sym (get-change (with_changes r vs) c.key c.value q ∙ ap (λ b. if b then c.value else get (with_changes r vs) q) e)

change_twice : (c w : Written) (r : Records) (q : List ℕ) → c.key ≡ w.key → get (with_change r c.key c.value) q ≡ get (with_change (with_change r w.key w.value) c.key c.value) q
change_twice c w r q e = by (same_key q c.key) refl
  where
    by : (b : Bool) → same_key q c.key ≡ b → get (with_change r c.key c.value) q ≡ get (with_change (with_change r w.key w.value) c.key c.value) q
    by true f =
        get-change r c.key c.value q ∙ ap (λ b. if b then c.value else get r q) f
        ∙ sym (get-change (with_change r w.key w.value) c.key c.value q ∙ ap (λ b. if b then c.value else get (with_change r w.key w.value) q) f)
    by false f =
        get-change r c.key c.value q ∙ ap (λ b. if b then c.value else get r q) f
        ∙ sym (get-change (with_change r w.key w.value) c.key c.value q ∙ ap (λ b. if b then c.value else get (with_change r w.key w.value) q) f
        ∙ get-change r w.key w.value q ∙ ap (λ b. if b then w.value else get r q) (ap (same_key q) (sym e) ∙ f))

-- one more change is laid over the others
pub get-put : (c : Written) (ws : List Written) (r : Records) (q : List ℕ) → Ascends ws →
    get (with_changes r (put_change c ws)) q ≡ get (with_change (with_changes r ws) c.key c.value) q
get-put c [] r q a = refl
get-put c (w ∷ ws) r q a = by (get-put c ws (with_change r w.key w.value) q a.1) (key_cmp c.key w.key) refl
  where
    by : get (with_changes (with_change r w.key w.value) (put_change c ws)) q ≡ get (with_change (with_changes (with_change r w.key w.value) ws) c.key c.value) q →
        (o : Ordering) → key_cmp c.key w.key ≡ o →
        get (with_changes r (put_change c (w ∷ ws))) q ≡ get (with_change (with_changes r (w ∷ ws)) c.key c.value) q
    by rest Less e =
        ap (λ o. get (with_changes r (by_order o (c ∷ w ∷ ws) (c ∷ ws) (w ∷ put_change c ws))) q) e
        ∙ front c (w ∷ ws) r q (above_unwritten c.key (w ∷ ws) (e, above_all c.key w.key ws e a.0))
    by rest Equal e =
        ap (λ o. get (with_changes r (by_order o (c ∷ w ∷ ws) (c ∷ ws) (w ∷ put_change c ws))) q) e
        ∙ changes_agree ws (with_change r c.key c.value) (with_change (with_change r w.key w.value) c.key c.value) q (change_twice c w r q (equal_keys c.key w.key e))
        ∙ front c ws (with_change r w.key w.value) q (ap (writes_key ws) (equal_keys c.key w.key e) ∙ above_unwritten w.key ws a.0)
    by rest Greater e = ap (λ o. get (with_changes r (by_order o (c ∷ w ∷ ws) (c ∷ ws) (w ∷ put_change c ws))) q) e ∙ rest

-- where a read and a write do not meet
pub unread : (ss : List Span) (ws : List Written) (q : List ℕ) → reads_meet ss ws ≡ false → writes_key ws q ≡ true → reads_key ss q ≡ false
unread ss [] q h w = absurd (let f : false ≡ true = w in cc)
unread ss (v ∷ ws) q h w = by (unread ss ws q (or_parts (reads_key ss v.key) (reads_meet ss ws) h).1) (same_key v.key q) refl
  where
    by : (writes_key ws q ≡ true → reads_key ss q ≡ false) → (b : Bool) → same_key v.key q ≡ b → reads_key ss q ≡ false
    by rest true e = ap (reads_key ss) (sym (same_key_is v.key q e)) ∙ (or_parts (reads_key ss v.key) (reads_meet ss ws) h).0
    by rest false e = rest (sym (ap (λ b. b || writes_key ws q) e) ∙ w)

-- where two writes do not meet
pub unwritten : (ws vs : List Written) (q : List ℕ) → writes_meet ws vs ≡ false → writes_key vs q ≡ true → writes_key ws q ≡ false
unwritten ws [] q h w = absurd (let f : false ≡ true = w in cc)
unwritten ws (v ∷ vs) q h w = by (unwritten ws vs q (or_parts (writes_key ws v.key) (writes_meet ws vs) h).1) (same_key v.key q) refl
  where
    by : (writes_key vs q ≡ true → writes_key ws q ≡ false) → (b : Bool) → same_key v.key q ≡ b → writes_key ws q ≡ false
    by rest true e = ap (writes_key ws) (sym (same_key_is v.key q e)) ∙ (or_parts (writes_key ws v.key) (writes_meet ws vs) h).0
    by rest false e = rest (sym (ap (λ b. b || writes_key vs q) e) ∙ w)

pub meet_nowhere : (ws vs : List Written) → ((q : List ℕ) → writes_key vs q ≡ true → writes_key ws q ≡ false) → writes_meet ws vs ≡ false
meet_nowhere ws [] h = refl
meet_nowhere ws (v ∷ vs) h =
    or_from (writes_key ws v.key) (writes_meet ws vs)
    (h v.key (ap (λ b. b || writes_key vs v.key) (same_key_refl v.key)))
    (meet_nowhere ws vs (λ q w. h q (turn_right (same_key v.key q) (writes_key vs q) w)))
  where
    turn_right : (a b : Bool) → b ≡ true → (a || b) ≡ true
    turn_right true b e = refl
    turn_right false b e = e

-- writes meet either way
pub meet_turned : (ws vs : List Written) → writes_meet ws vs ≡ false → writes_meet vs ws ≡ false
meet_turned ws vs h = meet_nowhere vs ws (λ q w. by q (writes_key vs q) refl w)
  where
    by : (q : List ℕ) (b : Bool) → writes_key vs q ≡ b → writes_key ws q ≡ true → writes_key vs q ≡ false
    by q true e w = absurd (let f : false ≡ true = sym (unwritten ws vs q h e) ∙ w in cc)
    by q false e w = e
