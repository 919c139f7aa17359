-- What one range or one change more meets.
use Rattle.std.proofs.Common.{◌≡◌, ℕ, Bool, true, false, ◌||◌, List, [], ◌∷◌, refl, sym, ap, ◌∙◌}
use Rattle.std.specs.List.{list_any}
use Rattle.std.specs.Ordering.{ordering_then}
use Rattle.std.specs.declared.cmp.Ordering.{Ordering}
use Rattle.std.specs.declared.cmp.Ordering.TheVariants.{Less, Equal, Greater}
use Rattle.std.specs.Cmp.{eq_by_cmp_equiv}
use Rattle.std.proofs.lemmas.Cmp.{nat_list_cmp_total}
use Rattle.std.specs.FinMap.Entries.{by_order}
use Rattle.std.specs.FinMap.{slice_cmp-IsAntisymmetric, nat_cmp-IsAntisymmetric}
use Rattle.co_base.specs.Order.{key_cmp}
use Rattle.co_base.specs.Span.{Span, span_has, span_cmp}
use Rattle.co_base.specs.declared.written.Written.{Written}
use Rattle.co_state.specs.Changes.{put_span, put_change}
use Rattle.co_state.specs.Keys.{same_key, reads_key, writes_key, writes_within, reads_meet, writes_meet}

ties-swap : (q k : List ℕ) → same_key q k ≡ same_key k q
ties-swap q k = (eq_by_cmp_equiv nat_list_cmp_total).symm q k

-- ---- bits
or-twice : (a b : Bool) → (a || b) ≡ (a || (a || b))
or-twice true b = refl
or-twice false b = refl

pub or-past : (a b c : Bool) → (a || (b || c)) ≡ (b || (a || c))
or-past true true c = refl
or-past true false c = refl
or-past false b c = refl

-- two by two
pub or-cross : (a b c d : Bool) → ((a || b) || (c || d)) ≡ ((a || c) || (b || d))
or-cross true b c d = refl
or-cross false b c d = or-past b c d

-- ---- one range more
equal_keys : (k q : List ℕ) → key_cmp k q ≡ Equal → k ≡ q
equal_keys = slice_cmp-IsAntisymmetric nat_cmp-IsAntisymmetric

same_span : (s u : Span) → span_cmp s u ≡ Equal → s ≡ u
same_span s u h = by (key_cmp s.lo u.lo) refl h
  where
    by : (r : Ordering) → key_cmp s.lo u.lo ≡ r → ordering_then r (key_cmp s.hi u.hi) ≡ Equal → s ≡ u
    by Less e f = absurd (let q : Less ≡ Equal = f in cc)
    by Greater e f = absurd (let q : Greater ≡ Equal = f in cc)
    by Equal e f = λ i. record { lo = equal_keys s.lo u.lo e i; hi = equal_keys s.hi u.hi f i }

put_any : (f : Span → Bool) (span s : Span) (ss rest : List Span) → (r : Ordering) → span_cmp span s ≡ r → list_any f rest ≡ (f span || list_any f ss)
    → list_any f (by_order r (span ∷ s ∷ ss) (s ∷ ss) (s ∷ rest)) ≡ (f span || list_any f (s ∷ ss))
put_any f span s ss rest Less e next = refl
put_any f span s ss rest Equal e next = or-twice (f s) (list_any f ss) ∙ ap (λ x. f x || list_any f (s ∷ ss)) (sym (same_span span s e))
put_any f span s ss rest Greater e next = ap (λ b. f s || b) next ∙ or-past (f s) (f span) (list_any f ss)

pub any-put : (f : Span → Bool) (span : Span) (spans : List Span) → list_any f (put_span span spans) ≡ (f span || list_any f spans)
any-put f span [] = refl
any-put f span (s ∷ ss) = put_any f span s ss (put_span span ss) (span_cmp span s) refl (any-put f span ss)

put_reads : (span s : Span) (ss : List Span) (key : List ℕ) (rest : List Span) → (r : Ordering) → span_cmp span s ≡ r → reads_key rest key ≡ (span_has span key || reads_key ss key)
    → reads_key (by_order r (span ∷ s ∷ ss) (s ∷ ss) (s ∷ rest)) key ≡ (span_has span key || reads_key (s ∷ ss) key)
put_reads span s ss key rest Less e next = refl
put_reads span s ss key rest Equal e next = or-twice (span_has s key) (reads_key ss key) ∙ ap (λ x. span_has x key || reads_key (s ∷ ss) key) (sym (same_span span s e))
put_reads span s ss key rest Greater e next = ap (λ b. span_has s key || b) next ∙ or-past (span_has s key) (span_has span key) (reads_key ss key)

pub reads_key-put : (span : Span) (spans : List Span) (key : List ℕ) → reads_key (put_span span spans) key ≡ (span_has span key || reads_key spans key)
reads_key-put span [] key = refl
reads_key-put span (s ∷ ss) key = put_reads span s ss key (put_span span ss) (span_cmp span s) refl (reads_key-put span ss key)

pub reads_meet-put : (span : Span) (spans : List Span) (ws : List Written) → reads_meet (put_span span spans) ws ≡ (writes_within ws span || reads_meet spans ws)
reads_meet-put span spans [] = refl
reads_meet-put span spans (w ∷ ws) =
    (λ i. reads_key-put span spans w.key i || reads_meet-put span spans ws i)
    ∙ or-cross (span_has span w.key) (reads_key spans w.key) (writes_within ws span) (reads_meet spans ws)

-- ---- one change more
put_read : (spans : List Span) (change w : Written) (ws rest : List Written) → (r : Ordering) → key_cmp change.key w.key ≡ r → reads_meet spans rest ≡ (reads_key spans change.key || reads_meet spans ws)
    → reads_meet spans (by_order r (change ∷ w ∷ ws) (change ∷ ws) (w ∷ rest)) ≡ (reads_key spans change.key || reads_meet spans (w ∷ ws))
put_read spans change w ws rest Less e next = refl
put_read spans change w ws rest Equal e next =
    or-twice (reads_key spans change.key) (reads_meet spans ws) ∙ ap (λ k. reads_key spans change.key || (reads_key spans k || reads_meet spans ws)) (equal_keys change.key w.key e)
put_read spans change w ws rest Greater e next = ap (λ b. reads_key spans w.key || b) next ∙ or-past (reads_key spans w.key) (reads_key spans change.key) (reads_meet spans ws)

pub reads_meet-change : (spans : List Span) (change : Written) (ws : List Written) → reads_meet spans (put_change change ws) ≡ (reads_key spans change.key || reads_meet spans ws)
reads_meet-change spans change [] = refl
reads_meet-change spans change (w ∷ ws) = put_read spans change w ws (put_change change ws) (key_cmp change.key w.key) refl (reads_meet-change spans change ws)

put_wrote : (vs : List Written) (change w : Written) (ws rest : List Written) → (r : Ordering) → key_cmp change.key w.key ≡ r → writes_meet vs rest ≡ (writes_key vs change.key || writes_meet vs ws)
    → writes_meet vs (by_order r (change ∷ w ∷ ws) (change ∷ ws) (w ∷ rest)) ≡ (writes_key vs change.key || writes_meet vs (w ∷ ws))
put_wrote vs change w ws rest Less e next = refl
put_wrote vs change w ws rest Equal e next =
    or-twice (writes_key vs change.key) (writes_meet vs ws) ∙ ap (λ k. writes_key vs change.key || (writes_key vs k || writes_meet vs ws)) (equal_keys change.key w.key e)
put_wrote vs change w ws rest Greater e next = ap (λ b. writes_key vs w.key || b) next ∙ or-past (writes_key vs w.key) (writes_key vs change.key) (writes_meet vs ws)

pub writes_meet-change : (vs : List Written) (change : Written) (ws : List Written) → writes_meet vs (put_change change ws) ≡ (writes_key vs change.key || writes_meet vs ws)
writes_meet-change vs change [] = refl
writes_meet-change vs change (w ∷ ws) = put_wrote vs change w ws (put_change change ws) (key_cmp change.key w.key) refl (writes_meet-change vs change ws)

-- the same seen from the other side
put_key : (change w : Written) (ws rest : List Written) (key : List ℕ) → (r : Ordering) → key_cmp change.key w.key ≡ r → writes_key rest key ≡ (same_key change.key key || writes_key ws key)
    → writes_key (by_order r (change ∷ w ∷ ws) (change ∷ ws) (w ∷ rest)) key ≡ (same_key change.key key || writes_key (w ∷ ws) key)
put_key change w ws rest key Less e next = refl
put_key change w ws rest key Equal e next =
    or-twice (same_key change.key key) (writes_key ws key) ∙ ap (λ k. same_key change.key key || (same_key k key || writes_key ws key)) (equal_keys change.key w.key e)
put_key change w ws rest key Greater e next = ap (λ b. same_key w.key key || b) next ∙ or-past (same_key w.key key) (same_key change.key key) (writes_key ws key)

pub writes_key-put : (change : Written) (ws : List Written) (key : List ℕ) → writes_key (put_change change ws) key ≡ (same_key change.key key || writes_key ws key)
writes_key-put change [] key = refl
writes_key-put change (w ∷ ws) key = put_key change w ws (put_change change ws) key (key_cmp change.key w.key) refl (writes_key-put change ws key)

pub change-writes_meet : (change : Written) (ws vs : List Written) → writes_meet (put_change change ws) vs ≡ (writes_key vs change.key || writes_meet ws vs)
change-writes_meet change ws [] = refl
change-writes_meet change ws (v ∷ vs) =
    (λ i. (writes_key-put change ws v.key ∙ ap (λ b. b || writes_key ws v.key) (ties-swap change.key v.key)) i || change-writes_meet change ws vs i)
    ∙ or-cross (same_key v.key change.key) (writes_key ws v.key) (writes_key vs change.key) (writes_meet ws vs)
