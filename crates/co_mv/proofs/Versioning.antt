-- The versions of a key: each is overwritten by the install that wrote the next one.
use Rattle.std.proofs.Common.{◌≡◌, ◌⊎◌, inl, inr, T, ℕ, suc, ◌<◌, ◌≤◌, Bool, true, false, cond, ◌&&◌, ◌||◌, List, [], ◌∷◌, filter, length, if◌then◌else◌, is_some, Option, None, Some, refl, sym, ap, ◌∙◌, subst, true≢false, eqb→eq, eq-eqb, arith}
use Rattle.std.specs.Prelude.{◌==◌, nat_lt, nat_le}
use Rattle.std.proofs.lemmas.Bool.Decides.{nat_tests}
use Rattle.std.specs.FinMap.{get, get-insert, get-remove}
use Rattle.std.specs.Cmp.{eq_by_cmp_equiv}
use Rattle.std.proofs.lemmas.Cmp.{nat_list_cmp_total}
use Rattle.co_base.specs.declared.written.Written.{Written}
use Rattle.co_serial.specs.Records.{Records, with_change, with_changes}
use Rattle.co_state.specs.declared.engine_state.Install.{Install}
use Rattle.co_state.specs.EngineState.{records_at, records_now}
use Rattle.co_state.specs.Keys.{same_key, writes_key}
use Rattle.co_mv.specs.declared.version.Version.{Version}
use Rattle.co_mv.specs.Kept.{wrote_at}
use Rattle.co_mv.specs.Versions.{later, last_change, base_versions, closed_by, closed, written_over, versions_of, is_before, sees, seen_value}

pub le_true : (n m : ℕ) → n ≤ m → nat_le n m ≡ true
le_true n m h = grind (arith, nat_tests)

pub true_le : (n m : ℕ) → nat_le n m ≡ true → n ≤ m
true_le n m h = grind (arith, nat_tests)

pub lt_true : (n m : ℕ) → n < m → nat_lt n m ≡ true
lt_true n m h = grind (arith, nat_tests)

pub true_lt : (n m : ℕ) → nat_lt n m ≡ true → n < m
true_lt n m h = grind (arith, nat_tests)

pub lt_false : (n m : ℕ) → m ≤ n → nat_lt n m ≡ false
lt_false n m h = grind (arith, nat_tests)

pub le_false : (n m : ℕ) → m < n → nat_le n m ≡ false
le_false n m h = grind (arith, nat_tests)

pub same_itself : (n : ℕ) → (n == n) ≡ true
same_itself n = eq-eqb n n refl

pub and-false : (b : Bool) → (b && false) ≡ false
and-false true = refl
and-false false = refl

pub or-true : (b : Bool) → (b || true) ≡ true
or-true true = refl
or-true false = refl

pub and_first : (a b : Bool) → (a && b) ≡ true → a ≡ true
and_first true b e = refl
and_first false b e = absurd (true≢false (sym e))

pub and_second : (a b : Bool) → (a && b) ≡ true → b ≡ true
and_second true b e = e
and_second false b e = absurd (true≢false (sym e))

-- ---- which installs wrote a key
bound_step : (b w r : Bool) (n m : ℕ) → (n == suc m) ≡ b → ((b && w) || r) ≡ true → (r ≡ true → n ≤ m) → n ≤ suc m
bound_step true w r n m is e f = let x : n ≡ suc m = eqb→eq n (suc m) (subst T (sym is) tt) in omega (arith, x)
bound_step false w r n m is e f = let y : n ≤ m = f e in omega (arith, y)

pub wrote_bound : (is : List Install) (n : ℕ) (key : List ℕ) → wrote_at is n key ≡ true → n ≤ length is
wrote_bound [] n key e = absurd (true≢false (sym e))
wrote_bound (i ∷ is) n key e = bound_step (n == suc (length is)) (writes_key i.writes key) (wrote_at is n key) n (length is) refl e (wrote_bound is n key)

-- a number of which a version is written: that of an install that wrote the key, or 0
abbrev pub IsWritten : List Install → List ℕ → ℕ → Type 0
IsWritten is key n = (n ≡ 0) ⊎ (wrote_at is n key ≡ true)

pub written_bound : (is : List Install) (key : List ℕ) (n : ℕ) → IsWritten is key n → n ≤ length is
written_bound is key n (inl z) = omega (arith, z)
written_bound is key n (inr e) = wrote_bound is n key e

written_later : (i : Install) (is : List Install) (key : List ℕ) (n : ℕ) → IsWritten is key n → IsWritten (i ∷ is) key n
written_later i is key n (inl z) = inl z
written_later i is key n (inr e) = inr (ap (λ b. ((n == suc (length is)) && writes_key i.writes key) || b) e ∙ or-true _)

abbrev pub EndWritten : List Install → List ℕ → Option ℕ → Type 0
EndWritten is key None = Unit {0}
EndWritten is key (Some n) = IsWritten is key n

end_later : (i : Install) (is : List Install) (key : List ℕ) (end : Option ℕ) → EndWritten is key end → EndWritten (i ∷ is) key end
end_later i is key None e = tt
end_later i is key (Some n) e = written_later i is key n e

pub record IsLink (is : List Install) (key : List ℕ) (end : Option ℕ) (v : Version) : Type 0 where
  pub ended : v.overwritten ≡ end
  pub begun : IsWritten is key v.written
  pub before : is_before v.written end ≡ true
  pub end_begun : EndWritten is key end

abbrev pub Linked : List Install → List ℕ → Option ℕ → List Version → Type 0
Linked is key end [] = Unit {0}
Linked is key end (v ∷ vs) = IsLink is key end v × Linked is key (Some v.written) vs

linked_later : (i : Install) (is : List Install) (key : List ℕ) (end : Option ℕ) (vs : List Version) → Linked is key end vs → Linked (i ∷ is) key end vs
linked_later i is key end [] l = tt
linked_later i is key end (v ∷ vs) l = (record { ended = l.0.ended; begun = written_later i is key v.written l.0.begun; before = l.0.before; end_begun = end_later i is key end l.0.end_begun }, linked_later i is key (Some v.written) vs l.1)

-- ---- the last change of a key
change_step : {X : Type 0} (b r : Bool) (o : Option X) (x : X) → r ≡ is_some o → (b || r) ≡ is_some (later o (if b then Some x else None))
change_step true r None x e = refl
change_step true r (Some y) x e = refl
change_step false r None x e = e
change_step false r (Some y) x e = e

pub writes-change : (ws : List Written) (key : List ℕ) → writes_key ws key ≡ is_some (last_change ws key)
writes-change [] key = refl
writes-change (w ∷ ws) key = change_step (same_key w.key key) (writes_key ws key) (last_change ws key) w.value (writes-change ws key)

abbrev pub value_or : Option (Option (List ℕ)) → Option (List ℕ) → Option (List ℕ)
value_or None old = old
value_or (Some value) old = value

pub get-with_change : (now : Records) (k : List ℕ) (v : Option (List ℕ)) (q : List ℕ) → get (with_change now k v) q ≡ cond (same_key q k) v (get now q)
get-with_change now k None q = get-remove nat_list_cmp_total now k q
get-with_change now k (Some w) q = get-insert nat_list_cmp_total now k w q

or_step : (b : Bool) (o : Option (Option (List ℕ))) (v old : Option (List ℕ)) → value_or o (cond b v old) ≡ value_or (later o (if b then Some v else None)) old
or_step true None v old = refl
or_step true (Some y) v old = refl
or_step false None v old = refl
or_step false (Some y) v old = refl

pub key_symm : (q k : List ℕ) → same_key q k ≡ same_key k q
key_symm q k = (eq_by_cmp_equiv nat_list_cmp_total).symm q k

pub get-with_changes : (now : Records) (ws : List Written) (q : List ℕ) → get (with_changes now ws) q ≡ value_or (last_change ws q) (get now q)
get-with_changes now [] q = refl
get-with_changes now (w ∷ ws) q =
    get-with_changes (with_change now w.key w.value) ws q
    ∙ ap (value_or (last_change ws q)) (get-with_change now w.key w.value q ∙ ap (λ b. cond b w.value (get now q)) (key_symm q w.key))
    ∙ or_step (same_key w.key q) (last_change ws q) w.value (get now q)

-- ---- all versions
linked_closed : (is js : List Install) (key : List ℕ) (n : ℕ) (vs : List Version) → length is < n → IsWritten js key n → ((m : ℕ) → IsWritten is key m → IsWritten js key m) → Linked is key None vs → Linked js key (Some n) (closed n vs)
linked_closed is js key n [] h w f l = tt
linked_closed is js key n (v ∷ vs) h w f l =
    let b : v.written ≤ length is = written_bound is key v.written l.0.begun in
    (record { ended = ap (closed_by n) l.0.ended; begun = f v.written l.0.begun; before = lt_true v.written n (omega (arith, b, h)); end_begun = w }, carried (Some v.written) vs l.1)
  where
    carried_end : (end : Option ℕ) → EndWritten is key end → EndWritten js key end
    carried_end None e = tt
    carried_end (Some m) e = f m e

    carried : (end : Option ℕ) (us : List Version) → Linked is key end us → Linked js key end us
    carried end [] l = tt
    carried end (u ∷ us) l = (record { ended = l.0.ended; begun = f u.written l.0.begun; before = l.0.before; end_begun = carried_end end l.0.end_begun }, carried (Some u.written) us l.1)

linked_base : (key : List ℕ) (o : Option (List ℕ)) → Linked [] key None (base_versions o)
linked_base key None = tt
linked_base key (Some value) = (record { ended = refl; begun = inl refl; before = refl; end_begun = tt }, tt)

linked_over : (i : Install) (is : List Install) (key : List ℕ) (vs : List Version) (o : Option (Option (List ℕ))) → last_change i.writes key ≡ o → Linked is key None vs
    → Linked (i ∷ is) key None (written_over (suc (length is)) o vs)
linked_over i is key vs None e l = linked_later i is key None vs l
linked_over i is key vs (Some value) e l =
    let w : IsWritten (i ∷ is) key (suc (length is)) = inr (λ j. (same_itself (suc (length is)) j && (writes-change i.writes key ∙ ap is_some e) j) || wrote_at is (suc (length is)) key) in
    (record { ended = refl; begun = w; before = refl; end_begun = tt }, linked_closed is (i ∷ is) key (suc (length is)) vs (omega arith) w (written_later i is key) l)

pub linked : (base : Records) (is : List Install) (key : List ℕ) → Linked is key None (versions_of base is key)
linked base [] key = linked_base key (get base key)
linked base (i ∷ is) key = linked_over i is key (versions_of base is key) (last_change i.writes key) refl (linked base is key)

-- ---- what a number of installs sees
abbrev pub seen_if : Bool → Version → Option (List ℕ) → Option (List ℕ)
seen_if b v other = if b then v.value else other

ended_before : (n m : ℕ) (v : Version) → v.overwritten ≡ Some m → m ≤ n → sees n v ≡ false
ended_before n m v e h = ap (λ o. nat_le v.written n && is_before n o) e ∙ ap (λ b. nat_le v.written n && b) (lt_false n m h) ∙ and-false (nat_le v.written n)

-- no version that was overwritten before is seen
pub unseen : (is : List Install) (key : List ℕ) (n m : ℕ) (vs : List Version) → m ≤ n → Linked is key (Some m) vs → seen_value n vs ≡ None
unseen is key n m [] h l = refl
unseen is key n m (v ∷ vs) h l =
    let b : v.written < m = true_lt v.written m l.0.before in
    ap (λ b. seen_if b v (seen_value n vs)) (ended_before n m v l.0.ended h) ∙ unseen is key n v.written vs (omega (arith, b, h)) l.1

kept_step : (n : ℕ) (k : Version → Bool) (v : Version) (vs : List Version) (a b : Bool) → k v ≡ a → sees n v ≡ b → seen_value n (filter k vs) ≡ seen_value n vs → (sees n v ≡ true → k v ≡ false → v.value ≡ seen_value n vs)
    → seen_value n (cond a (v ∷ filter k vs) (filter k vs)) ≡ seen_if b v (seen_value n vs)
kept_step n k v vs true b e f rest none = (λ i. seen_if (f i) v (rest i))
kept_step n k v vs false true e f rest none = rest ∙ sym (none f e)
kept_step n k v vs false false e f rest none = rest

-- what is left out has no value, where it is seen
pub seen_kept : (is : List Install) (key : List ℕ) (k : Version → Bool) (n : ℕ) (end : Option ℕ) (vs : List Version) → Linked is key end vs
    → ((v : Version) → sees n v ≡ true → k v ≡ false → v.value ≡ None) → seen_value n (filter k vs) ≡ seen_value n vs
seen_kept is key k n end [] l none = refl
seen_kept is key k n end (v ∷ vs) l none =
    kept_step n k v vs (k v) (sees n v) refl refl (seen_kept is key k n (Some v.written) vs l.1 none)
    (λ f e. none v f e ∙ sym (unseen is key n v.written vs (true_le v.written n (and_first (nat_le v.written n) (is_before n v.overwritten) f)) l.1))

seen_base : (n : ℕ) (o : Option (List ℕ)) → seen_value n (base_versions o) ≡ o
seen_base n None = refl
seen_base n (Some value) = ap (λ b. if (b && true) then Some value else None) (le_true 0 n (omega arith))

head_seen : (n m : ℕ) (value : Option (List ℕ)) (vs : List Version) → m ≤ n → seen_value n (record { written = m; overwritten = None; value = value } ∷ vs) ≡ value
head_seen n m value vs h = ap (λ b. if (b && true) then value else seen_value n vs) (le_true m n h)

head_unseen : (n m : ℕ) (value : Option (List ℕ)) (vs : List Version) → n < m → seen_value n (record { written = m; overwritten = None; value = value } ∷ vs) ≡ seen_value n vs
head_unseen n m value vs h = ap (λ b. if (b && true) then value else seen_value n vs) (le_false m n h)

seen_over : (n m : ℕ) (o : Option (Option (List ℕ))) (vs : List Version) → m ≤ n → seen_value n (written_over m o vs) ≡ value_or o (seen_value n vs)
seen_over n m None vs h = refl
seen_over n m (Some value) vs h = head_seen n m value (closed m vs) h

pub seen_now : (base : Records) (is : List Install) (key : List ℕ) (n : ℕ) → length is ≤ n → seen_value n (versions_of base is key) ≡ get (records_now base is) key
seen_now base [] key n h = seen_base n (get base key)
seen_now base (i ∷ is) key n h =
    seen_over n (suc (length is)) (last_change i.writes key) (versions_of base is key) h
    ∙ ap (value_or (last_change i.writes key)) (seen_now base is key n (omega (arith, h)))
    ∙ sym (get-with_changes (records_now base is) i.writes key)

before_closed : (n m : ℕ) (o : Option ℕ) → n < m → is_before n (closed_by m o) ≡ is_before n o
before_closed n m None h = lt_true n m h
before_closed n m (Some end) h = refl

seen_closed : (n m : ℕ) (vs : List Version) → n < m → seen_value n (closed m vs) ≡ seen_value n vs
seen_closed n m [] h = refl
seen_closed n m (v ∷ vs) h = ap (λ b. seen_if (nat_le v.written n && b) v (seen_value n vs)) (before_closed n m v.overwritten h)

unseen_over : (n m : ℕ) (o : Option (Option (List ℕ))) (vs : List Version) → n < m → seen_value n (written_over m o vs) ≡ seen_value n vs
unseen_over n m None vs h = refl
unseen_over n m (Some value) vs h = head_unseen n m value (closed m vs) h ∙ seen_closed n m vs h

at_step : (base : Records) (i : Install) (is : List Install) (key : List ℕ) (n : ℕ) (b : Bool) → nat_lt (length is) n ≡ b → seen_value n (versions_of base is key) ≡ get (records_at base is n) key
    → seen_value n (versions_of base (i ∷ is) key) ≡ get (if b then records_now base (i ∷ is) else records_at base is n) key
at_step base i is key n true e rest = let h : length is < n = true_lt (length is) n e in seen_now base (i ∷ is) key n (omega (arith, h))
at_step base i is key n false e rest =
    let h : n < suc (length is) = grind (arith, nat_tests) in
    unseen_over n (suc (length is)) (last_change i.writes key) (versions_of base is key) h ∙ rest

-- at each number of installs the versions have what the records then had
pub seen_at : (base : Records) (is : List Install) (key : List ℕ) (n : ℕ) → seen_value n (versions_of base is key) ≡ get (records_at base is n) key
seen_at base [] key n = seen_base n (get base key)
seen_at base (i ∷ is) key n = at_step base i is key n (nat_lt (length is) n) refl (seen_at base is key n)
