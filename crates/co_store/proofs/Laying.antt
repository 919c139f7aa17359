-- What stands at keys, after images are laid back or slots are settled.
use Rattle.std.proofs.Common.{◌≡◌, T, ℕ, Bool, true, false, cond, ◌||◌, List, [], ◌∷◌, ◌++◌, if◌then◌else◌, Option, None, Some, is_some, refl, sym, ap, ◌∙◌, true≢false, length, arith}
use Rattle.std.specs.Ordering.{eq_by_cmp}
use Rattle.std.proofs.lemmas.Cmp.{nat_list_cmp_total}
use Rattle.std.specs.FinMap.{empty, get, insert, remove, contains_key, get-insert, get-remove}
use Rattle.std.specs.FinMap.Entries.{find, below_all, is_sorted}
use Rattle.co_base.specs.Order.{key_cmp}
use Rattle.co_base.specs.declared.row.Row.{Row}
use Rattle.co_serial.specs.Records.{Records, with_change}
use Rattle.co_store.specs.declared.slots.Slot.{Slot}
use Rattle.co_store.specs.Images.{Images, value_in, slot_of, restored, restored_all, settled, settled_all, slots_from}
use Rattle.co_store.specs.StoreState.{laid_back}
pub use Rattle.co_state.proofs.Ties.{first, second}
use Rattle.co_state.proofs.Ties.{nothing_below, tied_keys, key_ties-itself}

-- ---- keys that tie
abbrev pub ties : List ℕ → List ℕ → Bool
ties = eq_by_cmp key_cmp

pub tied : (q k : List ℕ) → ties q k ≡ true → q ≡ k
tied = tied_keys

pub ties-itself : (q : List ℕ) → ties q q ≡ true
ties-itself = key_ties-itself

-- ---- one key
value-cond : (b : Bool) (v : Option (List ℕ)) (o : Option Slot) → value_in (cond b (Some (slot_of v)) o) ≡ cond b v (value_in o)
value-cond true v o = refl
value-cond false v o = refl

value-gone : (b : Bool) (o : Option Slot) → value_in (cond b None o) ≡ cond b None (value_in o)
value-gone true o = refl
value-gone false o = refl

pub value-insert : (m : Images) (k : List ℕ) (v : Option (List ℕ)) (q : List ℕ) → value_in (get (insert m k (slot_of v)) q) ≡ cond (ties q k) v (value_in (get m q))
value-insert m k v q = ap value_in (get-insert nat_list_cmp_total m k (slot_of v) q) ∙ value-cond (ties q k) v (get m q)

pub get-with_change : (now : Records) (k : List ℕ) (v : Option (List ℕ)) (q : List ℕ) → get (with_change now k v) q ≡ cond (ties q k) v (get now q)
get-with_change now k None q = get-remove nat_list_cmp_total now k q
get-with_change now k (Some w) q = get-insert nat_list_cmp_total now k w q

some-cond : (b : Bool) (s : Slot) (o : Option Slot) → is_some (cond b (Some s) o) ≡ (b || is_some o)
some-cond true s o = refl
some-cond false s o = refl

pub contains-insert : (m : Images) (k : List ℕ) (s : Slot) (q : List ℕ) → contains_key (insert m k s) q ≡ (ties q k || contains_key m q)
contains-insert m k s q = ap is_some (get-insert nat_list_cmp_total m k s q) ∙ some-cond (ties q k) s (get m q)

value-restored : (m : Images) (k : List ℕ) (v : Option (List ℕ)) (q : List ℕ) → contains_key m k ≡ true → value_in (get (restored m k v) q) ≡ cond (ties q k) v (value_in (get m q))
value-restored m k None q there = ap value_in (get-remove nat_list_cmp_total m k q) ∙ value-gone (ties q k) (get m q)
value-restored m k (Some w) q there =
    ap (λ b. value_in (get (if b then insert m k (slot_of (Some w)) else m) q)) there ∙ value-insert m k (Some w) q

contains_gone : (b : Bool) (o : Option Slot) → b ≡ false → is_some (cond b None o) ≡ is_some o
contains_gone true o e = absurd (true≢false e)
contains_gone false o e = refl

contains-removed : (m : Images) (k q : List ℕ) → ties q k ≡ false → contains_key (remove m k) q ≡ contains_key m q
contains-removed m k q e = ap is_some (get-remove nat_list_cmp_total m k q) ∙ contains_gone (ties q k) (get m q) e

contains-replaced : (m : Images) (k : List ℕ) (s : Slot) (q : List ℕ) (b : Bool) → ties q k ≡ false → contains_key (if b then insert m k s else m) q ≡ contains_key m q
contains-replaced m k s q true e = contains-insert m k s q ∙ ap (λ b. b || contains_key m q) e
contains-replaced m k s q false e = refl

contains-restored : (m : Images) (k : List ℕ) (v : Option (List ℕ)) (q : List ℕ) → ties q k ≡ false → contains_key (restored m k v) q ≡ contains_key m q
contains-restored m k None q e = contains-removed m k q e
contains-restored m k (Some w) q e = contains-replaced m k (slot_of (Some w)) q (contains_key m k) e

-- ---- each key of a list
found_apart : (b : Bool) (s : Slot) (o : Option Slot) → cond b (Some s) o ≡ None → b ≡ false
found_apart true s o e = absurd (let f : Some s ≡ None = e in cc)
found_apart false s o e = refl

found_rest : (b : Bool) (s : Slot) (o : Option Slot) → cond b (Some s) o ≡ None → o ≡ None
found_rest true s o e = absurd (let f : Some s ≡ None = e in cc)
found_rest false s o e = e

-- keys that are not laid back keep their slots
pub contains-restored_all : (m : Images) (es : List (List ℕ × Slot)) (q : List ℕ) → find key_cmp q es ≡ None → contains_key (restored_all m es) q ≡ contains_key m q
contains-restored_all m [] q e = refl
contains-restored_all m (f ∷ es) q e =
    contains-restored_all (restored m f.0 f.1.value) es q (found_rest (ties q f.0) f.1 (find key_cmp q es) e)
    ∙ contains-restored m f.0 f.1.value q (found_apart (ties q f.0) f.1 (find key_cmp q es) e)

not_first : (q k : List ℕ) (es : List (List ℕ × Slot)) (b : Bool) → ties q k ≡ b → T (below_all key_cmp k es) → is_some (find key_cmp q es) ≡ true → b ≡ false
not_first q k es true t h there = absurd (true≢false (sym there ∙ ap is_some (ap (λ j. find key_cmp j es) (tied q k t) ∙ nothing_below key_cmp k es h)))
not_first q k es false t h there = refl

rest_there : (b : Bool) (s : Slot) (o : Option Slot) → is_some o ≡ true → is_some (cond b (Some s) o) ≡ true
rest_there true s o e = refl
rest_there false s o e = e

-- the values follow the records, where each key has a slot
pub restored_values : (m : Images) (now : Records) (es : List (List ℕ × Slot)) → T (is_sorted key_cmp es) → ((q : List ℕ) → get now q ≡ value_in (get m q))
    → ((q : List ℕ) → is_some (find key_cmp q es) ≡ true → contains_key m q ≡ true) → (q : List ℕ) → get (laid_back now es) q ≡ value_in (get (restored_all m es) q)
restored_values m now [] h same there q = same q
restored_values m now (e ∷ es) h same there q =
    let stands : contains_key m e.0 ≡ true = there e.0 (ap (λ b. is_some (cond b (Some e.1) (find key_cmp e.0 es))) (ties-itself e.0)) in
    restored_values (restored m e.0 e.1.value) (with_change now e.0 e.1.value) es (second _ _ h)
    (λ k. get-with_change now e.0 e.1.value k ∙ ap (cond (ties k e.0) e.1.value) (same k) ∙ sym (value-restored m e.0 e.1.value k stands))
    (λ k is. contains-restored m e.0 e.1.value k (not_first k e.0 es (ties k e.0) refl (first _ _ h) is)
    ∙ there k (rest_there (ties k e.0) e.1 (find key_cmp k es) is)) q

-- ---- settling
unset : (o : Option (List ℕ)) → is_some o ≡ false → o ≡ None
unset None e = refl
unset (Some v) e = absurd (true≢false e)

settled_by : (m : Images) (k q : List ℕ) (b : Bool) → is_some (value_in (get m k)) ≡ b → value_in (get (if b then m else remove m k) q) ≡ value_in (get m q)
settled_by m k q true e = refl
settled_by m k q false e = ap value_in (get-remove nat_list_cmp_total m k q) ∙ value-gone (ties q k) (get m q) ∙ by (ties q k) refl
  where
    by : (t : Bool) → ties q k ≡ t → cond t None (value_in (get m q)) ≡ value_in (get m q)
    by true t = sym (ap (λ j. value_in (get m j)) (tied q k t) ∙ unset (value_in (get m k)) e)
    by false t = refl

settled_stays : (m : Images) (k q : List ℕ) (b : Bool) → ties q k ≡ false → contains_key (if b then m else remove m k) q ≡ contains_key m q
settled_stays m k q true e = refl
settled_stays m k q false e = contains-removed m k q e

pub settled_values : (m : Images) (es : List (List ℕ × Slot)) (q : List ℕ) → value_in (get (settled_all m es) q) ≡ value_in (get m q)
settled_values m [] q = refl
settled_values m (e ∷ es) q = settled_values (settled m e.0) es q ∙ settled_by m e.0 q (is_some (value_in (get m e.0))) refl

pub contains-settled_all : (m : Images) (es : List (List ℕ × Slot)) (q : List ℕ) → find key_cmp q es ≡ None → contains_key (settled_all m es) q ≡ contains_key m q
contains-settled_all m [] q e = refl
contains-settled_all m (f ∷ es) q e =
    contains-settled_all (settled m f.0) es q (found_rest (ties q f.0) f.1 (find key_cmp q es) e)
    ∙ settled_stays m f.0 q (is_some (value_in (get m f.0))) (found_apart (ties q f.0) f.1 (find key_cmp q es) e)

-- ---- rows as slots, the last one first
abbrev pub slots_under : List Row → Images → Images
slots_under [] m = m
slots_under (r ∷ rs) m = insert (slots_under rs m) r.key (slot_of (Some r.value))

pub slots_under-push : (rs : List Row) (r : Row) (m : Images) → slots_under (rs ++ r ∷ []) m ≡ slots_under rs (insert m r.key (slot_of (Some r.value)))
slots_under-push [] r m = refl
slots_under-push (s ∷ rs) r m = ap (λ n. insert n s.key (slot_of (Some s.value))) (slots_under-push rs r m)

pub slots_under-empty : (rs : List Row) → slots_under rs empty ≡ slots_from rs
slots_under-empty [] = refl
slots_under-empty (r ∷ rs) = ap (λ m. insert m r.key (slot_of (Some r.value))) (slots_under-empty rs)

pub no_length : {A : Type 0} (xs : List A) → length xs ≡ 0 → xs ≡ []
no_length [] e = refl
no_length (x ∷ xs) e = absurd (omega arith)
