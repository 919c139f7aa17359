-- For which plain states a store stands after each call.
use Rattle.std.proofs.Common.{◌≡◌, ◌≢◌, T, ℕ, Bool, true, false, cond, ◌||◌, List, [], ◌∷◌, if◌then◌else◌, Option, None, Some, is_some, refl, sym, ap, ◌∙◌, subst, true≢false}
use Rattle.std.specs.Ordering.{nat_cmp, eq_by_cmp, is_eq}
use Rattle.std.specs.declared.cmp.Ordering.{Ordering}
use Rattle.std.specs.declared.cmp.Ordering.TheVariants.{Less, Equal, Greater}
use Rattle.std.specs.Cmp.{nat_cmp_total, eq_by_cmp_equiv}
use Rattle.std.specs.FinMap.{empty, entries, entries_sorted, get, get-entries, get-empty, insert, contains_key, nat_cmp-IsAntisymmetric}
use Rattle.std.specs.FinMap.Entries.{find}
use Rattle.co_base.specs.Order.{key_cmp}
use Rattle.co_base.specs.declared.row.Row.{Row}
use Rattle.co_serial.specs.Records.{Records}
use Rattle.co_state.specs.Effects.{records_from}
use Rattle.co_state.specs.Table.{Table, no_entries, look, put, without}
use Rattle.co_state.proofs.Tables.{look-put, look-without}
use Rattle.co_store.specs.declared.slots.Slot.{Slot}
use Rattle.co_store.specs.Images.{Images, value_in, slot_of, restored_all, settled_all, or_nothing, with_image, slots_from}
use Rattle.co_store.specs.StoreState.{StoreState, state_of_rows, images_of, IsFree, with_put, with_undone, with_kept}
use Rattle.co_store.specs.Shown.{AreShown}
use Rattle.co_store.proofs.Laying.{ties, tied, value-insert, get-with_change, contains-insert, restored_values, contains-restored_all, settled_values, contains-settled_all}

number_tie : (r : Ordering) → is_eq r ≡ true → r ≡ Equal
number_tie Less e = absurd (subst T (sym e) tt)
number_tie Equal e = refl
number_tie Greater e = absurd (subst T (sym e) tt)

abbrev pub same_number : ℕ → ℕ → Bool
same_number = eq_by_cmp nat_cmp

one_number : (u t : ℕ) → same_number u t ≡ true → u ≡ t
one_number u t e = nat_cmp-IsAntisymmetric u t (number_tie (nat_cmp u t) e)

other_number : (u t : ℕ) → same_number u t ≡ false → u ≢ t
other_number u t e is = true≢false (sym (subst (λ j. same_number u j ≡ true) is ((eq_by_cmp_equiv nat_cmp_total).refl u)) ∙ e)

nothing_there : (key : List ℕ) → contains_key (empty {X = Slot} {R = key_cmp}) key ≡ false
nothing_there key = ap is_some (get-empty key_cmp key)

-- ---- the start
nothing_kept : (t : ℕ) → or_nothing (look (no_entries {X = Images}) t) ≡ empty
nothing_kept t = ap or_nothing (get-empty nat_cmp t)

row_values : (rs : List Row) (key : List ℕ) → get (records_from rs) key ≡ value_in (get (slots_from rs) key)
row_values [] key = get-empty key_cmp key ∙ sym (ap value_in (get-empty key_cmp key))
row_values (r ∷ rs) key =
    get-with_change (records_from rs) r.key (Some r.value) key ∙ ap (cond (ties key r.key) (Some r.value)) (row_values rs key)
    ∙ sym (value-insert (slots_from rs) r.key (Some r.value) key)

none_kept : (t : ℕ) (key : List ℕ) → contains_key (or_nothing (look (no_entries {X = Images}) t)) key ≡ false
none_kept t key = ap (λ m. contains_key m key) (nothing_kept t) ∙ nothing_there key

pub shown_rows : (rs : List Row) → AreShown (slots_from rs) no_entries (state_of_rows rs)
shown_rows rs = record {
  values_are = row_values rs;
  undos_are = refl;
  slots_stand = λ t key e. absurd (true≢false (sym e ∙ none_kept t key));
  are_apart = λ t u key other e. none_kept u key;
}

-- ---- a transaction ends
gone_images : (s : StoreState) (t u : ℕ) → or_nothing (look (without s.undos t) u) ≡ cond (same_number u t) empty (images_of s u)
gone_images s t u = ap or_nothing (look-without s.undos t u) ∙ by (same_number u t) (look s.undos u)
  where
    by : (b : Bool) (o : Option Images) → or_nothing (cond b None o) ≡ cond b empty (or_nothing o)
    by true o = refl
    by false o = refl

still_kept : (s : StoreState) (t u : ℕ) (key : List ℕ) (b : Bool) → same_number u t ≡ b → contains_key (cond b empty (images_of s u)) key ≡ true → (u ≢ t) × (contains_key (images_of s u) key ≡ true)
still_kept s t u key true e h = absurd (true≢false (sym h ∙ nothing_there key))
still_kept s t u key false e h = (other_number u t e, h)

kept_after : (s : StoreState) (t u : ℕ) (key : List ℕ) → contains_key (or_nothing (look (without s.undos t) u)) key ≡ true → (u ≢ t) × (contains_key (images_of s u) key ≡ true)
kept_after s t u key h = still_kept s t u key (same_number u t) refl (ap (λ m. contains_key m key) (sym (gone_images s t u)) ∙ h)

not_kept : (s : StoreState) (t u : ℕ) (key : List ℕ) (b : Bool) → contains_key (images_of s u) key ≡ false → contains_key (cond b empty (images_of s u)) key ≡ false
not_kept s t u key true h = nothing_there key
not_kept s t u key false h = h

not_found : (m : Images) (key : List ℕ) → contains_key m key ≡ false → find key_cmp key (entries m) ≡ None
not_found m key e = by (find key_cmp key (entries m)) (sym (ap is_some (get-entries m key)) ∙ e)
  where
    by : (o : Option Slot) → is_some o ≡ false → o ≡ None
    by None e = refl
    by (Some x) e = absurd (true≢false e)

ends : (slots next : Images) (s : StoreState) (t : ℕ) (now : Records) → AreShown slots s.undos s → ((key : List ℕ) → get now key ≡ value_in (get next key))
    → ((key : List ℕ) → find key_cmp key (entries (images_of s t)) ≡ None → contains_key next key ≡ contains_key slots key)
    → AreShown next (without s.undos t) (record { now = now; undos = without s.undos t })
ends slots next s t now h values others = record {
  values_are = values;
  undos_are = refl;
  slots_stand = λ u key e.
      let k = kept_after s t u key e in
      others key (not_found (images_of s t) key (h.are_apart u t key (λ is. k.0 (sym is)) k.1)) ∙ h.slots_stand u key k.1;
  are_apart = λ u v key other e.
      let k = kept_after s t u key e in
      ap (λ m. contains_key m key) (gone_images s t v) ∙ not_kept s t v key (same_number v t) (h.are_apart u v key other k.1);
}

found_stands : (slots : Images) (s : StoreState) (t : ℕ) (key : List ℕ) → AreShown slots s.undos s → is_some (find key_cmp key (entries (images_of s t))) ≡ true → contains_key slots key ≡ true
found_stands slots s t key h e = h.slots_stand t key (ap is_some (get-entries (images_of s t) key) ∙ e)

pub shown_undone : (slots : Images) (s : StoreState) (t : ℕ) → AreShown slots s.undos s → AreShown (restored_all slots (entries (images_of s t))) (without s.undos t) (with_undone s t)
shown_undone slots s t h =
    ends slots (restored_all slots (entries (images_of s t))) s t _ h
    (restored_values slots s.now (entries (images_of s t)) (entries_sorted (images_of s t)) h.values_are (λ key e. found_stands slots s t key h e))
    (contains-restored_all slots (entries (images_of s t)))

pub shown_kept : (slots : Images) (s : StoreState) (t : ℕ) → AreShown slots s.undos s → AreShown (settled_all slots (entries (images_of s t))) (without s.undos t) (with_kept s t)
shown_kept slots s t h =
    ends slots (settled_all slots (entries (images_of s t))) s t s.now h
    (λ key. h.values_are key ∙ sym (settled_values slots (entries (images_of s t)) key))
    (contains-settled_all slots (entries (images_of s t)))

-- ---- a write
put_images : (s : StoreState) (t : ℕ) (m : Images) (u : ℕ) → or_nothing (look (put s.undos t m) u) ≡ cond (same_number u t) m (images_of s u)
put_images s t m u = ap or_nothing (look-put s.undos t m u) ∙ by (same_number u t) (look s.undos u)
  where
    by : (b : Bool) (o : Option Images) → or_nothing (cond b (Some m) o) ≡ cond b m (or_nothing o)
    by true o = refl
    by false o = refl

imaged_by : (m : Images) (key : List ℕ) (before : Option (List ℕ)) (q : List ℕ) (b : Bool) → ties q key ≡ false → contains_key (if b then m else insert m key (slot_of before)) q ≡ contains_key m q
imaged_by m key before q true e = refl
imaged_by m key before q false e = contains-insert m key (slot_of before) q ∙ ap (λ b. b || contains_key m q) e

contains-with_image : (m : Images) (key : List ℕ) (before : Option (List ℕ)) (q : List ℕ) → ties q key ≡ false → contains_key (with_image m key before) q ≡ contains_key m q
contains-with_image m key before q e = imaged_by m key before q (contains_key m key) e

module _ (slots : Images) (s : StoreState) (t : ℕ) (key : List ℕ) (value : Option (List ℕ)) (h : AreShown slots s.undos s) (free : IsFree s t key) where
  abbrev pub image : Images
  image = with_image (images_of s t) key (get s.now key)

  stands_by : (u : ℕ) (q : List ℕ) (own at : Bool) → same_number u t ≡ own → ties q key ≡ at → contains_key (cond own image (images_of s u)) q ≡ true → (at || contains_key slots q) ≡ true
  stands_by u q own true e f is = refl
  stands_by u q true false e f is = h.slots_stand t q (sym (contains-with_image (images_of s t) key (get s.now key) q f) ∙ is)
  stands_by u q false false e f is = h.slots_stand u q is

  apart_by : (u v : ℕ) (q : List ℕ) (own other at : Bool) → same_number u t ≡ own → same_number v t ≡ other → ties q key ≡ at → v ≢ u
      → contains_key (cond own image (images_of s u)) q ≡ true → contains_key (cond other image (images_of s v)) q ≡ false
  apart_by u v q true true at e f g apart is = absurd (apart (one_number v t f ∙ sym (one_number u t e)))
  apart_by u v q true false true e f g apart is = ap (contains_key (images_of s v)) (tied q key g) ∙ free v (other_number v t f)
  apart_by u v q true false false e f g apart is =
      h.are_apart t v q (other_number v t f) (sym (contains-with_image (images_of s t) key (get s.now key) q g) ∙ is)
  apart_by u v q false true true e f g apart is =
      absurd (true≢false (sym is ∙ ap (contains_key (images_of s u)) (tied q key g) ∙ free u (other_number u t e)))
  apart_by u v q false true false e f g apart is =
      contains-with_image (images_of s t) key (get s.now key) q g ∙ h.are_apart u t q (λ same. other_number u t e (sym same)) is
  apart_by u v q false false at e f g apart is = h.are_apart u v q apart is

  pub shown_put : AreShown (insert slots key (slot_of value)) (put s.undos t image) (with_put s t key value)
  shown_put = record {
    values_are = λ q. get-with_change s.now key value q ∙ ap (cond (ties q key) value) (h.values_are q) ∙ sym (value-insert slots key value q);
    undos_are = refl;
    slots_stand = λ u q e. contains-insert slots key (slot_of value) q
        ∙ stands_by u q (same_number u t) (ties q key) refl refl (ap (λ m. contains_key m q) (sym (put_images s t image u)) ∙ e);
    are_apart = λ u v q other e. ap (λ m. contains_key m q) (put_images s t image v)
        ∙ apart_by u v q (same_number u t) (same_number v t) (ties q key) refl refl refl other (ap (λ m. contains_key m q) (sym (put_images s t image u)) ∙ e);
  }

-- the table of undos is that of the state
pub shown_alike : (slots : Images) (undos : Table Images) (s : StoreState) → AreShown slots undos s → AreShown slots s.undos s
shown_alike slots undos s h = record {
  values_are = h.values_are;
  undos_are = refl;
  slots_stand = h.slots_stand;
  are_apart = h.are_apart;
}

pub shown_along : {slots slots' : Images} {undos undos' : Table Images} (s : StoreState) → slots ≡ slots' → undos ≡ undos' → AreShown slots' undos' s → AreShown slots undos s
shown_along s e f h = subst (λ (p : Images × Table Images). AreShown p.0 p.1 s) (λ i. (sym e i, sym f i)) h
