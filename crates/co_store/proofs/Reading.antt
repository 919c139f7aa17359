-- Slots read as records.
use Rattle.std.proofs.Common.{◌≡◌, T, ℕ, Bool, true, false, cond, List, [], ◌∷◌, map, filter, Option, None, Some, refl, sym, ap, ◌∙◌}
use Rattle.std.proofs.lemmas.Cmp.{nat_list_cmp_total}
use Rattle.std.specs.declared.cmp.Ordering.TheVariants.{Equal}
use Rattle.std.specs.FinMap.{empty, entries, entries_sorted, get, get-entries, get-empty, same_map, slice_cmp-IsAntisymmetric, nat_cmp-IsAntisymmetric}
use Rattle.std.specs.FinMap.Entries.{find, is_sorted, where_key, same_entries, find-where_key, is_sorted-where_key}
use Rattle.co_base.specs.Order.{key_cmp}
use Rattle.co_base.specs.Span.{Span, span_has}
use Rattle.co_serial.specs.Records.{Records, row_of, all_rows, rows_within}
use Rattle.co_store.specs.declared.slots.Slot.{Slot}
use Rattle.co_store.specs.Images.{Images, value_in}
use Rattle.co_store.specs.StoreState.{noted, all_noted}
use Rattle.co_store.proofs.Laying.{ties, tied, get-with_change, first, second}
use Rattle.co_state.proofs.Ties.{nothing_below}

-- a value that is there, and else what was there before
abbrev pub or_else : Option (List ℕ) → Option (List ℕ) → Option (List ℕ)
or_else None other = other
or_else (Some v) other = Some v

noted_value : (records : Records) (k : List ℕ) (v : Option (List ℕ)) (q : List ℕ) → get (noted records k v) q ≡ cond (ties q k) (or_else v (get records q)) (get records q)
noted_value records k None q = sym (same (ties q k) (get records q))
  where
    same : (b : Bool) (o : Option (List ℕ)) → cond b o o ≡ o
    same true o = refl
    same false o = refl
noted_value records k (Some w) q = get-with_change records k (Some w) q

step : (b : Bool) (s : Slot) (o : Option Slot) (old : Option (List ℕ)) → (b ≡ true → o ≡ None) → or_else (value_in o) (cond b (or_else s.value old) old) ≡ or_else (value_in (cond b (Some s) o)) old
step true s o old none = ap (λ x. or_else (value_in x) (or_else s.value old)) (none refl)
step false s o old none = refl

noted_all : (records : Records) (es : List (List ℕ × Slot)) (q : List ℕ) → T (is_sorted key_cmp es) → get (all_noted records es) q ≡ or_else (value_in (find key_cmp q es)) (get records q)
noted_all records [] q h = refl
noted_all records (e ∷ es) q h =
    noted_all (noted records e.0 e.1.value) es q (second _ _ h)
    ∙ ap (or_else (value_in (find key_cmp q es))) (noted_value records e.0 e.1.value q)
    ∙ step (ties q e.0) e.1 (find key_cmp q es) (get records q) (λ t. ap (λ k. find key_cmp k es) (tied q e.0 t) ∙ nothing_below key_cmp e.0 es (first _ _ h))

or_none : (o : Option (List ℕ)) → or_else o None ≡ o
or_none None = refl
or_none (Some v) = refl

noted_at : (es : List (List ℕ × Slot)) (q : List ℕ) → T (is_sorted key_cmp es) → get (all_noted empty es) q ≡ value_in (find key_cmp q es)
noted_at es q h = noted_all empty es q h ∙ ap (or_else (value_in (find key_cmp q es))) (get-empty key_cmp q) ∙ or_none (value_in (find key_cmp q es))

-- every slot, as a record
pub noted_slots : (slots : Images) (now : Records) → ((q : List ℕ) → get now q ≡ value_in (get slots q)) → all_noted empty (entries slots) ≡ now
noted_slots slots now same =
    same_map nat_list_cmp_total (slice_cmp-IsAntisymmetric nat_cmp-IsAntisymmetric) _ _
    (λ q. noted_at (entries slots) q (entries_sorted slots) ∙ ap value_in (sym (get-entries slots q)) ∙ sym (same q))

value_cond : (b : Bool) (o : Option Slot) → value_in (cond b o None) ≡ cond b (value_in o) None
value_cond true o = refl
value_cond false o = refl

alike : (span : Span) (q x : List ℕ) → key_cmp q x ≡ Equal → span_has span x ≡ span_has span q
alike span q x e = ap (span_has span) (sym (slice_cmp-IsAntisymmetric nat_cmp-IsAntisymmetric q x e))

-- the slots of a range, as its records
pub noted_within : (slots : Images) (now : Records) (span : Span) → ((q : List ℕ) → get now q ≡ value_in (get slots q))
    → all_rows (all_noted empty (filter (λ e. span_has span e.0) (entries slots))) ≡ rows_within now span
noted_within slots now span same =
    let inside = where_key key_cmp (span_has span) (entries slots) in
    ap (map row_of)
    (same_entries key_cmp nat_list_cmp_total (slice_cmp-IsAntisymmetric nat_cmp-IsAntisymmetric) _ _
    (entries_sorted (all_noted empty inside)) (is_sorted-where_key key_cmp (span_has span) (entries now) (entries_sorted now))
    (λ q. sym (get-entries (all_noted empty inside) q)
    ∙ noted_at inside q (is_sorted-where_key key_cmp (span_has span) (entries slots) (entries_sorted slots))
    ∙ ap value_in (find-where_key key_cmp (span_has span) q (alike span q) (entries slots))
    ∙ value_cond (span_has span q) (find key_cmp q (entries slots))
    ∙ ap (λ v. cond (span_has span q) v None) (ap value_in (sym (get-entries slots q)) ∙ sym (same q) ∙ get-entries now q)
    ∙ sym (find-where_key key_cmp (span_has span) q (alike span q) (entries now))))
