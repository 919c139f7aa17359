-- Changes laid over records, and the records of a range.
use Rattle.std.proofs.Common.{◌≡◌, T, ℕ, Bool, true, false, cond, List, [], ◌∷◌, ◌++◌, map, filter, Option, None, Some, Result, Ok, Err, OnErr, refl, sym, ap, ◌∙◌, subst}
use Rattle.std.specs.Ordering.{eq_by_cmp}
use Rattle.std.specs.declared.cmp.Ordering.TheVariants.{Equal}
use Rattle.std.proofs.lemmas.Cmp.{nat_list_cmp_total}
use Rattle.std.specs.FinMap.{empty, entries, entries_sorted, get, insert, get-entries, get-empty, get-insert, same_map, slice_cmp-IsAntisymmetric, nat_cmp-IsAntisymmetric}
use Rattle.std.specs.FinMap.Entries.{find, is_sorted, where_key, same_entries, find-where_key, is_sorted-where_key}
use Rattle.co_base.specs.Order.{key_cmp}
use Rattle.co_base.specs.Span.{Span, span_has}
use Rattle.co_base.specs.declared.row.Row.{Row}
use Rattle.co_base.specs.declared.written.Written.{Written}
use Rattle.co_serial.specs.Records.{Records, row_of, all_rows, rows_within, with_change, with_changes}
use Rattle.co_state.specs.Effects.{records_from}
use Rattle.co_index.proofs.Laying.{get-with_change}
use Rattle.co_occ.specs.Seen.{laid_within}
use Rattle.co_state.proofs.Ties.{first, second, tie, nothing_below}

pub on_err : {X E : Type 0} (r : Result X E) {A : Type 0} → A → OnErr r A
on_err (Ok x) h = tt
on_err (Err e) h = h

-- ---- rows laid in from the last one on
abbrev pub laid_under : List Row → Records → Records
laid_under [] records = records
laid_under (r ∷ rs) records = insert (laid_under rs records) r.key r.value

pub laid_under-push : (rs : List Row) (r : Row) (records : Records) → laid_under (rs ++ r ∷ []) records ≡ laid_under rs (insert records r.key r.value)
laid_under-push [] r records = refl
laid_under-push (s ∷ rs) r records = ap (λ m. insert m s.key s.value) (laid_under-push rs r records)

pub laid_under-empty : (rs : List Row) → laid_under rs empty ≡ records_from rs
laid_under-empty [] = refl
laid_under-empty (r ∷ rs) = ap (λ m. insert m r.key r.value) (laid_under-empty rs)

-- ---- keys that tie
abbrev pub ties : List ℕ → List ℕ → Bool
ties = eq_by_cmp key_cmp

pub tied : (q k : List ℕ) → ties q k ≡ true → q ≡ k
tied q k e = slice_cmp-IsAntisymmetric nat_cmp-IsAntisymmetric q k (tie (key_cmp q k) e)

-- ---- entries laid over records
abbrev pub laid_over : Records → List (List ℕ × List ℕ) → Records
laid_over records [] = records
laid_over records (e ∷ es) = laid_over (insert records e.0 e.1) es

abbrev or_else : Option (List ℕ) → Option (List ℕ) → Option (List ℕ)
or_else None other = other
or_else (Some v) other = Some v

or_none : (o : Option (List ℕ)) → or_else o None ≡ o
or_none None = refl
or_none (Some v) = refl

step : (b : Bool) (v : List ℕ) (o old : Option (List ℕ)) → (b ≡ true → o ≡ None) → or_else o (cond b (Some v) old) ≡ or_else (cond b (Some v) o) old
step true v o old none = ap (λ x. or_else x (Some v)) (none refl)
step false v o old none = refl

laid_at : (records : Records) (es : List (List ℕ × List ℕ)) (q : List ℕ) → T (is_sorted key_cmp es) → get (laid_over records es) q ≡ or_else (find key_cmp q es) (get records q)
laid_at records [] q h = refl
laid_at records (e ∷ es) q h =
    laid_at (insert records e.0 e.1) es q (second _ _ h)
    ∙ ap (or_else (find key_cmp q es)) (get-insert nat_list_cmp_total records e.0 e.1 q)
    ∙ step (ties q e.0) e.1 (find key_cmp q es) (get records q) (λ t. ap (λ k. find key_cmp k es) (tied q e.0 t) ∙ nothing_below key_cmp e.0 es (first _ _ h))

laid_alone : (es : List (List ℕ × List ℕ)) (q : List ℕ) → T (is_sorted key_cmp es) → get (laid_over empty es) q ≡ find key_cmp q es
laid_alone es q h = laid_at empty es q h ∙ ap (or_else (find key_cmp q es)) (get-empty key_cmp q) ∙ or_none (find key_cmp q es)

-- every entry gives the records
pub laid_all : (records : Records) → laid_over empty (entries records) ≡ records
laid_all records =
    same_map nat_list_cmp_total (slice_cmp-IsAntisymmetric nat_cmp-IsAntisymmetric) _ _
    (λ q. laid_alone (entries records) q (entries_sorted records) ∙ sym (get-entries records q))

alike : (span : Span) (q x : List ℕ) → key_cmp q x ≡ Equal → span_has span x ≡ span_has span q
alike span q x e = ap (span_has span) (sym (slice_cmp-IsAntisymmetric nat_cmp-IsAntisymmetric q x e))

abbrev pub inside : Span → Records → List (List ℕ × List ℕ)
inside span records = where_key key_cmp (span_has span) (entries records)

-- the entries of a range are the records there, and nothing else
inside_at : (span : Span) (records : Records) (q : List ℕ) → get (laid_over empty (inside span records)) q ≡ cond (span_has span q) (get records q) None
inside_at span records q =
    laid_alone (inside span records) q (is_sorted-where_key key_cmp (span_has span) (entries records) (entries_sorted records))
    ∙ find-where_key key_cmp (span_has span) q (alike span q) (entries records)
    ∙ ap (λ v. cond (span_has span q) v None) (sym (get-entries records q))

within_change : (has : Bool) (tied : Bool) (v old : Option (List ℕ)) → (tied ≡ true → has ≡ true) → cond tied v (cond has old None) ≡ cond has (cond tied v old) None
within_change true true v old h = refl
within_change true false v old h = refl
within_change false true v old h = absurd (subst T (sym (h refl)) tt)
within_change false false v old h = refl

without_change : (has : Bool) (tied : Bool) (v old : Option (List ℕ)) → (tied ≡ true → has ≡ false) → cond has old None ≡ cond has (cond tied v old) None
without_change true true v old h = absurd (subst T (h refl) tt)
without_change true false v old h = refl
without_change false true v old h = refl
without_change false false v old h = refl

laid_change : (span : Span) (part records : Records) (w : Written) (ws : List Written) (q : List ℕ) → (b : Bool) → span_has span w.key ≡ b
    → ((part' records' : Records) → ((q : List ℕ) → get part' q ≡ cond (span_has span q) (get records' q) None) → get (with_changes part' (filter (λ v. span_has span v.key) ws)) q ≡ cond (span_has span q) (get (with_changes records' ws) q) None)
    → ((q : List ℕ) → get part q ≡ cond (span_has span q) (get records q) None)
    → get (with_changes part (cond b (w ∷ filter (λ v. span_has span v.key) ws) (filter (λ v. span_has span v.key) ws))) q ≡ cond (span_has span q) (get (with_changes (with_change records w.key w.value) ws) q) None
laid_change span part records w ws q true has next same =
    next (with_change part w.key w.value) (with_change records w.key w.value) (λ p.
    get-with_change part w.key w.value p ∙ ap (cond (ties p w.key) w.value) (same p)
    ∙ within_change (span_has span p) (ties p w.key) w.value (get records p) (λ t. ap (span_has span) (tied p w.key t) ∙ has)
    ∙ ap (λ v. cond (span_has span p) v None) (sym (get-with_change records w.key w.value p)))
laid_change span part records w ws q false has next same =
    next part (with_change records w.key w.value) (λ p.
    same p ∙ without_change (span_has span p) (ties p w.key) w.value (get records p) (λ t. ap (span_has span) (tied p w.key t) ∙ has)
    ∙ ap (λ v. cond (span_has span p) v None) (sym (get-with_change records w.key w.value p)))

laid_alike : (span : Span) (ws : List Written) (q : List ℕ) (part records : Records) → ((q : List ℕ) → get part q ≡ cond (span_has span q) (get records q) None)
    → get (laid_within part ws span) q ≡ cond (span_has span q) (get (with_changes records ws) q) None
laid_alike span [] q part records same = same q
laid_alike span (w ∷ ws) q part records same = laid_change span part records w ws q (span_has span w.key) refl (laid_alike span ws q) same

-- the changes of keys of a range, laid over the records of that range
pub laid-rows_within : (records : Records) (ws : List Written) (span : Span) → all_rows (laid_within (laid_over empty (inside span records)) ws span) ≡ rows_within (with_changes records ws) span
laid-rows_within records ws span =
    let now = with_changes records ws in
    let part = laid_within (laid_over empty (inside span records)) ws span in
    ap (map row_of)
    (same_entries key_cmp nat_list_cmp_total (slice_cmp-IsAntisymmetric nat_cmp-IsAntisymmetric) _ _
    (entries_sorted part) (is_sorted-where_key key_cmp (span_has span) (entries now) (entries_sorted now))
    (λ q. sym (get-entries part q)
    ∙ laid_alike span ws q (laid_over empty (inside span records)) records (inside_at span records)
    ∙ ap (λ v. cond (span_has span q) v None) (get-entries now q)
    ∙ sym (find-where_key key_cmp (span_has span) q (alike span q) (entries now))))
