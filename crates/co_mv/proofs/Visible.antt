-- Records that are read from versions.
use Rattle.std.proofs.Common.{◌≡◌, T, ℕ, Bool, true, false, cond, List, [], ◌∷◌, map, filter, if◌then◌else◌, Option, None, Some, refl, sym, ap, ◌∙◌, true≢false}
use Rattle.std.proofs.lemmas.Cmp.{nat_list_cmp_total}
use Rattle.std.specs.FinMap.{empty, entries, entries_sorted, get, get-entries, get-empty, same_map, slice_cmp-IsAntisymmetric, nat_cmp-IsAntisymmetric}
use Rattle.std.specs.FinMap.Entries.{find, is_sorted, same_entries}
use Rattle.co_base.specs.Order.{key_cmp}
use Rattle.co_base.specs.Span.{Span, span_has}
use Rattle.co_base.specs.declared.written.Written.{Written}
use Rattle.co_serial.specs.Records.{Records, row_of, all_rows, rows_within, with_change, with_changes}
use Rattle.co_state.specs.Keys.{same_key}
use Rattle.co_mv.specs.declared.version.Version.{Version}
use Rattle.co_mv.specs.Chains.{Chains, chain_in, chain_of}
use Rattle.co_mv.specs.Reading.{noted, all_noted, changed_within, laid_within}
use Rattle.co_mv.specs.Versions.{seen_value}
use Rattle.co_pairs.proofs.Picking.{first, second}
use Rattle.co_index.proofs.Listed.{key-below, find-within, sorted-within}
use Rattle.co_mv.proofs.Chaining.{same_keys}
use Rattle.co_mv.proofs.Versioning.{get-with_change}

-- a value that is there, and else what was there before
abbrev pub or_else : Option (List ℕ) → Option (List ℕ) → Option (List ℕ)
or_else None other = other
or_else (Some v) other = Some v

abbrev pub value_of : ℕ → Option (List Version) → Option (List ℕ)
value_of n o = seen_value n (chain_in o)

cond-same : {A : Type 0} (b : Bool) (x : A) → cond b x x ≡ x
cond-same true x = refl
cond-same false x = refl

noted_value : (records : Records) (k : List ℕ) (v : Option (List ℕ)) (q : List ℕ) → get (noted records k v) q ≡ cond (same_key q k) (or_else v (get records q)) (get records q)
noted_value records k None q = sym (cond-same (same_key q k) (get records q))
noted_value records k (Some w) q = get-with_change records k (Some w) q

step : (n : ℕ) (b : Bool) (c : List Version) (o : Option (List Version)) (old : Option (List ℕ)) → (b ≡ true → o ≡ None)
    → or_else (value_of n o) (cond b (or_else (seen_value n c) old) old) ≡ or_else (value_of n (cond b (Some c) o)) old
step n true c o old none = ap (λ x. or_else (value_of n x) (or_else (seen_value n c) old)) (none refl)
step n false c o old none = refl

noted_all : (n : ℕ) (records : Records) (es : List (List ℕ × List Version)) (q : List ℕ) → T (is_sorted key_cmp es) → get (all_noted n records es) q ≡ or_else (value_of n (find key_cmp q es)) (get records q)
noted_all n records [] q h = refl
noted_all n records (e ∷ es) q h =
    noted_all n (noted records e.0 (seen_value n e.1)) es q (second _ _ h)
    ∙ ap (or_else (value_of n (find key_cmp q es))) (noted_value records e.0 (seen_value n e.1) q)
    ∙ step n (same_key q e.0) e.1 (find key_cmp q es) (get records q) (λ t. ap (λ k. find key_cmp k es) (same_keys q e.0 t) ∙ key-below e.0 es (first _ _ h))

or_none : (o : Option (List ℕ)) → or_else o None ≡ o
or_none None = refl
or_none (Some v) = refl

noted_at : (n : ℕ) (es : List (List ℕ × List Version)) (q : List ℕ) → T (is_sorted key_cmp es) → get (all_noted n empty es) q ≡ value_of n (find key_cmp q es)
noted_at n es q h = noted_all n empty es q h ∙ ap (or_else (value_of n (find key_cmp q es))) (get-empty key_cmp q) ∙ or_none (value_of n (find key_cmp q es))

-- every key
pub noted_records : (n : ℕ) (chains : Chains) (now : Records) → ((q : List ℕ) → get now q ≡ seen_value n (chain_of chains q)) → all_noted n empty (entries chains) ≡ now
noted_records n chains now same =
    same_map nat_list_cmp_total (slice_cmp-IsAntisymmetric nat_cmp-IsAntisymmetric) _ _
    (λ q. noted_at n (entries chains) q (entries_sorted chains) ∙ ap (value_of n) (sym (get-entries chains q)) ∙ sym (same q))

value_cond : (n : ℕ) (b : Bool) (o : Option (List Version)) → value_of n (cond b o None) ≡ cond b (value_of n o) None
value_cond n true o = refl
value_cond n false o = refl

abbrev pub in_span : Span → List ℕ → Option (List ℕ) → Option (List ℕ)
in_span span q o = cond (span_has span q) o None

-- the keys of a range
pub within_at : (n : ℕ) (chains : Chains) (now : Records) (span : Span) → ((q : List ℕ) → get now q ≡ seen_value n (chain_of chains q))
    → (q : List ℕ) → get (all_noted n empty (filter (λ e. span_has span e.0) (entries chains))) q ≡ in_span span q (get now q)
within_at n chains now span same q =
    noted_at n (filter (λ e. span_has span e.0) (entries chains)) q (sorted-within span (entries chains) (entries_sorted chains))
    ∙ ap (value_of n) (find-within span q (entries chains))
    ∙ value_cond n (span_has span q) (find key_cmp q (entries chains))
    ∙ ap (λ v. cond (span_has span q) v None) (ap (value_of n) (sym (get-entries chains q)) ∙ sym (same q))

-- ---- own writes laid over
change_step : (span : Span) (r now : Records) (w : Written) (q : List ℕ) (b c d : Bool) → span_has span w.key ≡ b → same_key q w.key ≡ c → span_has span q ≡ d → get r q ≡ cond d (get now q) None
    → get (if b then with_change r w.key w.value else r) q ≡ cond d (cond c w.value (get now q)) None
change_step span r now w q true true true e f g same = get-with_change r w.key w.value q ∙ ap (λ x. cond x w.value (get r q)) f
change_step span r now w q true false d e f g same = get-with_change r w.key w.value q ∙ ap (λ x. cond x w.value (get r q)) f ∙ same
change_step span r now w q false false d e f g same = same
change_step span r now w q true true false e f g same = absurd (true≢false (sym (ap (span_has span) (same_keys q w.key f) ∙ e) ∙ g))
change_step span r now w q false true true e f g same = absurd (true≢false (sym g ∙ ap (span_has span) (same_keys q w.key f) ∙ e))
change_step span r now w q false true false e f g same = same

pub laid_at : (span : Span) (ws : List Written) (r now : Records) → ((q : List ℕ) → get r q ≡ in_span span q (get now q)) → (q : List ℕ) → get (laid_within span r ws) q ≡ in_span span q (get (with_changes now ws) q)
laid_at span [] r now same q = same q
laid_at span (w ∷ ws) r now same q =
    laid_at span ws (changed_within span r w) (with_change now w.key w.value)
    (λ k. change_step span r now w k (span_has span w.key) (same_key k w.key) (span_has span k) refl refl refl (same k) ∙ ap (in_span span k) (sym (get-with_change now w.key w.value k))) q

-- all rows of the records of a range
pub rows_same : (span : Span) (r now : Records) → ((q : List ℕ) → get r q ≡ in_span span q (get now q)) → all_rows r ≡ rows_within now span
rows_same span r now same =
    ap (map row_of)
    (same_entries key_cmp nat_list_cmp_total (slice_cmp-IsAntisymmetric nat_cmp-IsAntisymmetric) _ _ (entries_sorted r) (sorted-within span (entries now) (entries_sorted now))
    (λ q. sym (get-entries r q) ∙ same q ∙ ap (λ o. cond (span_has span q) o None) (get-entries now q) ∙ sym (find-within span q (entries now))))
