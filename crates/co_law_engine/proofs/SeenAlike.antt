-- Replies agree where the records agree on what is read.
use Rattle.std.proofs.Common.{◌≡◌, ℕ, Bool, true, false, not, ◌&&◌, cond, List, map, Option, None, Some, refl, sym, ap, ◌∙◌}
use Rattle.std.specs.Ordering.{is_gt}
use Rattle.std.proofs.lemmas.Cmp.{nat_list_cmp_total}
use Rattle.std.specs.FinMap.{get, entries, entries_sorted, get-entries, slice_cmp-IsAntisymmetric, nat_cmp-IsAntisymmetric}
use Rattle.std.specs.FinMap.Entries.{where_key, find, find-where_key, is_sorted-where_key, same_entries}
use Rattle.co_base.specs.Order.{key_cmp}
use Rattle.co_base.specs.Span.{Span, span_has, span_of_key}
use Rattle.co_base.specs.declared.op.Op.{Op}
use Rattle.co_base.specs.declared.op.Op.TheVariants.{Read, Write, Erase, Scan}
use Rattle.co_base.specs.declared.reply.Reply.TheVariants.{Got, Rows}
use Rattle.co_serial.specs.Records.{Records, row_of, rows_within}
use Rattle.co_serial.specs.SerialRun.{reply_to}
use Rattle.co_state.specs.Changes.{span_read}
use Rattle.co_law_engine.proofs.Keys.{equal_keys, own_order}

-- the records agree on a range
abbrev pub AgreeOn : Option Span → Records → Records → Type 0
AgreeOn None r s = Unit {0}
AgreeOn (Some span) r s = (q : List ℕ) → span_has span q ≡ true → get r q ≡ get s q

picked : {A : Type 0} (b : Bool) (x y : Option A) → (b ≡ true → x ≡ y) → cond b x None ≡ cond b y None
picked true x y e = e refl
picked false x y e = refl

found_in : (span : Span) (r : Records) (q : List ℕ) → find key_cmp q (where_key key_cmp (span_has span) (entries r)) ≡ cond (span_has span q) (get r q) None
found_in span r q =
    find-where_key key_cmp (span_has span) q (λ x t. ap (span_has span) (sym (equal_keys q x t))) (entries r)
    ∙ ap (λ o. cond (span_has span q) o None) (sym (get-entries r q))

-- the rows of a range
pub rows_agree : (span : Span) (r s : Records) → AgreeOn (Some span) r s → rows_within r span ≡ rows_within s span
rows_agree span r s h =
    ap (map row_of)
    (same_entries key_cmp nat_list_cmp_total (slice_cmp-IsAntisymmetric nat_cmp-IsAntisymmetric)
    (where_key key_cmp (span_has span) (entries r)) (where_key key_cmp (span_has span) (entries s))
    (is_sorted-where_key key_cmp (span_has span) (entries r) (entries_sorted r)) (is_sorted-where_key key_cmp (span_has span) (entries s) (entries_sorted s))
    (λ q. found_in span r q ∙ picked (span_has span q) (get r q) (get s q) (h q) ∙ sym (found_in span s q)))

-- a key is in its own range
pub span_own : (key : List ℕ) → span_has (span_of_key key) key ≡ true
span_own key = ap (λ r. not (is_gt r) && not (is_gt r)) (own_order key)

-- the same reply
pub replies_agree : (o : Op) (r s : Records) → AgreeOn (span_read o) r s → reply_to r o ≡ reply_to s o
replies_agree (Read key) r s h = ap Got (h key (span_own key))
replies_agree (Write key value) r s h = refl
replies_agree (Erase key) r s h = refl
replies_agree (Scan span) r s h = ap Rows (rows_agree span r s h)
